use Rattle.std.proofs.Common.{◌≡◌, ◌<◌, Bool, ◌&&◌, ◌||◌, ◌∷◌, [], ◌++◌, cond, nat_le, length, get_or, ap, sym, ◌∙◌, arith}
use Rattle.elem.specs.declared.elements.Elem.{Elem}
use Rattle.graph_walk.specs.Graphs.{is_in}
use Rattle.graph_walk.specs.Places.{place}
use Rattle.graph_walk.specs.Closures.{may_stand}
use Rattle.graph_walk.proofs.ClosureLemmas.{place-of, row_more}
use Rattle.graph_walk.proofs.closures.add_joined.Goals as goal

pub loop-j-preserved : goal.loop-j-preserved
loop-j-preserved c =
    let nodes = c.args.nodes.now in
    let a = c.args.a.now in
    let j = c.loop-j.j in
    let item = c.index-nodes-j.result in
    let b = get_or nodes j item in
    let found = c.args.found.now in
    let edges = c.loop-j.edges.items in
    let test : Elem → Bool = λ x. may_stand c.args.directed nodes a x && is_in x found in
    let l : j < length nodes = omega arith in
    let is : item ≡ b = c.index-nodes-j.is in
    let same_test : c.is_joined-joined.result ≡ test b =
    c.is_joined-joined.ensures
    ∙ ap (λ n. (c.args.directed || nat_le n j) && is_in item found) (sym c.requires.number)
    ∙ ap (λ n. (c.args.directed || nat_le (place a nodes) n) && is_in item found) (sym (place-of nodes j item c.requires.distinct l))
    ∙ ap (λ x. (c.args.directed || nat_le (place a nodes) (place b nodes)) && is_in x found) is in
    c.in_ok-push_if.ensures
    ∙ ap (λ x. cond c.is_joined-joined.result (edges ++ (a, x) ∷ []) edges) is
    ∙ ap (λ k. cond k (edges ++ (a, b) ∷ []) edges) same_test
    ∙ row_more test a nodes j item c.args.edges.now.items edges l c.loop-j.invariant
