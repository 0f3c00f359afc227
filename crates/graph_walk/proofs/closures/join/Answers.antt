use Rattle.std.proofs.Common.{◌≡◌, ◌&&◌, ◌++◌, true, map, ap, sym, ◌∙◌, subst}
use Rattle.std.specs.List.{filter, IsDistinct}
use Rattle.elem.specs.Elements.{same}
use Rattle.graph_walk.specs.Graphs.{is_in}
use Rattle.graph_walk.specs.Places.{place}
use Rattle.graph_walk.specs.Closures.{may_stand, edges_from}
use Rattle.graph_walk.proofs.PlaceLemmas.{at-is_in, at_default}
use Rattle.graph_walk.proofs.ClosureLemmas.{place-of, row_found}
use Rattle.graph_walk.proofs.closures.join.Goals as goal

pub find_from-requires-clause-node : goal.find_from-requires-clause-node
find_from-requires-clause-node g c =
    let nodes = c.args.nodes.now in
    let a = c.index-nodes-i.result in
    sym (ap (λ xs. is_in a xs) c.requires.nodes) ∙ ap (λ x. is_in x nodes) c.index-nodes-i.is ∙ at-is_in nodes c.args.i a c.requires.inside

pub add_joined-requires-clause-number : goal.add_joined-requires-clause-number
add_joined-requires-clause-number g c =
    let nodes = c.args.nodes.now in
    let a = c.index-nodes-i.result in
    let distinct = subst (λ xs. IsDistinct same xs) (sym c.requires.nodes) c.directed-directed.ensures.valid.nodes in
    ap (λ x. place x nodes) c.index-nodes-i.is ∙ place-of nodes c.args.i a distinct c.requires.inside

pub returns : goal.returns
returns g c = λ d leads tells.
    let graph = g.W.Walkable.graph c.args.g.now in
    let nodes = c.args.nodes.now in
    let a = c.index-nodes-i.result in
    let found = c.find_from.new.found in
    let edges = c.args.edges.now.items in
    let node : is_in a graph.nodes ≡ true = sym (ap (λ xs. is_in a xs) c.requires.nodes) ∙ ap (λ x. is_in x nodes) c.index-nodes-i.is ∙ at-is_in nodes c.args.i a c.requires.inside in
    c.in_ok-add_joined.ensures
    ∙ ap (λ xs. edges ++ map (λ b. (a, b)) (filter (λ b. may_stand c.directed-directed.result xs a b && is_in b found) xs)) c.requires.nodes
    ∙ ap (λ t. edges ++ map (λ b. (a, b)) (filter (λ b. may_stand t graph.nodes a b && is_in b found) graph.nodes)) c.directed-directed.ensures.answer
    ∙ ap (λ es. edges ++ es) (row_found graph leads a found tells node c.in_ok-find_from.ensures.order)
    ∙ ap (λ x. edges ++ edges_from graph leads x) (c.index-nodes-i.is ∙ at_default nodes c.args.i a d c.requires.inside)
