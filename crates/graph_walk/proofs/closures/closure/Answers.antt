use Rattle.std.proofs.Common.{◌≡◌, ◌+◌, ◌<◌, ◌≤◌, ◌++◌, pos, length, get_or, take, ap, sym, ◌∙◌, subst, arith, length-append}
use Rattle.std.specs.List.{flat_map}
use Rattle.std.proofs.Math.Seq.{take-length}
use Rattle.elem.specs.declared.elements.Elem.{Elem}
use Rattle.elem.specs.declared.elements.Elem.TheVariants.{Int}
use Rattle.graph_walk.specs.Closures.{size, IsClosure, edges_from}
use Rattle.graph_walk.proofs.ReachLemmas.{can_tell}
use Rattle.graph_walk.proofs.ClosureLemmas.{rows_more, closure_size}
use Rattle.graph_walk.proofs.closures.closure.Goals as goal

any : Elem
any = Int (pos 0)

pub loop-i-init : goal.loop-i-init
loop-i-init g c =
    let n : length c.in_ok-nodes.nodes.items ≡ length (g.W.Walkable.graph c.args.g.now).nodes = ap length c.in_ok-nodes.ensures in
    let e : length c.new-edges.result.items ≡ 0 = ap length c.new-edges.ensures.items in record {
      rows = λ leads tells. c.new-edges.ensures.items;
      fits = omega arith;
    }

pub loop-i-preserved : goal.loop-i-preserved
loop-i-preserved g c =
    let graph = g.W.Walkable.graph c.args.g.now in
    let i = c.loop-i.i in
    let n : length c.in_ok-nodes.nodes.items ≡ length graph.nodes = ap length c.in_ok-nodes.ensures in
    let l : i < length graph.nodes = omega arith in record {
      rows = λ leads tells.
          c.in_ok-join.ensures any leads tells
          ∙ ap (λ es. es ++ edges_from graph leads (get_or c.deref.result.now i any)) (c.loop-i.invariant.rows leads tells)
          ∙ ap (λ xs. flat_map (edges_from graph leads) (take i graph.nodes) ++ edges_from graph leads (get_or xs i any)) (c.deref.ensures.value ∙ c.in_ok-nodes.ensures)
          ∙ rows_more (edges_from graph leads) graph.nodes i any l;
      fits = omega arith;
    }

pub returns-then-len-room-2-clause-limit : goal.returns-then-len-room-2-clause-limit
returns-then-len-room-2-clause-limit g c = λ e other h.
    let graph = g.W.Walkable.graph c.args.g.now in
    let i = c.loop-i.i in
    let n : length c.in_ok-nodes.nodes.items ≡ length graph.nodes = ap length c.in_ok-nodes.ensures in
    let l : i < length graph.nodes = omega arith in
    let row = edges_from graph h.leads (get_or graph.nodes i any) in
    let front = flat_map (edges_from graph h.leads) (take i graph.nodes) in
    let made : c.join.new.edges.items ≡ front ++ row =
    c.in_ok-join.ensures any h.leads h.exact
    ∙ ap (λ es. es ++ edges_from graph h.leads (get_or c.deref.result.now i any)) (c.loop-i.invariant.rows h.leads h.exact)
    ∙ ap (λ xs. front ++ edges_from graph h.leads (get_or xs i any)) (c.deref.ensures.value ∙ c.in_ok-nodes.ensures) in
    let longer : length c.join.new.edges.items ≡ length front + length row = ap length made ∙ length-append front row in
    let held : length graph.nodes + (length front + length row) ≤ size other = closure_size graph other h i any l in
    omega arith

pub returns-clause-closure : goal.returns-clause-closure
returns-clause-closure g c =
    let graph = g.W.Walkable.graph c.args.g.now in
    let told = can_tell graph c.directed-directed.ensures.valid in
    let n : length c.in_ok-nodes.nodes.items ≡ length graph.nodes = ap length c.in_ok-nodes.ensures in
    let all : c.loop-i.i ≡ length graph.nodes = omega arith in
    subst (λ pairs. IsClosure graph pairs) (sym c.new.ensures) (record {
      leads = told.0;
      exact = told.1;
      nodes = c.in_ok-nodes.ensures;
      edges = c.loop-i.invariant.rows told.0 told.1 ∙ ap (λ m. flat_map (edges_from graph told.0) (take m graph.nodes)) all ∙ ap (flat_map (edges_from graph told.0)) (take-length graph.nodes);
    })

pub returns-clause-fits : goal.returns-clause-fits
returns-clause-fits g c =
    let n : length c.in_ok-nodes.nodes.items ≡ length (g.W.Walkable.graph c.args.g.now).nodes = ap length c.in_ok-nodes.ensures in
    let s : size c.new.result ≡ length c.in_ok-nodes.nodes.items + length c.loop-i.edges.items = ap size c.new.ensures in
    let f = c.loop-i.invariant.fits in
    omega arith
