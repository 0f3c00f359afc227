use Rattle.std.proofs.Common.{sym, ap, ◌∙◌, subst}
use Rattle.std.specs.Prelude.{IsSome}
use Rattle.std.specs.HashMap as hash
use Rattle.slab.specs.Slab.{get}
use Rattle.graph_base.specs.Ends.{same_ends}
use Rattle.graph_base.specs.Edges.{edge_joining}
use Rattle.graph_base.specs.EdgeRows.{EdgeList}
use Rattle.graph_base.proofs.HeldEdges.{no_edge, row_there, its_edge}
use Rattle.graph_base.proofs.edge_rows.EdgeRows.edge.Goals as goal

pub returns-in_err-number : goal.returns-in_err-number
returns-in_err-number c =
    let m = c.self.inside in
    c.from_residual.ensures ∙ sym (no_edge m.directed m.rows m.halves (hash.get same_ends m.index) (get m.numbers) c.self.invariant c.args.a.now c.args.b.now (sym c.find_number.ensures ∙ c.in_err-number.was))
    ∙ ap (λ (x : EdgeList). edge_joining x.directed c.args.a.now c.args.b.now x.edges) c.self.view_is

pub unwrap-row-requires : goal.unwrap-row-requires
unwrap-row-requires c =
    let m = c.self.inside in
    subst IsSome (sym c.probe.ensures)
    (row_there m.directed m.rows m.halves (hash.get same_ends m.index) (get m.numbers) c.self.invariant c.args.a.now c.args.b.now c.in_ok-number.number (sym c.find_number.ensures ∙ c.in_ok-number.was) c.len-len.ensures.distinct)

pub returns : goal.returns
returns c =
    let m = c.self.inside in
    sym
    (its_edge m.directed m.rows m.halves (hash.get same_ends m.index) (get m.numbers) c.self.invariant c.args.a.now c.args.b.now c.in_ok-number.number (sym c.find_number.ensures ∙ c.in_ok-number.was) c.len-len.ensures.distinct c.unwrap-row.result
    (sym c.probe.ensures ∙ c.unwrap-row.ensures))
    ∙ ap (λ (x : EdgeList). edge_joining x.directed c.args.a.now c.args.b.now x.edges) c.self.view_is
