use Rattle.std.proofs.Common.{sym, ap, ◌∙◌, subst, slice_get}
use Rattle.std.specs.Prelude.{IsSome}
use Rattle.graph_base.specs.Edges.{incident}
use Rattle.graph_base.specs.EdgeRows.{EdgeList}
use Rattle.graph_base.proofs.AtNode.{numbered}
use Rattle.graph_base.proofs.HalvesAt.{no_half, half_live, half_row, half_edge}
use Rattle.graph_base.proofs.edge_rows.EdgeRows.incident_at.Goals as goal

pub returns-in_err-half : goal.returns-in_err-half
returns-in_err-half c =
    let m = c.self.inside in
    c.from_residual.ensures ∙ sym (no_half numbered c.args.a.now m.rows m.halves c.self.invariant.halves_equal c.args.i (sym c.at.ensures ∙ c.in_err-half.was)) ∙ ap (λ (x : EdgeList). slice_get (incident c.args.a.now x.edges) c.args.i) c.self.view_is

pub pair-end-requires : goal.pair-end-requires
pair-end-requires c = let m = c.self.inside in half_live numbered c.args.a.now m.rows m.halves c.self.invariant.halves_equal c.len-halves.ensures.distinct c.len-len.ensures.distinct c.args.i c.in_ok-half.half (sym c.at.ensures ∙ c.in_ok-half.was)

pub unwrap-row-requires : goal.unwrap-row-requires
unwrap-row-requires c =
    let m = c.self.inside in
    subst IsSome (sym c.probe.ensures)
    (half_row numbered c.args.a.now m.rows m.halves c.self.invariant.halves_equal c.len-halves.ensures.distinct c.len-len.ensures.distinct c.args.i c.in_ok-half.half (sym c.at.ensures ∙ c.in_ok-half.was) c.pair-end.result c.pair-end.ensures)

pub returns : goal.returns
returns c =
    let m = c.self.inside in
    sym
    (half_edge numbered c.args.a.now m.rows m.halves c.self.invariant.halves_equal c.len-halves.ensures.distinct c.len-len.ensures.distinct c.args.i c.in_ok-half.half (sym c.at.ensures ∙ c.in_ok-half.was) c.pair-end.result c.pair-end.ensures c.unwrap-row.result
    (sym c.probe.ensures ∙ c.unwrap-row.ensures))
    ∙ ap (λ (x : EdgeList). slice_get (incident c.args.a.now x.edges) c.args.i) c.self.view_is
