use Rattle.std.proofs.Common.{sym, ap, ◌∙◌, slice_get}
use Rattle.graph_base.specs.Edges.{incident}
use Rattle.graph_base.proofs.HalvesAt.{no_half, half_live, half_row, edge_of_half}
use Rattle.network_base.proofs.AtNode.{named}
use Rattle.network_base.proofs.named_edges.NamedEdges.first_at.Goals as goal

pub returns-in_err-half : goal.returns-in_err-half
returns-in_err-half c =
    let m = c.self.inside in
    c.from_residual.ensures ∙ sym (no_half named c.args.a.now m.rows m.halves c.self.invariant.halves_equal 0 (sym c.at.ensures ∙ c.in_err-half.was)) ∙ ap (λ es. slice_get (incident c.args.a.now es) 0) c.self.view_is

pub edge_of_half-requires-clause-live : goal.edge_of_half-requires-clause-live
edge_of_half-requires-clause-live c =
    let m = c.self.inside in
    half_live named c.args.a.now m.rows m.halves c.self.invariant.halves_equal c.len-halves.ensures.distinct c.len-len.ensures.distinct 0 c.in_ok-half.half (sym c.at.ensures ∙ c.in_ok-half.was)

pub edge_of_half-requires-clause-row : goal.edge_of_half-requires-clause-row
edge_of_half-requires-clause-row c p e =
    let m = c.self.inside in
    half_row named c.args.a.now m.rows m.halves c.self.invariant.halves_equal c.len-halves.ensures.distinct c.len-len.ensures.distinct 0 c.in_ok-half.half (sym c.at.ensures ∙ c.in_ok-half.was) p e

pub returns : goal.returns
returns c =
    let m = c.self.inside in
    sym (edge_of_half named c.args.a.now m.rows m.halves c.self.invariant.halves_equal c.len-halves.ensures.distinct c.len-len.ensures.distinct 0 c.in_ok-half.half (sym c.at.ensures ∙ c.in_ok-half.was) c.edge_of_half.result c.edge_of_half.ensures)
    ∙ ap (λ es. slice_get (incident c.args.a.now es) 0) c.self.view_is
