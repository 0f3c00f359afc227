use Rattle.std.proofs.Common.{sym, ap, ◌∙◌, ◌+◌, subst, slice_get}
use Rattle.std.specs.Prelude.{IsSome}
use Rattle.graph_base.specs.Edges.{incident}
use Rattle.graph_base.proofs.HalvesAt.{no_half, half_live, half_row, edge_of_half}
use Rattle.network_base.proofs.AtNode.{named, edge_row, edge_half_live, next_half}
use Rattle.network_base.proofs.named_edges.NamedEdges.after_at.Goals as goal

pub unwrap-row-requires : goal.unwrap-row-requires
unwrap-row-requires c =
    let m = c.self.inside in
    let k = c.requires.0 in
    let at = ap (λ es. slice_get (incident c.args.a.now es) k) c.self.view_is ∙ c.requires.1 in
    subst IsSome (sym c.probe.ensures) (edge_row c.args.a.now m.rows m.halves c.self.invariant.halves_equal c.len-halves.ensures.distinct c.len-len.ensures.distinct k c.args.e.now at)

pub after_in_key-requires : goal.after_in_key-requires
after_in_key-requires c =
    let m = c.self.inside in
    let k = c.requires.0 in
    let at = ap (λ es. slice_get (incident c.args.a.now es) k) c.self.view_is ∙ c.requires.1 in
    edge_half_live c.args.a.now m.rows m.halves c.self.invariant.halves_equal c.len-halves.ensures.distinct c.len-len.ensures.distinct k c.args.e.now at c.unwrap-row.result (sym c.probe.ensures ∙ c.unwrap-row.ensures) c.half_at-half.result c.half_at-half.ensures

pub returns-in_err-next : goal.returns-in_err-next
returns-in_err-next c k e =
    let m = c.self.inside in
    let at = ap (λ es. slice_get (incident c.args.a.now es) k) c.self.view_is ∙ e in
    let next = sym (next_half c.args.a.now m.rows m.halves c.self.invariant.halves_equal c.len-halves.ensures.distinct c.len-len.ensures.distinct k c.args.e.now at c.unwrap-row.result (sym c.probe.ensures ∙ c.unwrap-row.ensures) c.half_at-half.result c.half_at-half.ensures) ∙ sym c.after_in_key.ensures in
    c.from_residual.ensures ∙ sym (no_half named c.args.a.now m.rows m.halves c.self.invariant.halves_equal (k + 1) (next ∙ c.in_err-next.was)) ∙ ap (λ es. slice_get (incident c.args.a.now es) (k + 1)) c.self.view_is

pub edge_of_half-requires-clause-live : goal.edge_of_half-requires-clause-live
edge_of_half-requires-clause-live c =
    let m = c.self.inside in
    let k = c.requires.0 in
    let at = ap (λ es. slice_get (incident c.args.a.now es) k) c.self.view_is ∙ c.requires.1 in
    let next = sym (next_half c.args.a.now m.rows m.halves c.self.invariant.halves_equal c.len-halves.ensures.distinct c.len-len.ensures.distinct k c.args.e.now at c.unwrap-row.result (sym c.probe.ensures ∙ c.unwrap-row.ensures) c.half_at-half.result c.half_at-half.ensures) ∙ sym c.after_in_key.ensures in
    half_live named c.args.a.now m.rows m.halves c.self.invariant.halves_equal c.len-halves.ensures.distinct c.len-len.ensures.distinct (k + 1) c.in_ok-next.next (next ∙ c.in_ok-next.was)

pub edge_of_half-requires-clause-row : goal.edge_of_half-requires-clause-row
edge_of_half-requires-clause-row c p e =
    let m = c.self.inside in
    let k = c.requires.0 in
    let at = ap (λ es. slice_get (incident c.args.a.now es) k) c.self.view_is ∙ c.requires.1 in
    let next = sym (next_half c.args.a.now m.rows m.halves c.self.invariant.halves_equal c.len-halves.ensures.distinct c.len-len.ensures.distinct k c.args.e.now at c.unwrap-row.result (sym c.probe.ensures ∙ c.unwrap-row.ensures) c.half_at-half.result c.half_at-half.ensures) ∙ sym c.after_in_key.ensures in
    half_row named c.args.a.now m.rows m.halves c.self.invariant.halves_equal c.len-halves.ensures.distinct c.len-len.ensures.distinct (k + 1) c.in_ok-next.next (next ∙ c.in_ok-next.was) p e

pub returns : goal.returns
returns c k e =
    let m = c.self.inside in
    let at = ap (λ es. slice_get (incident c.args.a.now es) k) c.self.view_is ∙ e in
    let next = sym (next_half c.args.a.now m.rows m.halves c.self.invariant.halves_equal c.len-halves.ensures.distinct c.len-len.ensures.distinct k c.args.e.now at c.unwrap-row.result (sym c.probe.ensures ∙ c.unwrap-row.ensures) c.half_at-half.result c.half_at-half.ensures) ∙ sym c.after_in_key.ensures in
    sym (edge_of_half named c.args.a.now m.rows m.halves c.self.invariant.halves_equal c.len-halves.ensures.distinct c.len-len.ensures.distinct (k + 1) c.in_ok-next.next (next ∙ c.in_ok-next.was) c.edge_of_half.result c.edge_of_half.ensures) ∙ ap (λ es. slice_get (incident c.args.a.now es) (k + 1)) c.self.view_is
