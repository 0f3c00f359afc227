use Rattle.std.proofs.Common.{◌+◌, refl, sym, ap, ◌∙◌, subst, slice_get}
use Rattle.std.specs.Prelude.{IsSome}
use Rattle.std.specs.HashMap as hash
use Rattle.slab.specs.Slab.{get}
use Rattle.graph_base.specs.Edges.{incident}
use Rattle.graph_base.specs.Ends.{same_ends}
use Rattle.graph_base.specs.EdgeRows.{EdgeList}
use Rattle.graph_base.proofs.HalvesAt.{no_half, half_live, half_row, half_edge}
use Rattle.graph_base.proofs.AtNode.{numbered, number_found, row_there, edge_half_live, next_half}
use Rattle.graph_base.proofs.edge_rows.EdgeRows.after_at.Goals as goal

pub unwrap-number-requires : goal.unwrap-number-requires
unwrap-number-requires c =
    let m = c.self.inside in
    let a = c.args.a.now in
    let k = c.requires.0 in
    let at = ap (λ (x : EdgeList). slice_get (incident a x.edges) k) c.self.view_is ∙ c.requires.1 in
    subst IsSome (sym (c.find_number.ensures ∙ number_found a m.rows m.halves c.self.invariant.halves_equal c.len-halves.ensures.distinct c.len-len.ensures.distinct k c.args.e.now at m.directed (hash.get same_ends m.index) (get m.numbers) c.self.invariant)) refl

pub unwrap-requires : goal.unwrap-requires
unwrap-requires c =
    let m = c.self.inside in
    let a = c.args.a.now in
    let k = c.requires.0 in
    let at = ap (λ (x : EdgeList). slice_get (incident a x.edges) k) c.self.view_is ∙ c.requires.1 in
    subst IsSome (sym c.probe.ensures) (row_there a m.rows m.halves c.self.invariant.halves_equal c.len-halves.ensures.distinct c.len-len.ensures.distinct k c.args.e.now at m.directed (hash.get same_ends m.index) (get m.numbers) c.self.invariant c.unwrap-number.result (sym c.find_number.ensures ∙ c.unwrap-number.ensures))

pub after_in_key-requires : goal.after_in_key-requires
after_in_key-requires c =
    let m = c.self.inside in
    let a = c.args.a.now in
    let k = c.requires.0 in
    let at = ap (λ (x : EdgeList). slice_get (incident a x.edges) k) c.self.view_is ∙ c.requires.1 in
    edge_half_live a m.rows m.halves c.self.invariant.halves_equal c.len-halves.ensures.distinct c.len-len.ensures.distinct k c.args.e.now at m.directed (hash.get same_ends m.index) (get m.numbers) c.self.invariant c.unwrap-number.result (sym c.find_number.ensures ∙ c.unwrap-number.ensures) c.unwrap.result (sym c.probe.ensures ∙ c.unwrap.ensures) c.half_at-half.result c.half_at-half.ensures

pub returns-in_err-next : goal.returns-in_err-next
returns-in_err-next c = λ k e.
    let m = c.self.inside in
    let a = c.args.a.now in
    let at = ap (λ (x : EdgeList). slice_get (incident a x.edges) k) c.self.view_is ∙ e in
    let next = sym (next_half a m.rows m.halves c.self.invariant.halves_equal c.len-halves.ensures.distinct c.len-len.ensures.distinct k c.args.e.now at m.directed (hash.get same_ends m.index) (get m.numbers) c.self.invariant c.unwrap-number.result (sym c.find_number.ensures ∙ c.unwrap-number.ensures) c.unwrap.result (sym c.probe.ensures ∙ c.unwrap.ensures) c.half_at-half.result c.half_at-half.ensures) ∙ sym c.after_in_key.ensures in
    c.from_residual.ensures ∙ sym (no_half numbered a m.rows m.halves c.self.invariant.halves_equal (k + 1) (next ∙ c.in_err-next.was)) ∙ ap (λ (x : EdgeList). slice_get (incident a x.edges) (k + 1)) c.self.view_is

pub pair-end-requires : goal.pair-end-requires
pair-end-requires c =
    let m = c.self.inside in
    let a = c.args.a.now in
    let k = c.requires.0 in
    let at = ap (λ (x : EdgeList). slice_get (incident a x.edges) k) c.self.view_is ∙ c.requires.1 in
    let next = sym (next_half a m.rows m.halves c.self.invariant.halves_equal c.len-halves.ensures.distinct c.len-len.ensures.distinct k c.args.e.now at m.directed (hash.get same_ends m.index) (get m.numbers) c.self.invariant c.unwrap-number.result (sym c.find_number.ensures ∙ c.unwrap-number.ensures) c.unwrap.result (sym c.probe.ensures ∙ c.unwrap.ensures) c.half_at-half.result c.half_at-half.ensures) ∙ sym c.after_in_key.ensures in
    half_live numbered a m.rows m.halves c.self.invariant.halves_equal c.len-halves.ensures.distinct c.len-len.ensures.distinct (k + 1) c.in_ok-next.next (next ∙ c.in_ok-next.was)

pub unwrap-row-requires : goal.unwrap-row-requires
unwrap-row-requires c =
    let m = c.self.inside in
    let a = c.args.a.now in
    let k = c.requires.0 in
    let at = ap (λ (x : EdgeList). slice_get (incident a x.edges) k) c.self.view_is ∙ c.requires.1 in
    let next = sym (next_half a m.rows m.halves c.self.invariant.halves_equal c.len-halves.ensures.distinct c.len-len.ensures.distinct k c.args.e.now at m.directed (hash.get same_ends m.index) (get m.numbers) c.self.invariant c.unwrap-number.result (sym c.find_number.ensures ∙ c.unwrap-number.ensures) c.unwrap.result (sym c.probe.ensures ∙ c.unwrap.ensures) c.half_at-half.result c.half_at-half.ensures) ∙ sym c.after_in_key.ensures in
    subst IsSome (sym c.probe-2.ensures) (half_row numbered a m.rows m.halves c.self.invariant.halves_equal c.len-halves.ensures.distinct c.len-len.ensures.distinct (k + 1) c.in_ok-next.next (next ∙ c.in_ok-next.was) c.pair-end.result c.pair-end.ensures)

pub returns : goal.returns
returns c = λ k e.
    let m = c.self.inside in
    let a = c.args.a.now in
    let at = ap (λ (x : EdgeList). slice_get (incident a x.edges) k) c.self.view_is ∙ e in
    let next = sym (next_half a m.rows m.halves c.self.invariant.halves_equal c.len-halves.ensures.distinct c.len-len.ensures.distinct k c.args.e.now at m.directed (hash.get same_ends m.index) (get m.numbers) c.self.invariant c.unwrap-number.result (sym c.find_number.ensures ∙ c.unwrap-number.ensures) c.unwrap.result (sym c.probe.ensures ∙ c.unwrap.ensures) c.half_at-half.result c.half_at-half.ensures) ∙ sym c.after_in_key.ensures in
    sym (half_edge numbered a m.rows m.halves c.self.invariant.halves_equal c.len-halves.ensures.distinct c.len-len.ensures.distinct (k + 1) c.in_ok-next.next (next ∙ c.in_ok-next.was) c.pair-end.result c.pair-end.ensures c.unwrap-row.result (sym c.probe-2.ensures ∙ c.unwrap-row.ensures)) ∙ ap (λ (x : EdgeList). slice_get (incident a x.edges) (k + 1)) c.self.view_is
