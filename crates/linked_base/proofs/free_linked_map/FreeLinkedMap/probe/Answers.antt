use Rattle.std.proofs.Common.{sym, ◌∙◌}
use Rattle.linked_base.proofs.HeldRows.{held, absent_held, value_held, node_held}
use Rattle.linked_base.proofs.free_linked_map.FreeLinkedMap.probe.Goals as goal

pub returns-in_err-place : goal.returns-in_err-place
returns-in_err-place g c = c.from_residual.ensures ∙ sym (absent_held (held c.self.invariant c.self.view_is) c.args.k (sym c.in_err-place.ensures.value))

pub index-requires : goal.index-requires
index-requires g c = node_held (held c.self.invariant c.self.view_is) c.args.k c.in_ok-place.field-0.now (sym c.in_ok-place.ensures.value)

pub returns : goal.returns
returns g c = sym (value_held (held c.self.invariant c.self.view_is) c.args.k c.in_ok-place.field-0.now c.index.result.now (sym c.in_ok-place.ensures.value) c.index.ensures)
