use Rattle.std.proofs.Common.{sym, ◌∙◌}
use Rattle.linked_base.proofs.HeldRows.{held}
use Rattle.linked_base.proofs.RowNumbers.{number_absent, number_there, number_row}
use Rattle.linked_base.proofs.free_linked_map.FreeLinkedMap.row_at.Goals as goal

pub returns-in_err-place : goal.returns-in_err-place
returns-in_err-place g c = c.from_residual.ensures ∙ sym (number_absent (held c.self.invariant c.self.view_is) c.args.i c.nth.result c.nth.ensures c.in_err-place.was)

pub index-node-requires : goal.index-node-requires
index-node-requires g c = number_there (held c.self.invariant c.self.view_is) c.args.i c.nth.result c.nth.ensures c.in_ok-place.place c.in_ok-place.was

pub returns : goal.returns
returns g c = sym (number_row (held c.self.invariant c.self.view_is) c.args.i c.nth.result c.nth.ensures c.in_ok-place.place c.index-node.result.now c.in_ok-place.was c.index-node.ensures)
