use Rattle.std.proofs.Common.{subst}
use Rattle.plain_base.specs.TwoKeys.{IsInBothOrder}
use Rattle.plain_base.proofs.BothOrder.{flat_in_order}
use Rattle.plain_base.proofs.free_two_key_rows.FreeTwoKeyRows.len.Goals as goal

pub returns-clause-order : goal.returns-clause-order
returns-clause-order g c = subst IsInBothOrder c.self.view_is (flat_in_order c.self.inside.groups c.self.invariant.order c.self.invariant.each)
