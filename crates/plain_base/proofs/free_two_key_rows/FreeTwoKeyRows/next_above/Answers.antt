use Rattle.std.proofs.Common.{ap, ◌∙◌}
use Rattle.elem.specs.Orders.{natural_before}
use Rattle.elem.specs.Rows.{first_key}
use Rattle.plain_base.specs.Sorted.{rows_above}
use Rattle.plain_base.proofs.GroupsLemmas.{first_in_flat}
use Rattle.plain_base.proofs.free_two_key_rows.FreeTwoKeyRows.next_above.Goals as goal

pub returns : goal.returns
returns g c = c.next_above.ensures ∙ first_in_flat (natural_before c.args.k.now) c.self.inside.groups c.self.invariant.each ∙ ap (λ rows. first_key (rows_above natural_before c.args.k.now rows)) c.self.view_is
