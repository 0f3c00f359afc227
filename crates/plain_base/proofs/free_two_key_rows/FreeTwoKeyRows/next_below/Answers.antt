use Rattle.std.proofs.Common.{ap, ◌∙◌}
use Rattle.elem.specs.Orders.{natural_before}
use Rattle.elem.specs.Rows.{last_key}
use Rattle.plain_base.specs.Sorted.{rows_below}
use Rattle.plain_base.proofs.GroupsLemmas.{last_in_flat}
use Rattle.plain_base.proofs.free_two_key_rows.FreeTwoKeyRows.next_below.Goals as goal

pub returns : goal.returns
returns g c = c.next_below.ensures ∙ last_in_flat (λ q. natural_before q c.args.k.now) c.self.inside.groups c.self.invariant.each ∙ ap (λ rows. last_key (rows_below natural_before c.args.k.now rows)) c.self.view_is
