use Rattle.std.proofs.Common.{sym, ap, ◌∙◌}
use Rattle.plain_base.specs.TwoKeys.{group}
use Rattle.plain_base.specs.Groups.{rows_in}
use Rattle.plain_base.proofs.GroupsLemmas.{group-flat}
use Rattle.plain_base.proofs.free_two_key_rows.FreeTwoKeyRows.group.Goals as goal

pub returns : goal.returns
returns g c = ap rows_in c.get.ensures ∙ sym (group-flat c.args.k.now c.self.inside.groups c.self.invariant.order) ∙ ap (group c.args.k.now) c.self.view_is
