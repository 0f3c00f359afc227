use Rattle.std.proofs.Common.{ap, ◌∙◌}
use Rattle.elem.specs.Rows.{last_key}
use Rattle.plain_base.proofs.GroupsLemmas.{last_of_flat}
use Rattle.plain_base.proofs.free_two_key_rows.FreeTwoKeyRows.last.Goals as goal

pub returns : goal.returns
returns g c = c.last.ensures ∙ last_of_flat c.self.inside.groups c.self.invariant.each ∙ ap last_key c.self.view_is
