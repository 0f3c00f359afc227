use Rattle.std.proofs.Common.{ap, ◌∙◌}
use Rattle.elem.specs.Rows.{first_key}
use Rattle.plain_base.proofs.GroupsLemmas.{first_of_flat}
use Rattle.plain_base.proofs.free_two_key_rows.FreeTwoKeyRows.first.Goals as goal

pub returns : goal.returns
returns g c = c.first.ensures ∙ first_of_flat c.self.inside.groups c.self.invariant.each ∙ ap first_key c.self.view_is
