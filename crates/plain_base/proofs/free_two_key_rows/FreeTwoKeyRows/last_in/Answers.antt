use Rattle.std.proofs.Common.{ap, ◌∙◌}
use Rattle.elem.specs.Orders.{natural_before}
use Rattle.elem.specs.Rows.{last_key}
use Rattle.elem.specs.Cuts.{lies_between}
use Rattle.plain_base.specs.Sorted.{rows_between}
use Rattle.plain_base.proofs.GroupsLemmas.{last_in_flat}
use Rattle.plain_base.proofs.free_two_key_rows.FreeTwoKeyRows.last_in.Goals as goal

pub returns : goal.returns
returns g c = c.last_in.ensures ∙ last_in_flat (lies_between natural_before c.args.w.now.lo c.args.w.now.hi) c.self.inside.groups c.self.invariant.each ∙ ap (λ rows. last_key (rows_between natural_before c.args.w.now.lo c.args.w.now.hi rows)) c.self.view_is
