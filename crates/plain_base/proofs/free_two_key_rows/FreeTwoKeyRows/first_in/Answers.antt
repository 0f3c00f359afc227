use Rattle.std.proofs.Common.{ap, ◌∙◌}
use Rattle.elem.specs.Orders.{natural_before}
use Rattle.elem.specs.Rows.{first_key}
use Rattle.elem.specs.Cuts.{lies_between}
use Rattle.plain_base.specs.Sorted.{rows_between}
use Rattle.plain_base.proofs.GroupsLemmas.{first_in_flat}
use Rattle.plain_base.proofs.free_two_key_rows.FreeTwoKeyRows.first_in.Goals as goal

pub returns : goal.returns
returns g c = c.first_in.ensures ∙ first_in_flat (lies_between natural_before c.args.w.now.lo c.args.w.now.hi) c.self.inside.groups c.self.invariant.each ∙ ap (λ rows. first_key (rows_between natural_before c.args.w.now.lo c.args.w.now.hi rows)) c.self.view_is
