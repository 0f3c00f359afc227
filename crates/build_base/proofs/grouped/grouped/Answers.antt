use Rattle.build_base.proofs.GroupSteps.{all_rows}
use Rattle.build_base.proofs.grouped.grouped.Goals as goal

pub returns-clause-rows : goal.returns-clause-rows
returns-clause-rows c = all_rows c.in_ok-groups.groups.items c.deref-group-items.result.now _ c.loop-group.group-index c.loop-group.found.items c.args.rows.now c.loop-group.invariant c.loop-group-test.false c.deref-group-items.ensures.value c.in_ok-groups.ensures.groups
