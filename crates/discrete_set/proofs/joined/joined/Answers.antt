use Rattle.std.proofs.Common.{rules}
use Rattle.discrete_set.proofs.JoinLaws.{joined_more}
use Rattle.discrete_set.proofs.joined.joined.Goals as goal

pub loop-range-preserved : goal.loop-range-preserved
loop-range-preserved c =
    joined_more c.args.ranges.now c.loop-range.range-index c.loop-range.runs.items c.add_run.new.runs.items c.range-item.result c.numbers_below.result c.numbers_below-in-loop-range.result c.loop-range.invariant c.loop-range-test.true (search rules) (search rules) (search rules)
    c.in_ok-add_run.ensures.counted c.in_ok-add_run.ensures.after c.in_ok-add_run.ensures.units
