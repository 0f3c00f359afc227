use Rattle.std.proofs.Common.{length, ◌-◌, ◌+◌}
use Rattle.discrete_set.proofs.MergeLaws.{IsMerged}
use Rattle.discrete_set.proofs.merged.merged.Given as goal

abbrev pub invariant-loop-i : goal.invariant-loop-i
invariant-loop-i l = IsMerged l.runs l.others l.i l.j l.found.items

abbrev pub decreases-loop-i : goal.decreases-loop-i
decreases-loop-i l = (length l.runs - l.i) + (length l.others - l.j)
