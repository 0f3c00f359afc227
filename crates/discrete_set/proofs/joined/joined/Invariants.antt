use Rattle.discrete_set.proofs.JoinLaws.{IsJoined}
use Rattle.discrete_set.proofs.joined.joined.Given as goal

abbrev pub invariant-loop-range : goal.invariant-loop-range
invariant-loop-range l = IsJoined l.ranges l.range-index l.runs.items
