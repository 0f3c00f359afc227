use Rattle.std.proofs.Common.{◌≡◌, ◌+◌}
use Rattle.mm_base.specs.PairRows.{count_of, without_key}
use Rattle.mm_base.proofs.free_flat_pairs.FreeFlatPairs.remove_key.Given as goal

abbrev pub invariant-loop-step : goal.invariant-loop-step
invariant-loop-step l = record {
  others : without_key l.k l.self ≡ without_key l.k l.fn.self;
  fewer : count_of l.k l.self + l._step ≡ l.count;
}
