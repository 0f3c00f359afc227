use Rattle.std.proofs.Common.{◌≡◌, List, ◌++◌}
use Rattle.mm_base.specs.PairRows.{Row, count_of}
use Rattle.mm_base.proofs.MovingLemmas.{IsFewer}
use Rattle.mm_base.proofs.free_flat_pairs.FreeFlatPairs.remove_first.Given as goal

abbrev pub invariant-loop-step : goal.invariant-loop-step
invariant-loop-step l = (front back : List Row) → l.fn.self ≡ front ++ back → l.count ≡ count_of l.k front → IsFewer l.k front back l.self l._step l.count
