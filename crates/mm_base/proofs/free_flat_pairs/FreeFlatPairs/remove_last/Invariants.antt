use Rattle.std.proofs.Common.{◌≡◌, ◌+◌, List, ◌++◌, length}
use Rattle.mm_base.specs.PairRows.{Row}
use Rattle.mm_base.proofs.free_flat_pairs.FreeFlatPairs.remove_last.Given as goal

abbrev pub invariant-loop-step : goal.invariant-loop-step
invariant-loop-step l = (xs added : List Row) → l.fn.self ≡ xs ++ added → length added ≡ l.count → (left : List Row) × (l.self ≡ xs ++ left) × (length left + l._step ≡ l.count)
