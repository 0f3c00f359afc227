use Rattle.std.proofs.Common.{◌≡◌, ◌≤◌, List, ◌++◌}
use Rattle.std.specs.HashMap as hash
use Rattle.std.specs.HashMap.{spare}
use Rattle.mm_base.specs.PairRows.{Row, count_of}
use Rattle.mm_base.specs.KeyValues.{same_pair}
use Rattle.mm_base.proofs.FoundPairs.{IsForgetting}
use Rattle.mm_base.proofs.pair_places.remove_first_pairs.Given as goal

abbrev pub invariant-loop-step : goal.invariant-loop-step
invariant-loop-step l = record {
  going : (front back : List Row) → l.fn.pairs ≡ front ++ back → l.count ≡ count_of l.k front → IsForgetting l.k front back l.pairs l._step l.count (hash.get same_pair l.fn.places) (hash.get same_pair l.places);
  room : spare l.fn.places ≤ spare l.places;
}
