use Rattle.std.proofs.Common.{◌≡◌, ℕ, ◌+◌, ◌≤◌, List, [], ◌++◌, Some}
use Rattle.std.specs.HashMap as hash
use Rattle.std.specs.HashMap.{spare}
use Rattle.mm_base.specs.PairRows.{Row, IsLive, pairs_of_key}
use Rattle.mm_base.specs.KeyedRows.{HasDistinctPairs}
use Rattle.mm_base.specs.KeyValues.{same_pair}
use Rattle.mm_base.specs.PairPlaces.{FindsPairs}
use Rattle.mm_base.proofs.FoundPairs.{IsNaming}
use Rattle.mm_base.proofs.pair_places.name_pairs.Given as goal

abbrev pub invariant-loop-step : goal.invariant-loop-step
invariant-loop-step l = record {
  naming : (front added : List Row) → l.pairs ≡ front ++ added → pairs_of_key l.k front ≡ [] → pairs_of_key l.k added ≡ added → HasDistinctPairs l.pairs → FindsPairs front (hash.get same_pair l.fn.places) → IsNaming l.k front added l._step l.at (hash.get same_pair l.places);
  live : (p : ℕ) → l.at ≡ Some p → IsLive l.pairs p;
  room : l.count ≤ spare l.places + l._step;
}
