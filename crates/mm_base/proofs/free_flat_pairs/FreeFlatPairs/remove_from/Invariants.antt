use Rattle.std.proofs.Common.{◌≡◌, ◌+◌, List, ◌++◌, length}
use Rattle.mm_base.specs.PairRows.{Row, without_key}
use Rattle.mm_base.specs.Replacing.{IsCutAt}
use Rattle.mm_base.proofs.ReplacingLemmas.{IsRemoving}
use Rattle.mm_base.proofs.free_flat_pairs.FreeFlatPairs.remove_from.Given as goal

abbrev pub invariant-loop-step : goal.invariant-loop-step
invariant-loop-step l = record {
  removing : (front back : List Row) → IsCutAt l.k l.fn.from l.fn.self front back → IsRemoving l.k (front ++ without_key l.k back) l.self l.at;
  count : length l.self + l._step ≡ length l.fn.self;
}
