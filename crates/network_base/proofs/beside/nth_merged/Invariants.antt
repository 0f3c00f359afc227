use Rattle.std.proofs.Common.{ℕ, drop, slice_get}
use Rattle.std.specs.List.{filter}
use Rattle.network_base.specs.Beside.{IsNextAt, is_beside}
use Rattle.network_base.proofs.Merging.{IsMerging}
use Rattle.network_base.proofs.beside.nth_merged.Given as goal

abbrev pub invariant-loop-step : goal.invariant-loop-step
invariant-loop-step l = (k : ℕ) → IsNextAt l.edges k l.ends.0 l.first → IsNextAt l.edges k l.ends.1 l.second → IsMerging l.ends.0 l.ends.1 l.edges (is_beside l.edges l.x) (slice_get (filter (is_beside l.edges l.x) (drop k l.edges)) l.i) l._step l.at_first l.at_second l.left
