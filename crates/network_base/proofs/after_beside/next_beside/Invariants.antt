use Rattle.std.proofs.Common.{◌≡◌, ℕ, Some, slice_get}
use Rattle.std.specs.List.{filter}
use Rattle.network_base.specs.declared.net_steps.NetStep.TheVariants.{AdjacentEdges}
use Rattle.network_base.specs.Shown.{passes, edge_after}
use Rattle.network_base.specs.Beside.{IsNearing}
use Rattle.network_base.proofs.Passing.{IsOnward}
use Rattle.network_base.proofs.after_beside.next_beside.Given as goal

abbrev pub invariant-loop-step : goal.invariant-loop-step
invariant-loop-step l =
    (IsOnward (passes l.directed l.edges (AdjacentEdges l.x)) l.edges (edge_after l.spot (filter (passes l.directed l.edges (AdjacentEdges l.x)) l.edges)) l._step l.along)
    × ((k : ℕ) → slice_get l.edges k ≡ Some l.start → IsNearing l.edges k l.ends.0 l.first)
    × ((k : ℕ) → slice_get l.edges k ≡ Some l.start → IsNearing l.edges k l.ends.1 l.second)
