use Rattle.std.specs.List.{filter}
use Rattle.network_base.specs.Shown.{around, passes, edge_after}
use Rattle.network_base.proofs.Passing.{IsOnward}
use Rattle.network_base.proofs.walking.next_passing.Given as goal

abbrev pub invariant-loop-step : goal.invariant-loop-step
invariant-loop-step l = IsOnward (passes l.directed l.edges l.step) (around l.centre l.edges) (edge_after l.x (filter (passes l.directed l.edges l.step) l.edges)) l._step l.at
