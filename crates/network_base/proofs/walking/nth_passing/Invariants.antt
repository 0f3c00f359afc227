use Rattle.std.proofs.Common.{slice_get}
use Rattle.std.specs.List.{filter}
use Rattle.network_base.specs.Shown.{around, passes}
use Rattle.network_base.proofs.Passing.{IsWalking}
use Rattle.network_base.proofs.walking.nth_passing.Given as goal

abbrev pub invariant-loop-step : goal.invariant-loop-step
invariant-loop-step l = IsWalking (passes l.directed l.edges l.step) (around l.centre l.edges) (slice_get (filter (passes l.directed l.edges l.step) (around l.centre l.edges)) l.i) l._step l.at l.left
