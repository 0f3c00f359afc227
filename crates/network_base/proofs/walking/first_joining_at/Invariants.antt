use Rattle.std.proofs.Common.{slice_get}
use Rattle.std.specs.List.{filter}
use Rattle.graph_base.specs.Edges.{joins, incident}
use Rattle.network_base.proofs.Passing.{IsWalking}
use Rattle.network_base.proofs.walking.first_joining_at.Given as goal

abbrev pub invariant-loop-step : goal.invariant-loop-step
invariant-loop-step l = IsWalking (joins l.directed l.a l.b) (incident l.end l.edges) (slice_get (filter (joins l.directed l.a l.b) (incident l.end l.edges)) 0) l._step l.at 0
