use Rattle.std.proofs.Common.{◌≡◌, ◌≤◌, ◌+◌, drop, length}
use Rattle.base_store.specs.Stored.{view_in}
use Rattle.cursor_seat.specs.Seats.{hidden_ahead, places_in}
use Rattle.cursor_seat.specs.Stands.{IsLast}
use Rattle.machine.specs.Iterators.{first_seen}
use Rattle.machine.specs.Views.{candidates}
use Rattle.cursor_seat.proofs.seeking.seek.Given as goal

abbrev pub invariant-loop-place : goal.invariant-loop-place
invariant-loop-place g l = record {
  last : IsLast (places_in l.store l.n) l.passed l.before;
  first : first_seen l.passed (drop l.passed (candidates l.store.world (view_in l.store l.n))) ≡ first_seen l.fn.from (drop l.fn.from (candidates l.store.world (view_in l.store l.n)));
  steps : l.steps + hidden_ahead (drop l.passed (candidates l.store.world (view_in l.store l.n))) ≤ l.fn.steps + hidden_ahead (drop l.fn.from (candidates l.store.world (view_in l.store l.n)));
}

abbrev pub decreases-loop-place : goal.decreases-loop-place
decreases-loop-place g l = length (drop l.passed (candidates l.store.world (view_in l.store l.n)))
