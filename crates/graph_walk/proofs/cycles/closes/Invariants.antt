use Rattle.std.proofs.Common.{◌≡◌, ◌+◌, length}
use Rattle.graph_walk.specs.Graphs.{nexts}
use Rattle.graph_walk.specs.Places.{left_at, IsAmong}
use Rattle.graph_walk.proofs.LateLemmas.{closed_by}
use Rattle.graph_walk.proofs.cycles.closes.Given as goal

abbrev pub invariant-loop-next : goal.invariant-loop-next
invariant-loop-next g l =
    let all = nexts (g.W.Walkable.graph l.g) l.x in record {
      among : IsAmong l.next all;
      closed : closed_by l.one_is_late l.before l.x (left_at l.next all) ≡ closed_by l.directed l.before l.x all;
      steps : l.steps + length (left_at l.next all) ≡ l.initial.steps + length all;
    }

abbrev pub decreases-loop-next : goal.decreases-loop-next
decreases-loop-next g l = length (left_at l.next (nexts (g.W.Walkable.graph l.g) l.x))
