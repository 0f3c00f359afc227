use Rattle.std.proofs.Common.{◌≡◌, ◌+◌, length}
use Rattle.graph_walk.specs.Found.{with_all}
use Rattle.graph_walk.specs.Graphs.{nexts}
use Rattle.graph_walk.specs.Places.{left_at, IsAmong}
use Rattle.graph_walk.proofs.breadth_walk.find_nexts.Given as goal

abbrev pub invariant-loop-next : goal.invariant-loop-next
invariant-loop-next g l =
    let all = nexts (g.W.Walkable.graph l.g) l.node in record {
      among : IsAmong l.next all;
      found : with_all (left_at l.next all) l.found ≡ with_all all l.initial.found;
      steps : l.steps + length (left_at l.next all) ≡ l.initial.steps + length all;
    }

abbrev pub decreases-loop-next : goal.decreases-loop-next
decreases-loop-next g l = length (left_at l.next (nexts (g.W.Walkable.graph l.g) l.node))
