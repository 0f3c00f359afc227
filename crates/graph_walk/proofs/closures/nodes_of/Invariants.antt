use Rattle.std.proofs.Common.{◌≡◌, ◌++◌, length}
use Rattle.graph_walk.specs.Places.{left_at, IsAmong}
use Rattle.graph_walk.proofs.closures.nodes_of.Given as goal

abbrev pub invariant-loop-next : goal.invariant-loop-next
invariant-loop-next g l =
    let all = (g.W.Walkable.graph l.g).nodes in record {
      among : IsAmong l.next all;
      list : l.nodes.items ++ left_at l.next all ≡ all;
    }

abbrev pub decreases-loop-next : goal.decreases-loop-next
decreases-loop-next g l = length (left_at l.next (g.W.Walkable.graph l.g).nodes)
