use Rattle.std.proofs.Common.{◌≡◌, ◌+◌, ◌-◌, length, take}
use Rattle.graph_walk.specs.Graphs.{nexts}
use Rattle.graph_walk.specs.Paths.{calls}
use Rattle.graph_walk.proofs.GrownLemmas.{IsGrown}
use Rattle.graph_walk.proofs.breadth_walk.find_from.Given as goal

abbrev pub invariant-loop-next : goal.invariant-loop-next
invariant-loop-next g l =
    let graph = g.W.Walkable.graph l.g in record {
      grown : IsGrown (nexts graph) l.a l.next l.found;
      calls : l.steps ≡ l.fn.steps + calls (nexts graph) (take l.next l.found);
    }

abbrev pub decreases-loop-next : goal.decreases-loop-next
decreases-loop-next g l = length (g.W.Walkable.graph l.g).nodes - l.next
