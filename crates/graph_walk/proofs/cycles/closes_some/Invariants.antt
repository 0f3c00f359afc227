use Rattle.std.proofs.Common.{◌+◌, ◌≤◌, [], drop}
use Rattle.graph_walk.specs.Graphs.{nexts}
use Rattle.graph_walk.specs.Late.{ClosesSome}
use Rattle.graph_walk.specs.Paths.{calls}
use Rattle.graph_walk.proofs.cycles.closes_some.Given as goal

abbrev pub invariant-loop-x : goal.invariant-loop-x
invariant-loop-x g l =
    let next = nexts (g.W.Walkable.graph l.g) in record {
      forth : ClosesSome next l.directed l.before (drop l.x-index l.list) → ClosesSome next l.directed [] l.list;
      back : ClosesSome next l.directed [] l.list → ClosesSome next l.directed l.before (drop l.x-index l.list);
      steps : l.steps + calls next (drop l.x-index l.list) ≤ l.initial.steps + calls next l.list;
    }
