use Rattle.std.proofs.Common.{◌≡◌, ◌+◌, ◌≤◌, Bool, take, length}
use Rattle.std.specs.List.{flat_map}
use Rattle.elem.specs.declared.elements.Elem.{Elem}
use Rattle.graph_walk.specs.Closures.{Tells, edges_from}
use Rattle.graph_walk.proofs.closures.closure.Given as goal

abbrev pub invariant-loop-i : goal.invariant-loop-i
invariant-loop-i g l =
    let graph = g.W.Walkable.graph l.g in record {
      rows : (leads : Elem → Elem → Bool) → Tells graph leads → l.edges.items ≡ flat_map (edges_from graph leads) (take l.i graph.nodes);
      fits : length graph.nodes + length l.edges.items ≤ l.fn.room;
    }
