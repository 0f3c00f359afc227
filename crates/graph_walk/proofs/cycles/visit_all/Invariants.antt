use Rattle.std.proofs.Common.{◌≡◌, ◌+◌, List, [], length}
use Rattle.elem.specs.declared.elements.Elem.{Elem}
use Rattle.graph_walk.specs.DepthFirst.{Visits}
use Rattle.graph_walk.specs.Graphs.{nexts}
use Rattle.graph_walk.specs.Paths.{calls}
use Rattle.graph_walk.specs.Places.{left_at, IsAmong}
use Rattle.graph_walk.proofs.cycles.visit_all.Given as goal

abbrev pub invariant-loop-next : goal.invariant-loop-next
invariant-loop-next g l =
    let graph = g.W.Walkable.graph l.g in
    let next = nexts graph in record {
      among : IsAmong l.next graph.nodes;
      idle : l.walk.stack.items ≡ [];
      visits : (entered left : List Elem) → Visits next (left_at l.next graph.nodes) l.walk.entered l.walk.left.items entered left → Visits next graph.nodes [] [] entered left;
      steps : l.steps + length (left_at l.next graph.nodes) ≡ l.fn.steps + 1 + length graph.nodes + calls next l.walk.entered;
    }

abbrev pub decreases-loop-next : goal.decreases-loop-next
decreases-loop-next g l = length (left_at l.next (g.W.Walkable.graph l.g).nodes)
