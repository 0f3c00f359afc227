use Rattle.std.proofs.Common.{◌≡◌, ◌+◌, List, [], ◌∷◌}
use Rattle.elem.specs.declared.elements.Elem.{Elem}
use Rattle.graph_walk.specs.Graphs.{nexts}
use Rattle.graph_walk.specs.Paths.{calls}
use Rattle.graph_walk.specs.DepthFirst.{Visits}
use Rattle.graph_walk.specs.Stacks.{frames, Finishes, AreFrames, pending, work}
use Rattle.graph_walk.proofs.visits.visit.Given as goal

abbrev pub invariant-loop-frame : goal.invariant-loop-frame
invariant-loop-frame g l =
    let graph = g.W.Walkable.graph l.g in
    let next = nexts graph in record {
      visits : (entered left : List Elem) → Finishes next (frames l.walk) l.walk.entered l.walk.left.items entered left → Visits next (l.a ∷ []) l.fn.walk.entered l.fn.walk.left.items entered left;
      framed : AreFrames next graph.nodes (frames l.walk);
      steps : l.steps + pending next (frames l.walk) + calls next l.fn.walk.entered ≡ l.fn.steps + calls next l.walk.entered;
    }

abbrev pub decreases-loop-frame : goal.decreases-loop-frame
decreases-loop-frame g l = let graph = g.W.Walkable.graph l.g in work (nexts graph) graph.nodes l.walk
