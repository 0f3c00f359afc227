-- Random scripts on graphs.
use Rattle.std.specs.Prelude.{[], ◌∷◌}
use Rattle.std.proofs.Common.{refl}
use Rattle.machine_examples.specs.Scripts.{Runs, literally}

script_1 : Runs (
    ("new s UndirectedValueGraph", "ok") ∷
    ("s.edgeValue(a, a)", "IllegalArgumentException") ∷
    ("s.outDegree(1)", "IllegalArgumentException") ∷
    ("s.transpose.outDegree(a)", "IllegalArgumentException") ∷
    ("it z = s.nodes.transform(len)", "ok") ∷
    ("let s2 = s.unmodifiable.unmodifiable", "ok") ∷
    ("s2.putEdgeValue(c, a, a)", "UnsupportedOperationException") ∷
    ("new x2 DirectedValueGraphLoops", "ok") ∷
    ("s2.nodes.filter(gt(a))", "[]") ∷
    ("x2.edgeValue(b, 1)", "IllegalArgumentException") ∷
    ("s2.nodes.contains(c)", "false") ∷
    ("s2.putEdgeValue(b, b, 2)", "UnsupportedOperationException") ∷
    ("x2.removeNode(1)", "false") ∷
    ("x2.degree(a)", "IllegalArgumentException") ∷
    ("it r1 = s2.adjacentNodes(c)", "IllegalArgumentException") ∷
    ("s.transpose.hasEdge(1, c)", "false") ∷
    ("s2.edges.contains(a, 1)", "false") ∷
    ("x2.adjacentNodes(1)", "IllegalArgumentException") ∷
    ("z.remove", "UnsupportedOperationException") ∷
    ("s.nodes.transform(len)", "[]") ∷
    ("s2.edgeValue(1, 1)", "IllegalArgumentException") ∷
    ("let y = s.adjacentNodes(b)", "IllegalArgumentException") ∷
    ("s2.unmodifiable", "nodes: [], edges: {}") ∷
    ("x2", "nodes: [], edges: {}") ∷
    ("x2.transpose.putEdgeValue(1, c, 0)", "UnsupportedOperationException") ∷
    ("z.next", "NoSuchElementException") ∷
    ("s.incidentEdges(1).contains(a, c)", "IllegalArgumentException") ∷
    ("x2.successors(1).transform(len)", "IllegalArgumentException") ∷
    ("s2.successors(a).unmodifiable", "IllegalArgumentException") ∷
    ("s2.transpose.addNode(c)", "UnsupportedOperationException") ∷
    ("z.next", "NoSuchElementException") ∷
    ("x2.nodes.containsAll(s)", "?call") ∷
    ("x2.incidentEdges(1).contains(c, a)", "IllegalArgumentException") ∷
    ("s2.putEdgeValue(c, b, 3)", "UnsupportedOperationException") ∷
    ("s.incidentEdges(c).contains(b, 1)", "IllegalArgumentException") ∷
    ("s2.nodes", "[]") ∷
    ("z.hasNext", "false") ∷
    ("x2.nodes", "[]") ∷
    ("s.inDegree(a)", "IllegalArgumentException") ∷
    ("s2.incidentEdges(a)", "IllegalArgumentException") ∷
    ("z.remove", "UnsupportedOperationException") ∷
    ("it l1 = x2.predecessors(1).filter(gt(a))", "IllegalArgumentException") ∷
    ("let r1 = s2.nodes", "ok") ∷
    ("x2.putEdgeValue(b, a, a)", "null") ∷
    ("s2.transpose.unmodifiable", "nodes: [], edges: {}") ∷
    ("x2.nodes.containsAll(r1)", "true") ∷
    ("s2.putEdgeValue(b, c, b)", "UnsupportedOperationException") ∷
    ("s2.transpose.degree(c)", "IllegalArgumentException") ∷
    ("x2.inDegree(a)", "1") ∷
    ("z.next", "NoSuchElementException") ∷
    ("s.transpose.nodes.contains(a)", "false") ∷
    ("s2.nodes.contains(a)", "false") ∷
    ("x2.putEdgeValue(b, a, b)", "a") ∷
    ("new q DirectedValueGraph", "ok") ∷
    ("z.next", "NoSuchElementException") ∷
    ("q.edges.contains(b, 1)", "false") ∷
    ("z.next", "NoSuchElementException") ∷
    ("x2.incidentEdges(b).contains(a, b)", "false") ∷
    ("s2.putEdgeValue(c, 1, 3)", "UnsupportedOperationException") ∷
    ("q.putEdgeValue(b, a, b)", "null") ∷
    ("q.transpose.removeEdge(c, a)", "UnsupportedOperationException") ∷
    ("x2.predecessors(1).filter(isInt)", "IllegalArgumentException") ∷
    ("z.next", "NoSuchElementException") ∷
    ("s.successors(c)", "IllegalArgumentException") ∷
    ("z.next", "NoSuchElementException") ∷
    ("s2.outDegree(1)", "IllegalArgumentException") ∷
    ("x2.transpose.putEdgeValue(c, a, 0)", "UnsupportedOperationException") ∷
    ("let m = s2.successors(a).immutable", "IllegalArgumentException") ∷
    ("q.incidentEdges(a).contains(b, a)", "true") ∷
    ("r1.unmodifiable", "[]") ∷
    ("q.adjacentNodes(b)", "[a]") ∷
    ("q.unmodifiable", "nodes: [b, a], edges: {<b -> a>=b}") ∷
    ("s.removeNode(c)", "false") ∷
    ("s.unmodifiable.transform(len)", "?call") ∷
    ("let y1 = x2.edges", "ok") ∷
    ("s.incidentEdges(a).contains(b, b)", "IllegalArgumentException") ∷
    ("s2.putEdgeValue(1, b, b)", "UnsupportedOperationException") ∷
    ("q.incidentEdges(a).contains(c, 1)", "false") ∷
    ("q.removeEdge(c, a)", "null") ∷
    ("s.nodes.contains(b)", "false") ∷ [])
unfolding literally
script_1 = refl

script_2 : Runs (
    ("new c DirectedValueGraph", "ok") ∷
    ("c.hasEdge(c, 1)", "false") ∷
    ("c.transpose.putEdgeValue(a, a, a)", "UnsupportedOperationException") ∷
    ("c.predecessors(b)", "IllegalArgumentException") ∷
    ("c.edgeValue(c, c)", "IllegalArgumentException") ∷
    ("c.transpose.putEdgeValue(a, a, 3)", "UnsupportedOperationException") ∷
    ("c.nodes.unmodifiable", "[]") ∷
    ("it c2 = c.nodes", "ok") ∷
    ("c.nodes.contains(c)", "false") ∷
    ("c.transpose.degree(b)", "IllegalArgumentException") ∷
    ("c.adjacentNodes(c)", "IllegalArgumentException") ∷
    ("c.transpose.removeNode(a)", "UnsupportedOperationException") ∷
    ("let m2 = c.predecessors(c)", "IllegalArgumentException") ∷
    ("c.transpose.removeEdge(b, c)", "UnsupportedOperationException") ∷
    ("c.unmodifiable", "nodes: [], edges: {}") ∷
    ("c.nodes", "[]") ∷
    ("it x2 = c.successors(a)", "IllegalArgumentException") ∷
    ("c2.remove", "UnsupportedOperationException") ∷
    ("c.transpose.unmodifiable", "nodes: [], edges: {}") ∷
    ("c.transpose", "nodes: [], edges: {}") ∷
    ("c.addNode(1)", "true") ∷
    ("let f = c.nodes.unmodifiable", "ok") ∷
    ("c.nodes.asMap(len)", "{1=1}") ∷
    ("c.putEdgeValue(c, 1, a)", "null") ∷
    ("c2.remove", "UnsupportedOperationException") ∷
    ("c.successors(b).transform(len)", "IllegalArgumentException") ∷
    ("c2.remove", "UnsupportedOperationException") ∷
    ("c2.next", "ConcurrentModificationException") ∷
    ("new c2 UndirectedValueGraphLoops", "ok") ∷
    ("c.unmodifiable", "nodes: [1, c], edges: {<c -> 1>=a}") ∷
    ("c2.adjacentNodes(b).unmodifiable", "IllegalArgumentException") ∷
    ("c2.successors(b).transform(len)", "IllegalArgumentException") ∷
    ("c2.putEdgeValue(1, 1, 0)", "null") ∷
    ("c.transpose.unmodifiable", "nodes: [1, c], edges: {<1 -> c>=a}") ∷
    ("f.add(b)", "UnsupportedOperationException") ∷
    ("it x = c2.adjacentNodes(a).filter(isInt)", "IllegalArgumentException") ∷
    ("c2.transpose.putEdgeValue(c, 1, 3)", "UnsupportedOperationException") ∷
    ("c2.successors(a)", "IllegalArgumentException") ∷
    ("let e = c2.predecessors(c).filter(isInt)", "IllegalArgumentException") ∷
    ("let r1 = c2.predecessors(b).immutable", "IllegalArgumentException") ∷
    ("c.outDegree(1)", "0") ∷
    ("new f1 UndirectedValueGraph", "ok") ∷
    ("it r2 = f1.predecessors(a)", "IllegalArgumentException") ∷
    ("c", "nodes: [1, c], edges: {<c -> 1>=a}") ∷
    ("c2.inDegree(a)", "IllegalArgumentException") ∷
    ("it u2 = c.adjacentNodes(a)", "IllegalArgumentException") ∷
    ("new w1 UndirectedValueGraph", "ok") ∷
    ("c2.hasEdge(b, a)", "false") ∷
    ("c.removeNode(a)", "false") ∷
    ("c2.nodes.contains(a)", "false") ∷
    ("f1.transpose.putEdgeValue(c, b, 1)", "UnsupportedOperationException") ∷
    ("it o2 = w1.predecessors(1).transform(len)", "IllegalArgumentException") ∷
    ("c2.putEdgeValue(1, c, b)", "null") ∷
    ("c2.edgeValue(1, a)", "IllegalArgumentException") ∷
    ("f1.adjacentNodes(b)", "IllegalArgumentException") ∷
    ("w1.adjacentNodes(1)", "IllegalArgumentException") ∷
    ("c.adjacentNodes(b).filter(isInt)", "IllegalArgumentException") ∷
    ("c.nodes.filter(isInt)", "[1]") ∷
    ("c.transpose.nodes.containsAll(f)", "true") ∷
    ("c.nodes.contains(a)", "false") ∷
    ("let h1 = w1.successors(1).asMap(len)", "IllegalArgumentException") ∷
    ("w1.putEdgeValue(1, 1, 3)", "IllegalArgumentException") ∷
    ("c.outDegree(b)", "IllegalArgumentException") ∷
    ("let v2 = w1.adjacentNodes(c)", "IllegalArgumentException") ∷
    ("c.unmodifiable", "nodes: [1, c], edges: {<c -> 1>=a}") ∷
    ("w1.transpose.degree(c)", "IllegalArgumentException") ∷
    ("f1.predecessors(c)", "IllegalArgumentException") ∷
    ("w1.removeNode(1)", "false") ∷
    ("let z = w1.predecessors(1).asMap(len)", "IllegalArgumentException") ∷
    ("f1.nodes", "[]") ∷
    ("c.removeEdge(1, 1)", "null") ∷
    ("f1.unmodifiable", "nodes: [], edges: {}") ∷
    ("c.incidentEdges(c).contains(1, 1)", "false") ∷
    ("c2.nodes.contains(1)", "true") ∷
    ("let m1 = c.edges", "ok") ∷
    ("f1.removeNode(c)", "false") ∷
    ("f1.nodes.filter(isInt)", "[]") ∷
    ("let q = c2.transpose.transform(len)", "?call") ∷
    ("f1.predecessors(1)", "IllegalArgumentException") ∷
    ("f1.transpose.edgeValue(c, b)", "IllegalArgumentException") ∷ [])
unfolding literally
script_2 = refl

script_3 : Runs (
    ("new s2 UndirectedValueGraph", "ok") ∷
    ("s2.putEdgeValue(b, b, b)", "IllegalArgumentException") ∷
    ("s2.successors(1)", "IllegalArgumentException") ∷
    ("s2.putEdgeValue(a, b, b)", "null") ∷
    ("s2.transpose.putEdgeValue(a, c, 2)", "UnsupportedOperationException") ∷
    ("s2", "nodes: [a, b], edges: {[a, b]=b}") ∷
    ("s2.outDegree(1)", "IllegalArgumentException") ∷
    ("s2.transpose.edgeValue(1, c)", "IllegalArgumentException") ∷
    ("s2.edgeValue(b, c)", "IllegalArgumentException") ∷
    ("it y1 = s2.predecessors(b)", "ok") ∷
    ("let c1 = s2", "ok") ∷
    ("s2.transpose.outDegree(a)", "1") ∷
    ("c1.predecessors(b).filter(isInt)", "[]") ∷
    ("s2.putEdgeValue(a, c, a)", "null") ∷
    ("let u = s2.nodes.filter(isInt)", "ok") ∷
    ("c1.degree(a)", "2") ∷
    ("let d1 = c1.adjacentNodes(c).filter(gt(a))", "ok") ∷
    ("s2.removeNode(c)", "true") ∷
    ("y1.next", "ConcurrentModificationException") ∷
    ("s2.degree(b)", "1") ∷
    ("s2.incidentEdges(1).contains(a, 1)", "IllegalArgumentException") ∷
    ("s2.predecessors(1)", "IllegalArgumentException") ∷
    ("y1.next", "ConcurrentModificationException") ∷
    ("let z1 = c1.adjacentNodes(1).asMap(len)", "IllegalArgumentException") ∷
    ("c1.putEdgeValue(b, 1, a)", "null") ∷
    ("s2.removeNode(b)", "true") ∷
    ("c1.edges.contains(c, a)", "false") ∷
    ("s2.transpose.hasEdge(1, 1)", "false") ∷
    ("s2.nodes.transform(len)", "[1, 1]") ∷
    ("let v1 = s2.adjacentNodes(a).transform(len)", "ok") ∷
    ("y1.next", "ConcurrentModificationException") ∷
    ("y1.next", "ConcurrentModificationException") ∷
    ("c1.edges.contains(a, c)", "false") ∷
    ("c1.nodes.filter(isInt)", "[1]") ∷
    ("u.contains(b)", "false") ∷
    ("let i2 = s2.unmodifiable.immutable", "ok") ∷
    ("c1.transpose.putEdgeValue(a, b, ab)", "UnsupportedOperationException") ∷
    ("s2.successors(1).unmodifiable", "[]") ∷
    ("it j = c1.nodes.filter(isInt)", "ok") ∷
    ("s2.nodes.contains(a)", "true") ∷
    ("s2.unmodifiable", "nodes: [a, 1], edges: {}") ∷
    ("d1.transform(len)", "IllegalStateException") ∷
    ("s2.transpose.putEdgeValue(c, 1, 3)", "UnsupportedOperationException") ∷
    ("it d = i2.predecessors(b)", "IllegalArgumentException") ∷
    ("c1.addNode(c)", "true") ∷
    ("i2.transpose.nodes.contains(b)", "false") ∷
    ("u.unmodifiable", "[1]") ∷
    ("c1.transpose.hasEdge(c, 1)", "false") ∷
    ("s2.unmodifiable", "nodes: [a, 1, c], edges: {}") ∷
    ("c1.edges.contains(c, 1)", "false") ∷
    ("j.remove", "UnsupportedOperationException") ∷
    ("it g2 = d1.unmodifiable.filter(isInt)", "ok") ∷
    ("s2.addNode(b)", "true") ∷
    ("c1.degree(1)", "0") ∷
    ("let o = i2.edges", "ok") ∷
    ("c1.putEdgeValue(c, a, 3)", "null") ∷
    ("s2.edges.contains(1, a)", "false") ∷
    ("let p2 = i2.unmodifiable", "ok") ∷
    ("v1.unmodifiable", "[1]") ∷
    ("i2.transpose.edgeValue(b, a)", "IllegalArgumentException") ∷
    ("c1.transpose.inDegree(b)", "0") ∷
    ("p2.transpose.edgeValue(c, a)", "IllegalArgumentException") ∷
    ("i2.unmodifiable", "nodes: [a, 1], edges: {}") ∷
    ("s2.unmodifiable", "nodes: [a, 1, c, b], edges: {[c, a]=3}") ∷
    ("let o1 = i2.nodes.transform(len)", "ok") ∷
    ("o1.contains(b)", "false") ∷
    ("i2.putEdgeValue(c, b, 3)", "UnsupportedOperationException") ∷
    ("j.hasNext", "ConcurrentModificationException") ∷
    ("s2.transpose.degree(1)", "0") ∷
    ("j.remove", "UnsupportedOperationException") ∷
    ("u.unmodifiable", "[1]") ∷
    ("c1.transpose.putEdgeValue(c, b, b)", "UnsupportedOperationException") ∷
    ("y1.next", "ConcurrentModificationException") ∷
    ("i2.inDegree(c)", "IllegalArgumentException") ∷
    ("g2.next", "ConcurrentModificationException") ∷
    ("y1.hasNext", "ConcurrentModificationException") ∷
    ("j.remove", "UnsupportedOperationException") ∷
    ("j.next", "ConcurrentModificationException") ∷
    ("j.next", "ConcurrentModificationException") ∷
    ("c1.incidentEdges(b)", "[]") ∷ [])
unfolding literally
script_3 = refl
