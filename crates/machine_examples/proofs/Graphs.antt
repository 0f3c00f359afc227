-- Scripts on graphs.
use Rattle.std.specs.Prelude.{[], ◌∷◌}
use Rattle.std.proofs.Common.{refl}
use Rattle.machine_examples.specs.Scripts.{Runs, literally}

an_edge_with_a_new_value : Runs (
    ("new g UndirectedValueGraph", "ok") ∷
    ("g.putEdgeValue(a, b, 1)", "null") ∷
    ("g.edges", "[[a, b]]") ∷
    ("g.edges.remove(a, b)", "UnsupportedOperationException") ∷
    ("g.putEdgeValue(b, a, 2)", "1") ∷
    ("g.edges", "[[a, b]]") ∷
    ("g.addNode(c)", "true") ∷
    ("g.addNode(c)", "false") ∷ [])
unfolding literally
an_edge_with_a_new_value = refl

the_edge_of_an_undirected_graph : Runs (
    ("new g UndirectedValueGraph", "ok") ∷
    ("g.putEdgeValue(a, b, 1)", "null") ∷
    ("g.edges", "[[a, b]]") ∷ [])
unfolding literally
the_edge_of_an_undirected_graph = refl

an_undirected_edge_put_the_other_way : Runs (
    ("new g UndirectedValueGraph", "ok") ∷
    ("g.putEdgeValue(a, b, x)", "null") ∷
    ("g.putEdgeValue(c, a, y)", "null") ∷
    ("g.putEdgeValue(b, a, z)", "x") ∷
    ("g", "nodes: [a, b, c], edges: {[a, b]=z, [c, a]=y}") ∷
    ("g.hasEdge(b, a)", "true") ∷
    ("g.edgeValue(b, a)", "z") ∷
    ("g.edges.contains(b, a)", "true") ∷
    ("g.incidentEdges(a).contains(a, c)", "true") ∷
    ("g.adjacentNodes(a)", "[b, c]") ∷
    ("g.successors(a)", "[b, c]") ∷
    ("g.predecessors(a)", "[b, c]") ∷
    ("g.incidentEdges(a)", "[[a, b], [c, a]]") ∷
    ("g.degree(a)", "2") ∷
    ("g.inDegree(a)", "2") ∷
    ("g.removeEdge(a, c)", "y") ∷
    ("g.removeEdge(a, c)", "null") ∷
    ("g", "nodes: [a, b, c], edges: {[a, b]=z}") ∷ [])
unfolding literally
an_undirected_edge_put_the_other_way = refl

directions : Runs (
    ("new g DirectedValueGraph", "ok") ∷
    ("g.putEdgeValue(a, b, x)", "null") ∷
    ("g.putEdgeValue(b, a, y)", "null") ∷
    ("g.putEdgeValue(c, a, z)", "null") ∷
    ("g.adjacentNodes(a)", "[b, c]") ∷
    ("g.successors(a)", "[b]") ∷
    ("g.predecessors(a)", "[b, c]") ∷
    ("g.incidentEdges(a)", "[<a -> b>, <b -> a>, <c -> a>]") ∷
    ("g.degree(a)", "3") ∷
    ("g.inDegree(a)", "2") ∷
    ("g.outDegree(a)", "1") ∷
    ("g.hasEdge(a, c)", "false") ∷
    ("g.hasEdge(c, a)", "true") ∷
    ("g.edgeValue(a, c)", "null") ∷
    ("g.edgeValue(a, q)", "IllegalArgumentException") ∷
    ("g.hasEdge(a, q)", "false") ∷
    ("g.degree(q)", "IllegalArgumentException") ∷
    ("g.transpose", "nodes: [a, b, c], edges: {<b -> a>=x, <a -> b>=y, <a -> c>=z}") ∷
    ("g.transpose.adjacentNodes(a)", "[b, c]") ∷
    ("g.transpose.incidentEdges(a)", "[<b -> a>, <a -> b>, <a -> c>]") ∷
    ("g.transpose.edges", "[<b -> a>, <a -> b>, <a -> c>]") ∷
    ("g.transpose.inDegree(a)", "1") ∷
    ("g.transpose.hasEdge(a, c)", "true") ∷
    ("g.edges.contains(b, a)", "true") ∷
    ("g.edges.contains(a, c)", "false") ∷ [])
unfolding literally
directions = refl

loops : Runs (
    ("new g DirectedValueGraphLoops", "ok") ∷
    ("g.putEdgeValue(a, a, x)", "null") ∷
    ("g.putEdgeValue(a, b, y)", "null") ∷
    ("g", "nodes: [a, b], edges: {<a -> a>=x, <a -> b>=y}") ∷
    ("g.degree(a)", "3") ∷
    ("g.inDegree(a)", "1") ∷
    ("g.outDegree(a)", "2") ∷
    ("g.adjacentNodes(a)", "[a, b]") ∷
    ("g.successors(a)", "[a, b]") ∷
    ("g.predecessors(a)", "[a]") ∷
    ("g.incidentEdges(a)", "[<a -> a>, <a -> b>]") ∷
    ("g.removeNode(a)", "true") ∷
    ("g", "nodes: [b], edges: {}") ∷ [])
unfolding literally
loops = refl

undirected_loops : Runs (
    ("new g UndirectedValueGraphLoops", "ok") ∷
    ("g.putEdgeValue(a, a, x)", "null") ∷
    ("g.putEdgeValue(a, b, y)", "null") ∷
    ("g", "nodes: [a, b], edges: {[a, a]=x, [a, b]=y}") ∷
    ("g.degree(a)", "3") ∷
    ("g.inDegree(a)", "3") ∷
    ("g.adjacentNodes(a)", "[a, b]") ∷
    ("g.incidentEdges(a)", "[[a, a], [a, b]]") ∷
    ("g.transpose", "nodes: [a, b], edges: {[a, a]=x, [a, b]=y}") ∷ [])
unfolding literally
undirected_loops = refl

views_of_graphs_refuse_writes : Runs (
    ("new g DirectedValueGraph", "ok") ∷
    ("g.putEdgeValue(a, b, x)", "null") ∷
    ("g.nodes.add(c)", "UnsupportedOperationException") ∷
    ("g.nodes.remove(a)", "UnsupportedOperationException") ∷
    ("g.nodes.clear", "UnsupportedOperationException") ∷
    ("g.edges.clear", "UnsupportedOperationException") ∷
    ("g.successors(a).add(c)", "UnsupportedOperationException") ∷
    ("g.transpose.addNode(c)", "UnsupportedOperationException") ∷
    ("g.unmodifiable.removeNode(a)", "UnsupportedOperationException") ∷
    ("g.unmodifiable.putEdgeValue(a, c, y)", "UnsupportedOperationException") ∷
    ("g.nodes.contains(b)", "true") ∷
    ("g.nodes.size", "2") ∷ [])
unfolding literally
views_of_graphs_refuse_writes = refl

a_kept_set_of_a_node_that_has_gone : Runs (
    ("new g UndirectedValueGraph", "ok") ∷
    ("g.putEdgeValue(a, b, x)", "null") ∷
    ("let s = g.adjacentNodes(a).filter(any)", "ok") ∷
    ("let t = g.transpose.incidentEdges(b)", "ok") ∷
    ("s", "[b]") ∷
    ("g.removeNode(b)", "true") ∷
    ("s", "[]") ∷
    ("t", "IllegalStateException") ∷
    ("t.size", "IllegalStateException") ∷
    ("t.contains(a, b)", "IllegalStateException") ∷
    ("g.putEdgeValue(b, c, y)", "null") ∷
    ("t", "[[b, c]]") ∷
    ("s", "[]") ∷
    ("g.removeNode(a)", "true") ∷
    ("s.add(q)", "UnsupportedOperationException") ∷
    ("s.contains(b)", "IllegalStateException") ∷
    ("g.addNode(a)", "true") ∷
    ("s.contains(b)", "false") ∷ [])
unfolding literally
a_kept_set_of_a_node_that_has_gone = refl

nodes_stay_when_an_edge_goes : Runs (
    ("new g DirectedValueGraph", "ok") ∷
    ("g.addNode(z)", "true") ∷
    ("g.putEdgeValue(a, b, x)", "null") ∷
    ("g.addNode(y)", "true") ∷
    ("g.putEdgeValue(z, a, w)", "null") ∷
    ("g.removeEdge(a, b)", "x") ∷
    ("g.removeEdge(b, a)", "null") ∷
    ("g", "nodes: [z, a, b, y], edges: {<z -> a>=w}") ∷
    ("g.putEdgeValue(z, a, v)", "w") ∷
    ("g", "nodes: [z, a, b, y], edges: {<z -> a>=v}") ∷ [])
unfolding literally
nodes_stay_when_an_edge_goes = refl

a_frozen_copy_of_a_transposed_graph : Runs (
    ("new g DirectedValueGraph", "ok") ∷
    ("g.putEdgeValue(a, b, x)", "null") ∷
    ("g.putEdgeValue(b, c, y)", "null") ∷
    ("let h = g.transpose.immutable", "ok") ∷
    ("g.removeNode(b)", "true") ∷
    ("h", "nodes: [a, b, c], edges: {<b -> a>=x, <c -> b>=y}") ∷
    ("h.addNode(q)", "UnsupportedOperationException") ∷
    ("h.successors(b)", "[a]") ∷
    ("h.transpose", "nodes: [a, b, c], edges: {<a -> b>=x, <b -> c>=y}") ∷ [])
unfolding literally
a_frozen_copy_of_a_transposed_graph = refl
