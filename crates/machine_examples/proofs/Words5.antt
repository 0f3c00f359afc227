-- Each word on a view of each shape, as an expression, behind a name and under an iterator, where it has a meaning.
use Rattle.std.specs.Prelude.{[], ◌∷◌}
use Rattle.std.proofs.Common.{refl}
use Rattle.machine_examples.specs.Scripts.{Runs, literally}

graph : Runs (
    ("new v DirectedValueGraph", "ok") ∷
    ("v.putEdgeValue(a, b, 1)", "null") ∷
    ("v.addNode(a)", "false") ∷
    ("v.adjacentNodes(a)", "[b]") ∷
    ("let w = v.adjacentNodes(a)", "ok") ∷
    ("it w = v.adjacentNodes(a)", "ok") ∷
    ("v.degree(a)", "1") ∷
    ("v.edgeValue(a, a)", "null") ∷
    ("v.edges", "[<a -> b>]") ∷
    ("let w = v.edges", "ok") ∷
    ("it w = v.edges", "ok") ∷
    ("v.hasEdge(a, a)", "false") ∷
    ("let w = v.immutable", "ok") ∷
    ("v.inDegree(a)", "0") ∷
    ("v.incidentEdges(a)", "[<a -> b>]") ∷
    ("let w = v.incidentEdges(a)", "ok") ∷
    ("it w = v.incidentEdges(a)", "ok") ∷
    ("v.nodes", "[a, b]") ∷
    ("let w = v.nodes", "ok") ∷
    ("it w = v.nodes", "ok") ∷
    ("v.outDegree(a)", "1") ∷
    ("v.predecessors(a)", "[]") ∷
    ("let w = v.predecessors(a)", "ok") ∷
    ("it w = v.predecessors(a)", "ok") ∷
    ("v.putEdgeValue(a, a, a)", "IllegalArgumentException") ∷
    ("v.removeEdge(a, a)", "null") ∷
    ("v.removeNode(a)", "true") ∷
    ("v.successors(a)", "IllegalArgumentException") ∷
    ("let w = v.successors(a)", "IllegalArgumentException") ∷
    ("it w = v.successors(a)", "IllegalArgumentException") ∷
    ("v.transpose", "nodes: [b], edges: {}") ∷
    ("let w = v.transpose", "ok") ∷
    ("v.unmodifiable", "nodes: [b], edges: {}") ∷
    ("let w = v.unmodifiable", "ok") ∷ [])
unfolding literally
graph = refl

undirected_graph : Runs (
    ("new v UndirectedValueGraphLoops", "ok") ∷
    ("v.putEdgeValue(a, b, 1)", "null") ∷
    ("v.putEdgeValue(a, a, 2)", "null") ∷
    ("v.addNode(a)", "false") ∷
    ("v.adjacentNodes(a)", "[b, a]") ∷
    ("let w = v.adjacentNodes(a)", "ok") ∷
    ("it w = v.adjacentNodes(a)", "ok") ∷
    ("v.degree(a)", "3") ∷
    ("v.edgeValue(a, a)", "2") ∷
    ("v.edges", "[[a, b], [a, a]]") ∷
    ("let w = v.edges", "ok") ∷
    ("it w = v.edges", "ok") ∷
    ("v.hasEdge(a, a)", "true") ∷
    ("let w = v.immutable", "ok") ∷
    ("v.inDegree(a)", "3") ∷
    ("v.incidentEdges(a)", "[[a, b], [a, a]]") ∷
    ("let w = v.incidentEdges(a)", "ok") ∷
    ("it w = v.incidentEdges(a)", "ok") ∷
    ("v.nodes", "[a, b]") ∷
    ("let w = v.nodes", "ok") ∷
    ("it w = v.nodes", "ok") ∷
    ("v.outDegree(a)", "3") ∷
    ("v.predecessors(a)", "[b, a]") ∷
    ("let w = v.predecessors(a)", "ok") ∷
    ("it w = v.predecessors(a)", "ok") ∷
    ("v.putEdgeValue(a, a, a)", "2") ∷
    ("v.removeEdge(a, a)", "a") ∷
    ("v.removeNode(a)", "true") ∷
    ("v.successors(a)", "IllegalArgumentException") ∷
    ("let w = v.successors(a)", "IllegalArgumentException") ∷
    ("it w = v.successors(a)", "IllegalArgumentException") ∷
    ("v.transpose", "nodes: [b], edges: {}") ∷
    ("let w = v.transpose", "ok") ∷
    ("v.unmodifiable", "nodes: [b], edges: {}") ∷
    ("let w = v.unmodifiable", "ok") ∷ [])
unfolding literally
undirected_graph = refl

edges : Runs (
    ("new b UndirectedValueGraph", "ok") ∷
    ("b.putEdgeValue(a, b, 1)", "null") ∷
    ("let v = b.edges", "ok") ∷
    ("v.clear", "UnsupportedOperationException") ∷
    ("v.contains(a, 1)", "false") ∷
    ("v.contains(a, a)", "false") ∷
    ("v.isEmpty", "false") ∷
    ("v.remove(a, 1)", "UnsupportedOperationException") ∷
    ("v.remove(a, a)", "UnsupportedOperationException") ∷
    ("v.size", "1") ∷ [])
unfolding literally
edges = refl

nodes : Runs (
    ("new b DirectedValueGraph", "ok") ∷
    ("b.putEdgeValue(a, b, 1)", "null") ∷
    ("let v = b.nodes", "ok") ∷
    ("v.add(a)", "UnsupportedOperationException") ∷
    ("v.addAll(v)", "UnsupportedOperationException") ∷
    ("v.addAll(v)", "UnsupportedOperationException") ∷
    ("v.asMap(len)", "{a=1, b=1}") ∷
    ("let w = v.asMap(len)", "ok") ∷
    ("v.clear", "UnsupportedOperationException") ∷
    ("v.contains(2)", "false") ∷
    ("v.contains(a)", "true") ∷
    ("v.containsAll(v)", "true") ∷
    ("v.difference(v)", "[]") ∷
    ("let w = v.difference(v)", "ok") ∷
    ("it w = v.difference(v)", "ok") ∷
    ("v.difference(v)", "[]") ∷
    ("let w = v.difference(v)", "ok") ∷
    ("it w = v.difference(v)", "ok") ∷
    ("v.equals(v)", "true") ∷
    ("v.equals(v)", "true") ∷
    ("v.equals(v)", "true") ∷
    ("v.equals(v)", "true") ∷
    ("v.equals(v)", "true") ∷
    ("v.filter(any)", "[a, b]") ∷
    ("let w = v.filter(any)", "ok") ∷
    ("it w = v.filter(any)", "ok") ∷
    ("let w = v.immutable", "ok") ∷
    ("v.intersection(v)", "[a, b]") ∷
    ("let w = v.intersection(v)", "ok") ∷
    ("it w = v.intersection(v)", "ok") ∷
    ("v.intersection(v)", "[a, b]") ∷
    ("let w = v.intersection(v)", "ok") ∷
    ("it w = v.intersection(v)", "ok") ∷
    ("v.intersection(v)", "[a, b]") ∷
    ("let w = v.intersection(v)", "ok") ∷
    ("it w = v.intersection(v)", "ok") ∷
    ("v.isEmpty", "false") ∷
    ("v.remove(a)", "UnsupportedOperationException") ∷
    ("v.removeAll(v)", "UnsupportedOperationException") ∷
    ("v.removeAll(v)", "UnsupportedOperationException") ∷
    ("v.removeAll(a)", "?name") ∷
    ("v.retainAll(v)", "UnsupportedOperationException") ∷
    ("v.size", "2") ∷
    ("v.symmetricDifference(v)", "[]") ∷
    ("let w = v.symmetricDifference(v)", "ok") ∷
    ("it w = v.symmetricDifference(v)", "ok") ∷
    ("v.transform(len)", "[1, 1]") ∷
    ("let w = v.transform(len)", "ok") ∷
    ("it w = v.transform(len)", "ok") ∷
    ("v.union(v)", "[a, b]") ∷
    ("let w = v.union(v)", "ok") ∷
    ("it w = v.union(v)", "ok") ∷
    ("v.union(v)", "[a, b]") ∷
    ("let w = v.union(v)", "ok") ∷
    ("it w = v.union(v)", "ok") ∷
    ("v.unmodifiable", "[a, b]") ∷
    ("let w = v.unmodifiable", "ok") ∷
    ("it w = v.unmodifiable", "ok") ∷ [])
unfolding literally
nodes = refl

list_builder : Runs (
    ("new v ImmutableListBuilder", "ok") ∷
    ("v.add(a)", "ok") ∷
    ("v.add(a)", "ok") ∷
    ("let w = v.build", "ok") ∷ [])
unfolding literally
list_builder = refl

set_builder : Runs (
    ("new v ImmutableSetBuilder", "ok") ∷
    ("v.add(a)", "ok") ∷
    ("v.add(a)", "ok") ∷
    ("let w = v.build", "ok") ∷ [])
unfolding literally
set_builder = refl

multiset_builder : Runs (
    ("new v ImmutableMultisetBuilder", "ok") ∷
    ("v.add(a)", "ok") ∷
    ("v.add(a)", "ok") ∷
    ("v.addCopies(a, 1)", "ok") ∷
    ("let w = v.build", "ok") ∷ [])
unfolding literally
multiset_builder = refl

map_builder : Runs (
    ("new v ImmutableMapBuilder", "ok") ∷
    ("v.put(a, 1)", "ok") ∷
    ("let w = v.buildKeepingLast", "ok") ∷
    ("let w = v.buildOrThrow", "ok") ∷
    ("v.put(a, a)", "ok") ∷ [])
unfolding literally
map_builder = refl

bimap_builder : Runs (
    ("new v ImmutableBiMapBuilder", "ok") ∷
    ("v.put(a, 1)", "ok") ∷
    ("let w = v.buildOrThrow", "ok") ∷
    ("v.put(a, a)", "ok") ∷ [])
unfolding literally
bimap_builder = refl

listmultimap_builder : Runs (
    ("new v ImmutableListMultimapBuilder", "ok") ∷
    ("v.put(a, 1)", "ok") ∷
    ("let w = v.build", "ok") ∷
    ("v.put(a, a)", "ok") ∷ [])
unfolding literally
listmultimap_builder = refl

setmultimap_builder : Runs (
    ("new v ImmutableSetMultimapBuilder", "ok") ∷
    ("v.put(a, 1)", "ok") ∷
    ("let w = v.build", "ok") ∷
    ("v.put(a, a)", "ok") ∷ [])
unfolding literally
setmultimap_builder = refl

table_builder : Runs (
    ("new v ImmutableTableBuilder", "ok") ∷
    ("v.put(a, 1, x)", "ok") ∷
    ("let w = v.build", "ok") ∷
    ("v.put(a, a, a)", "ok") ∷ [])
unfolding literally
table_builder = refl

rangeset_builder : Runs (
    ("new v ImmutableRangeSetBuilder", "ok") ∷
    ("v.add([1..3])", "ok") ∷
    ("v.add([2..4])", "ok") ∷
    ("let w = v.build", "IllegalArgumentException") ∷ [])
unfolding literally
rangeset_builder = refl

rangemap_builder : Runs (
    ("new v ImmutableRangeMapBuilder", "ok") ∷
    ("v.put([1..3], a)", "ok") ∷
    ("let w = v.build", "ok") ∷
    ("v.put([2..4], a)", "ok") ∷ [])
unfolding literally
rangemap_builder = refl
