-- Worked examples of calls that take whole views, of iterators over several bases, and of wide numbers and other orders.
use Rattle.std.specs.Prelude.{[], ◌∷◌}
use Rattle.std.proofs.Common.{refl}
use Rattle.machine_examples.specs.Scripts.{Runs, literally}

-- putting a whole map into another, and removing a whole row of a table
a_whole_map_and_a_whole_row : Runs (
    ("new m TreeMap", "ok") ∷
    ("m.put(b, 1)", "null") ∷
    ("new n LinkedHashMap", "ok") ∷
    ("n.putAll(m)", "ok") ∷
    ("n", "{b=1}") ∷
    ("new t LinkedTable", "ok") ∷
    ("t.put(r, c, 1)", "null") ∷
    ("t.rowMap.remove(r)", "{c=1}") ∷
    ("t", "{}") ∷ [])
unfolding literally
a_whole_map_and_a_whole_row = refl

-- a forced put drops the pair that had the value, and a put through the inverse adds a pair
a_forced_put_and_a_put_through_the_inverse : Runs (
    ("new h HashBiMap", "ok") ∷
    ("h.put(a, 1)", "null") ∷
    ("h.forcePut(b, 1)", "null") ∷
    ("h", "{b=1}") ∷
    ("h.inverse.put(2, c)", "null") ∷
    ("h", "{b=1, c=2}") ∷ [])
unfolding literally
a_forced_put_and_a_put_through_the_inverse = refl

-- a sorted multiset as the argument of adding values to a key and of keeping only its members
a_sorted_multiset_as_an_argument : Runs (
    ("new b TreeMultiset", "ok") ∷
    ("b.add(2)", "true") ∷
    ("b.add(1)", "true") ∷
    ("new m LinkedHashMultimap", "ok") ∷
    ("m.putAll(k, b)", "true") ∷
    ("m", "{k=[1, 2]}") ∷
    ("b.remove(2)", "true") ∷
    ("m.get(k).retainAll(b)", "true") ∷
    ("m", "{k=[1]}") ∷ [])
unfolding literally
a_sorted_multiset_as_an_argument = refl

-- a whole range set added to and removed from another, and the edge of an undirected graph
a_whole_range_set_as_an_argument : Runs (
    ("new r TreeRangeSet", "ok") ∷
    ("r.add([1..2])", "ok") ∷
    ("new s TreeRangeSet", "ok") ∷
    ("s.addAll(r)", "ok") ∷
    ("s", "[[1..2]]") ∷
    ("s.removeAll(r)", "ok") ∷
    ("s", "[]") ∷
    ("new g UndirectedValueGraph", "ok") ∷
    ("g.putEdgeValue(a, b, 1)", "null") ∷
    ("g.edges", "[[a, b]]") ∷ [])
unfolding literally
a_whole_range_set_as_an_argument = refl

-- a kept key set that refuses adding and shows what the map has, and three refused lines
a_kept_key_set : Runs (
    ("new m LinkedHashMap", "ok") ∷
    ("let k = m.keySet", "ok") ∷
    ("k.add(a)", "UnsupportedOperationException") ∷
    ("m.put(a, 1)", "null") ∷
    ("k.contains(a)", "true") ∷
    ("k", "[a]") ∷
    ("k.size", "1") ∷
    ("q", "?name") ∷
    ("m.first", "?call") ∷
    ("m m", "?syntax") ∷ [])
unfolding literally
a_kept_key_set = refl

-- a transformation over a filter refuses adding, removes only what it shows, and an unmodifiable view refuses all
a_transformation_over_a_filter : Runs (
    ("new m LinkedHashMap", "ok") ∷
    ("m.put(a, 1)", "null") ∷
    ("m.put(b, 2)", "null") ∷
    ("let v = m.filterValues(odd).transformValues(neg)", "ok") ∷
    ("v", "{a=-1}") ∷
    ("v.put(a, 3)", "UnsupportedOperationException") ∷
    ("v.keySet.remove(b)", "false") ∷
    ("v.keySet.remove(a)", "true") ∷
    ("m", "{b=2}") ∷
    ("m.unmodifiable.remove(b)", "UnsupportedOperationException") ∷ [])
unfolding literally
a_transformation_over_a_filter = refl

-- a window over a complement writes the opposite below, inside the window alone
a_window_over_a_complement : Runs (
    ("new r TreeRangeSet", "ok") ∷
    ("let c = r.complement.subRangeSet([0..10])", "ok") ∷
    ("c", "[[0..10]]") ∷
    ("c.remove([2..3])", "ok") ∷
    ("r", "[[2..3]]") ∷
    ("c", "[[0..2), (3..10]]") ∷
    ("c.add([9..11])", "IllegalArgumentException") ∷
    ("c.add([2..2])", "ok") ∷
    ("r", "[(2..3]]") ∷
    ("r.span", "(2..3]") ∷ [])
unfolding literally
a_window_over_a_complement = refl

-- an iterator over the edges of an undirected graph: a new value leaves it fresh, a new node makes it stale
an_iterator_over_edges : Runs (
    ("new g UndirectedValueGraph", "ok") ∷
    ("g.putEdgeValue(a, b, 1)", "null") ∷
    ("it i = g.edges", "ok") ∷
    ("i.next", "[a, b]") ∷
    ("i.remove", "UnsupportedOperationException") ∷
    ("g.putEdgeValue(b, a, 2)", "1") ∷
    ("i.hasNext", "false") ∷
    ("g", "nodes: [a, b], edges: {[a, b]=2}") ∷
    ("g.addNode(c)", "true") ∷
    ("i.hasNext", "ConcurrentModificationException") ∷ [])
unfolding literally
an_iterator_over_edges = refl

-- a set removes the members of its own filter
a_set_without_its_own_filter : Runs (
    ("new s LinkedHashSet", "ok") ∷
    ("s.add(1)", "true") ∷
    ("s.add(2)", "true") ∷
    ("s.add(3)", "true") ∷
    ("let v = s.filter(odd)", "ok") ∷
    ("s.removeAll(v)", "true") ∷
    ("s", "[2]") ∷
    ("v", "[]") ∷ [])
unfolding literally
a_set_without_its_own_filter = refl

-- the values of a key are replaced by a view of the same multimap, under another key and under the same one
values_replaced_by_a_view_of_the_same_multimap : Runs (
    ("new m LinkedHashMultimap", "ok") ∷
    ("m.put(a, 1)", "true") ∷
    ("m.put(a, 2)", "true") ∷
    ("let g = m.get(a)", "ok") ∷
    ("m.replaceValues(b, g)", "[]") ∷
    ("m", "{a=[1, 2], b=[1, 2]}") ∷
    ("m.replaceValues(a, g)", "[1, 2]") ∷
    ("m.entries", "[b=1, b=2, a=1, a=2]") ∷ [])
unfolding literally
values_replaced_by_a_view_of_the_same_multimap = refl

-- a sublist on a sublist: a write through the upper one updates both, a write through the lower one makes the upper stale
a_sublist_on_a_sublist : Runs (
    ("new l ArrayList", "ok") ∷
    ("l.add(1)", "true") ∷
    ("l.add(2)", "true") ∷
    ("l.add(3)", "true") ∷
    ("l.add(4)", "true") ∷
    ("let u = l.sub(0, 3)", "ok") ∷
    ("let w = u.sub(1, 3)", "ok") ∷
    ("w.add(9)", "true") ∷
    ("l", "[1, 2, 3, 9, 4]") ∷
    ("u", "[1, 2, 3, 9]") ∷
    ("u.add(8)", "true") ∷
    ("w", "ConcurrentModificationException") ∷
    ("l", "[1, 2, 3, 9, 8, 4]") ∷ [])
unfolding literally
a_sublist_on_a_sublist = refl

-- an iterator over a union of a set with itself goes stale, also where the size is as before
an_iterator_over_a_union_with_itself : Runs (
    ("new s LinkedHashSet", "ok") ∷
    ("s.add(1)", "true") ∷
    ("it i = s.union(s)", "ok") ∷
    ("s.add(2)", "true") ∷
    ("s.remove(2)", "true") ∷
    ("i.hasNext", "ConcurrentModificationException") ∷ [])
unfolding literally
an_iterator_over_a_union_with_itself = refl

-- whole numbers of 64 bits at their ends: wrapping, a literal too wide, an index too wide, a range at the greatest number
numbers_at_their_ends : Runs (
    ("new l ArrayList", "ok") ∷
    ("l.add(9223372036854775807)", "true") ∷
    ("l.transform(plus(1))", "[-9223372036854775808]") ∷
    ("l.add(9223372036854775808)", "?syntax") ∷
    ("l.get(2147483648)", "?call") ∷
    ("new r TreeRangeSet", "ok") ∷
    ("r.add([9223372036854775807..+∞))", "ok") ∷
    ("r.complement", "[(-∞..9223372036854775807)]") ∷ [])
unfolding literally
numbers_at_their_ends = refl

-- a set in reverse order, whose windows are read by that order
a_set_in_reverse_order : Runs (
    ("new s TreeSetReverse", "ok") ∷
    ("s.add(1)", "true") ∷
    ("s.add(2)", "true") ∷
    ("s.add(3)", "true") ∷
    ("s", "[3, 2, 1]") ∷
    ("s.first", "3") ∷
    ("let w = s.within([2..+∞))", "ok") ∷
    ("w", "[2, 1]") ∷
    ("w.add(3)", "IllegalArgumentException") ∷
    ("w.within((-∞..1])", "[2, 1]") ∷
    ("w.within((-∞..3])", "IllegalArgumentException") ∷
    ("s.within([1..3])", "IllegalArgumentException") ∷
    ("s.within([2..2])", "[2]") ∷
    ("s.descending", "[1, 2, 3]") ∷ [])
unfolding literally
a_set_in_reverse_order = refl

-- a map whose keys go by the length of their text
keys_by_the_length_of_their_text : Runs (
    ("new q TreeMapLength", "ok") ∷
    ("q.put(bb, 1)", "null") ∷
    ("q.put(c, 2)", "null") ∷
    ("q.put(10, 3)", "null") ∷
    ("q", "{c=2, 10=3, bb=1}") ∷
    ("q.firstKey", "c") ∷ [])
unfolding literally
keys_by_the_length_of_their_text = refl
