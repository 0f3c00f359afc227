-- Worked examples of copies, windows, range maps, builders, bags, tables and graphs.
use Rattle.std.specs.Prelude.{[], ◌∷◌}
use Rattle.std.proofs.Common.{refl}
use Rattle.machine_examples.specs.Scripts.{Runs, literally}

-- a realistic index: filtered groups, a live union of two value sets, and an immutable copy of it
an_index_of_words : Runs (
    ("new d LinkedHashMultimap", "ok") ∷
    ("d.put(apple, 1)", "true") ∷
    ("d.put(ant, 1)", "true") ∷
    ("d.put(apple, 2)", "true") ∷
    ("d.put(bee, 2)", "true") ∷
    ("let a = d.asMap.filterKeys(starts(a))", "ok") ∷
    ("a", "{apple=[1, 2], ant=[1]}") ∷
    ("d.keys", "[apple x 2, ant, bee]") ∷
    ("let p = d.get(ant)", "ok") ∷
    ("let q = d.get(bee)", "ok") ∷
    ("let u = p.union(q)", "ok") ∷
    ("u", "[1, 2]") ∷
    ("let c = u.immutable", "ok") ∷
    ("q.add(3)", "true") ∷
    ("u", "[1, 2, 3]") ∷
    ("c", "[1, 2]") ∷
    ("a.remove(apple)", "[1, 2]") ∷
    ("d", "{ant=[1], bee=[2, 3]}") ∷
    ("c.add(9)", "UnsupportedOperationException") ∷ [])
unfolding literally
an_index_of_words = refl

-- the script of the fault tests, run without a fault
a_look_up : Runs (
    ("new m LinkedHashMap", "ok") ∷
    ("m.put(a, 1)", "null") ∷
    ("m", "{a=1}") ∷
    ("m.get(a)", "1") ∷ [])
unfolding literally
a_look_up = refl

-- windows of a sorted set: adding outside is refused, a window in a window keeps its ends, clear empties the window alone
windows_of_a_sorted_set : Runs (
    ("new s TreeSet", "ok") ∷
    ("s.add(5)", "true") ∷
    ("s.add(a)", "true") ∷
    ("s.add(1)", "true") ∷
    ("s.add(3)", "true") ∷
    ("s", "[1, 3, 5, a]") ∷
    ("let w = s.within([2..+∞))", "ok") ∷
    ("w.descending.first", "a") ∷
    ("w.add(1)", "IllegalArgumentException") ∷
    ("w.within([1..4])", "IllegalArgumentException") ∷
    ("w.within((-∞..4])", "[3]") ∷
    ("w.clear", "ok") ∷
    ("s", "[1]") ∷
    ("w.first", "NoSuchElementException") ∷ [])
unfolding literally
windows_of_a_sorted_set = refl

-- a range map cuts overlaps away, and its window puts, removes and joins only what it shows
a_window_of_a_range_map : Runs (
    ("new m TreeRangeMap", "ok") ∷
    ("m.put([1..5], a)", "ok") ∷
    ("m.put([4..8), b)", "ok") ∷
    ("m", "{[1..4)=a, [4..8)=b}") ∷
    ("m.get(4)", "b") ∷
    ("let s = m.subRangeMap([2..5])", "ok") ∷
    ("s", "{[2..4)=a, [4..5]=b}") ∷
    ("s.put([5..6], c)", "IllegalArgumentException") ∷
    ("s.remove([3..4])", "ok") ∷
    ("m", "{[1..3)=a, (4..8)=b}") ∷
    ("s.putCoalescing([3..3], a)", "ok") ∷
    ("m", "{[1..2)=a, [2..3]=a, (4..8)=b}") ∷ [])
unfolding literally
a_window_of_a_range_map = refl

-- replacing the values of a key overwrites in place on a linked list multimap, and goes last on a linked set multimap whose key keeps its place
replaced_values_of_a_key : Runs (
    ("new v ArrayList", "ok") ∷
    ("v.add(8)", "true") ∷
    ("v.add(9)", "true") ∷
    ("new m LinkedListMultimap", "ok") ∷
    ("m.put(a, 1)", "true") ∷
    ("m.put(b, 1)", "true") ∷
    ("m.put(a, 2)", "true") ∷
    ("m.put(a, 3)", "true") ∷
    ("m.replaceValues(a, v)", "[1, 2, 3]") ∷
    ("m.entries", "[a=8, b=1, a=9]") ∷
    ("m.get(a).add(0, 7)", "ok") ∷
    ("m.entries", "[a=7, a=8, b=1, a=9]") ∷
    ("new n LinkedHashMultimap", "ok") ∷
    ("n.put(a, 1)", "true") ∷
    ("n.put(b, 1)", "true") ∷
    ("n.put(a, 2)", "true") ∷
    ("n.replaceValues(a, v)", "[1, 2]") ∷
    ("n.entries", "[b=1, a=8, a=9]") ∷
    ("n.keySet", "[a, b]") ∷ [])
unfolding literally
replaced_values_of_a_key = refl

-- builders: a key added twice, the build that keeps the last pair, an empty range and two overlapping ranges
builds_and_refusals : Runs (
    ("new k ImmutableMapBuilder", "ok") ∷
    ("k.put(a, 1)", "ok") ∷
    ("k.put(a, 2)", "ok") ∷
    ("let m = k.buildOrThrow", "IllegalArgumentException") ∷
    ("m", "?name") ∷
    ("let m = k.buildKeepingLast", "ok") ∷
    ("m", "{a=2}") ∷
    ("m.put(b, 1)", "UnsupportedOperationException") ∷
    ("new q ImmutableRangeSetBuilder", "ok") ∷
    ("q.add([1..3])", "ok") ∷
    ("q.add([4..4))", "IllegalArgumentException") ∷
    ("q.add([2..5])", "ok") ∷
    ("let r = q.build", "IllegalArgumentException") ∷ [])
unfolding literally
builds_and_refusals = refl

-- a transformed list removes but does not add, and sums pass 32 bits without wrapping
a_transformed_list : Runs (
    ("new l ArrayList", "ok") ∷
    ("l.add(1)", "true") ∷
    ("l.add(a)", "true") ∷
    ("let f = l.transform(when(isInt, times(2), prefix(x)))", "ok") ∷
    ("f", "[2, xa]") ∷
    ("f.add(4)", "UnsupportedOperationException") ∷
    ("f.remove(2)", "true") ∷
    ("l", "[a]") ∷
    ("l.add(2147483647)", "true") ∷
    ("l.transform(plus(1))", "[a, 2147483648]") ∷ [])
unfolding literally
a_transformed_list = refl

-- set and multiset algebra: differences, intersections, unions and sums, and a sum that refuses adding
set_and_multiset_algebra : Runs (
    ("new s LinkedHashSet", "ok") ∷
    ("s.add(1)", "true") ∷
    ("s.add(2)", "true") ∷
    ("s.add(3)", "true") ∷
    ("new t LinkedHashSet", "ok") ∷
    ("t.add(3)", "true") ∷
    ("t.add(4)", "true") ∷
    ("s.symmetricDifference(t)", "[1, 2, 4]") ∷
    ("s.intersection(t)", "[3]") ∷
    ("s.difference(t)", "[1, 2]") ∷
    ("s.equals(t)", "false") ∷
    ("new b LinkedHashMultiset", "ok") ∷
    ("b.add(a, 2)", "0") ∷
    ("new c LinkedHashMultiset", "ok") ∷
    ("c.add(a)", "true") ∷
    ("c.add(z)", "true") ∷
    ("b.sum(c)", "[a x 3, z]") ∷
    ("b.union(c)", "[a x 2, z]") ∷
    ("b.difference(c)", "[a]") ∷
    ("b.intersection(c)", "[a]") ∷
    ("b.sum(c).add(q)", "UnsupportedOperationException") ∷ [])
unfolding literally
set_and_multiset_algebra = refl

-- a sorted multimap, groups of an absent key, and a filter by key that refuses a pair of another key
a_sorted_multimap : Runs (
    ("new m TreeMultimap", "ok") ∷
    ("m.put(b, 2)", "true") ∷
    ("m.put(a, 9)", "true") ∷
    ("m.put(b, 1)", "true") ∷
    ("m.put(b, 1)", "false") ∷
    ("m", "{a=[9], b=[1, 2]}") ∷
    ("m.get(b).first", "1") ∷
    ("m.asMap.get(z)", "null") ∷
    ("let g = m.asMap.get(z)", "null") ∷
    ("g", "?name") ∷
    ("m.asMap.remove(z)", "null") ∷
    ("m.filterKeys(eq(a)).get(b).add(5)", "IllegalArgumentException") ∷ [])
unfolding literally
a_sorted_multimap = refl

-- a sorted table: rows, columns, cells, a column removed through the column keys, a filtered row
a_sorted_table : Runs (
    ("new t TreeBasedTable", "ok") ∷
    ("t.put(2, b, x)", "null") ∷
    ("t.put(1, b, y)", "null") ∷
    ("t.put(1, a, z)", "null") ∷
    ("t", "{1={a=z, b=y}, 2={b=x}}") ∷
    ("t.columnMap", "{a={1=z}, b={1=y, 2=x}}") ∷
    ("t.cellSet", "[(1,a)=z, (1,b)=y, (2,b)=x]") ∷
    ("t.columnKeySet.remove(b)", "true") ∷
    ("t", "{1={a=z}}") ∷
    ("t.row(1).filterKeys(lt(b)).values", "[z]") ∷ [])
unfolding literally
a_sorted_table = refl

-- a list that is its own argument when adding and removing many
a_list_as_its_own_argument : Runs (
    ("new l ArrayList", "ok") ∷
    ("l.add(1)", "true") ∷
    ("l.add(2)", "true") ∷
    ("l.addAll(l)", "true") ∷
    ("l", "[1, 2, 1, 2]") ∷
    ("l.removeAll(l)", "true") ∷
    ("l", "[]") ∷
    ("l.removeAll(l)", "false") ∷
    ("l.get(0)", "IndexOutOfBoundsException") ∷ [])
unfolding literally
a_list_as_its_own_argument = refl

-- a set seen as a map of its members, that map seen as a multimap, and an immutable copy that equals the set
a_set_as_a_map : Runs (
    ("new s LinkedHashSet", "ok") ∷
    ("s.add(2)", "true") ∷
    ("s.add(1)", "true") ∷
    ("let m = s.asMap(times(10))", "ok") ∷
    ("m", "{2=20, 1=10}") ∷
    ("m.put(3, 30)", "UnsupportedOperationException") ∷
    ("m.remove(2)", "20") ∷
    ("s", "[1]") ∷
    ("m.forMap.get(1)", "[10]") ∷
    ("let c = s.immutable", "ok") ∷
    ("c.equals(s)", "true") ∷ [])
unfolding literally
a_set_as_a_map = refl

-- a list multimap grouped by key, removed through a filter and read through a transformation
a_list_multimap : Runs (
    ("new p LinkedArrayListMultimap", "ok") ∷
    ("p.put(a, 1)", "true") ∷
    ("p.put(b, 2)", "true") ∷
    ("p.put(a, 1)", "true") ∷
    ("p.entries", "[a=1, a=1, b=2]") ∷
    ("p.filterValues(odd).removeAll(a)", "[1, 1]") ∷
    ("p", "{b=[2]}") ∷
    ("p.transformValues(neg).get(b)", "[-2]") ∷
    ("p.transformValues(neg).put(c, 1)", "UnsupportedOperationException") ∷ [])
unfolding literally
a_list_multimap = refl
