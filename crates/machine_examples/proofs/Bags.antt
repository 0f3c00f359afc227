-- Scripts on bags.
use Rattle.std.specs.Prelude.{[], ◌∷◌}
use Rattle.std.proofs.Common.{refl}
use Rattle.machine_examples.specs.Scripts.{Runs, literally}

-- adding and removing several, and setting a count
counts : Runs (
    ("new b LinkedHashMultiset", "ok") ∷
    ("b.add(x, 3)", "0") ∷
    ("b.add(y)", "true") ∷
    ("b.add(x)", "true") ∷
    ("b", "[x x 4, y]") ∷
    ("b.size", "5") ∷
    ("b.count(x)", "4") ∷
    ("b.remove(x, 2)", "4") ∷
    ("b", "[x x 2, y]") ∷
    ("b.remove(x, 9)", "2") ∷
    ("b", "[y]") ∷
    ("b.setCount(y, 4)", "1") ∷
    ("b.setCount(y, 2)", "4") ∷
    ("b.setCount(z, 1)", "0") ∷
    ("b.setCount(z, 0)", "1") ∷
    ("b", "[y x 2]") ∷
    ("b.setCount(y, -1)", "IllegalArgumentException") ∷
    ("b.remove(y, -1)", "IllegalArgumentException") ∷
    ("b.add(z, 0)", "0") ∷
    ("b.add(y, 1)", "2") ∷
    ("b.entrySet", "[y x 3]") ∷
    ("b.entrySet.contains(y, 3)", "true") ∷
    ("b.entrySet.remove(y, 2)", "false") ∷
    ("b.entrySet.remove(y, 3)", "true") ∷
    ("b", "[]") ∷ [])
unfolding literally
counts = refl

-- an element goes with all its occurrences
element_set : Runs (
    ("new b TreeMultiset", "ok") ∷
    ("b.add(2, 2)", "0") ∷
    ("b.add(1, 3)", "0") ∷
    ("b.add(3)", "true") ∷
    ("b.elementSet", "[1, 2, 3]") ∷
    ("b.elementSet.first", "1") ∷
    ("b.elementSet.remove(1)", "true") ∷
    ("b", "[2 x 2, 3]") ∷
    ("b.elementSet.contains(1)", "false") ∷
    ("b.elementSet.within([3..+∞)).clear", "ok") ∷
    ("b", "[2 x 2]") ∷
    ("b.firstEntry", "2 x 2") ∷
    ("b.descending", "[2 x 2]") ∷
    ("b.descending.lastEntry", "2 x 2") ∷
    ("b.within([3..+∞)).firstEntry", "null") ∷
    ("b.within([3..+∞)).add(2, 0)", "IllegalArgumentException") ∷
    ("b.within([3..+∞)).setCount(2, 0)", "0") ∷
    ("b.within([3..+∞)).setCount(2, 1)", "IllegalArgumentException") ∷
    ("b.within([3..+∞)).add(4)", "true") ∷
    ("b", "[2 x 2, 4]") ∷ [])
unfolding literally
element_set = refl

-- an element that is hidden has the count 0
counts_of_filtered_bags : Runs (
    ("new b LinkedHashMultiset", "ok") ∷
    ("b.add(x, 2)", "0") ∷
    ("b.add(y, 1)", "0") ∷
    ("let f = b.filter(eq(x))", "ok") ∷
    ("f", "[x x 2]") ∷
    ("f.size", "2") ∷
    ("f.count(y)", "0") ∷
    ("f.add(y)", "IllegalArgumentException") ∷
    ("f.add(x, 2)", "2") ∷
    ("f.remove(y, 1)", "0") ∷
    ("f.setCount(y, 0)", "0") ∷
    ("f.setCount(y, 1)", "IllegalArgumentException") ∷
    ("f.elementSet", "[x]") ∷
    ("f.clear", "ok") ∷
    ("b", "[y]") ∷
    ("b.filter(any).contains(x)", "false") ∷
    ("b.unmodifiable.add(x)", "UnsupportedOperationException") ∷
    ("b.unmodifiable.setCount(x, 0)", "UnsupportedOperationException") ∷
    ("b.elementSet.filter(eq(y)).remove(y)", "true") ∷
    ("b", "[]") ∷ [])
unfolding literally
counts_of_filtered_bags = refl

-- a comparator decides the order
bags_in_other_orders : Runs (
    ("new r TreeMultisetReverse", "ok") ∷
    ("r.add(1)", "true") ∷
    ("r.add(3)", "true") ∷
    ("r.add(2, 2)", "0") ∷
    ("r", "[3, 2 x 2, 1]") ∷
    ("r.within([2..+∞))", "[2 x 2, 1]") ∷
    ("r.descending", "[1, 2 x 2, 3]") ∷
    ("new l TreeMultisetLength", "ok") ∷
    ("l.add(bb)", "true") ∷
    ("l.add(c)", "true") ∷
    ("l.add(10)", "true") ∷
    ("l", "[c, 10, bb]") ∷
    ("l.lastEntry", "bb") ∷
    ("r.equals(l)", "false") ∷ [])
unfolding literally
bags_in_other_orders = refl

-- a hidden element counts by the second alone
union_where_the_first_hides : Runs (
    ("new b LinkedHashMultiset", "ok") ∷
    ("b.add(x, 2)", "0") ∷
    ("b.add(y)", "true") ∷
    ("new c LinkedHashMultiset", "ok") ∷
    ("c.add(x)", "true") ∷
    ("c.add(z, 2)", "0") ∷
    ("let f = b.filter(eq(y))", "ok") ∷
    ("f.union(c)", "[x, y, z x 2]") ∷
    ("walk f.union(c)", "?syntax") ∷
    ("f.sum(c)", "[x, y, z x 2]") ∷
    ("walk f.sum(c)", "?syntax") ∷
    ("f.intersection(c)", "[]") ∷
    ("f.difference(c)", "[y]") ∷
    ("b.union(c.filter(any))", "?syntax") ∷
    ("b.sum(c.filter(eq(x)))", "?syntax") ∷
    ("b.difference(c.filter(eq(z)))", "?syntax") ∷
    ("b.intersection(f)", "[y]") ∷
    ("c.difference(b)", "[z x 2]") ∷
    ("c.union(f)", "[x, z x 2, y]") ∷
    ("f.union(c).elementSet", "[x, y, z]") ∷
    ("f.union(c).entrySet", "[x, y, z x 2]") ∷
    ("f.union(c).filter(eq(x))", "[x]") ∷
    ("f.union(c).size", "4") ∷
    ("f.union(c).add(x)", "UnsupportedOperationException") ∷
    ("f.union(c).remove(x, 1)", "UnsupportedOperationException") ∷
    ("f.union(c).union(b)", "[x x 2, y, z x 2]") ∷ [])
unfolding literally
union_where_the_first_hides = refl

-- a bag gives each occurrence
bags_as_arguments : Runs (
    ("new b TreeMultiset", "ok") ∷
    ("b.add(2, 2)", "0") ∷
    ("b.add(1)", "true") ∷
    ("new l ArrayList", "ok") ∷
    ("l.addAll(b)", "true") ∷
    ("l", "[1, 2, 2]") ∷
    ("new s LinkedHashSet", "ok") ∷
    ("s.addAll(b)", "true") ∷
    ("s", "[1, 2]") ∷
    ("new m LinkedListMultimap", "ok") ∷
    ("m.putAll(k, b)", "true") ∷
    ("m.keys", "[k x 3]") ∷
    ("b.addAll(l)", "true") ∷
    ("b", "[1 x 2, 2 x 4]") ∷
    ("b.removeAll(l)", "true") ∷
    ("b", "[]") ∷
    ("b.retainAll(l)", "false") ∷ [])
unfolding literally
bags_as_arguments = refl

-- a count of 5, where it could be the greatest one
many_of_an_element : Runs (
    ("new b LinkedHashMultiset", "ok") ∷
    ("b.add(x, 5)", "0") ∷
    ("b.add(y)", "true") ∷
    ("b.size", "6") ∷
    ("b", "[x x 5, y]") ∷
    ("b.elementSet.remove(x)", "true") ∷
    ("b", "[y]") ∷
    ("b.add(y, -1)", "IllegalArgumentException") ∷
    ("b.setCount(y, 3)", "1") ∷
    ("b.elementSet.add(z)", "UnsupportedOperationException") ∷ [])
unfolding literally
many_of_an_element = refl
