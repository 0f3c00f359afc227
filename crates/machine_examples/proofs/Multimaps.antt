-- Scripts on multimaps.
use Rattle.std.specs.Prelude.{[], ◌∷◌}
use Rattle.std.proofs.Common.{refl}
use Rattle.machine_examples.specs.Scripts.{Runs, literally}

-- each shape of values
views_of_values : Runs (
    ("new a LinkedListMultimap", "ok") ∷
    ("a.put(k, 2)", "true") ∷
    ("a.put(l, 1)", "true") ∷
    ("a.put(k, 5)", "true") ∷
    ("a.put(k, 2)", "true") ∷
    ("a.get(k)", "[2, 5, 2]") ∷
    ("a.get(k).reverse", "[2, 5, 2]") ∷
    ("a.get(k).indexOf(5)", "1") ∷
    ("a.get(k).set(1, 7)", "5") ∷
    ("a.entries", "[k=2, l=1, k=7, k=2]") ∷
    ("a.get(k).removeAt(0)", "2") ∷
    ("a.entries", "[l=1, k=7, k=2]") ∷
    ("a.get(k).add(0, 9)", "ok") ∷
    ("a.entries", "[l=1, k=9, k=7, k=2]") ∷
    ("a.get(k).add(3, 8)", "ok") ∷
    ("a.entries", "[l=1, k=9, k=7, k=2, k=8]") ∷
    ("a.get(k).add(5, 8)", "IndexOutOfBoundsException") ∷
    ("a.get(k).reverse.add(6)", "true") ∷
    ("a.entries", "[l=1, k=6, k=9, k=7, k=2, k=8]") ∷
    ("a.get(z).reverse.add(1)", "true") ∷
    ("a.get(z).add(0, 2)", "ok") ∷
    ("a.get(z)", "[2, 1]") ∷
    ("a.filterValues(gt(5)).get(k).filter(odd)", "[9, 7]") ∷
    ("a.filterKeys(eq(k)).get(k).get(0)", "6") ∷
    ("a.filterKeys(eq(k)).get(l)", "[]") ∷
    ("a.filterKeys(eq(k)).get(l).add(0, 1)", "IllegalArgumentException") ∷
    ("a.transformValues(neg).get(k).get(0)", "-6") ∷
    ("a.filterValues(any).get(k).add(5)", "true") ∷
    ("a.entries", "[l=1, k=6, k=9, k=7, k=2, k=8, z=2, z=1, k=5]") ∷ [])
unfolding literally
views_of_values = refl

-- a put goes to its group, and a new key last
put_in_grouped_lists : Runs (
    ("new p LinkedArrayListMultimap", "ok") ∷
    ("p.put(a, 1)", "true") ∷
    ("p.put(b, 2)", "true") ∷
    ("p.put(a, 3)", "true") ∷
    ("p.entries", "[a=1, a=3, b=2]") ∷
    ("p.get(a).add(1, 7)", "ok") ∷
    ("p.entries", "[a=1, a=7, a=3, b=2]") ∷
    ("p.get(a).add(0, 6)", "ok") ∷
    ("p.get(b).add(1, 5)", "ok") ∷
    ("p.entries", "[a=6, a=1, a=7, a=3, b=2, b=5]") ∷
    ("p.get(c).add(4)", "true") ∷
    ("p.get(a).clear", "ok") ∷
    ("p.put(a, 1)", "true") ∷
    ("p", "{b=[2, 5], c=[4], a=[1]}") ∷ [])
unfolding literally
put_in_grouped_lists = refl

-- each item is added at the end, which is the front below
add_all_to_a_turned_list_of_a_new_key : Runs (
    ("new l ArrayList", "ok") ∷
    ("l.add(1)", "true") ∷
    ("l.add(2)", "true") ∷
    ("l.add(3)", "true") ∷
    ("new m LinkedListMultimap", "ok") ∷
    ("m.put(b, 0)", "true") ∷
    ("m.get(a).reverse.addAll(l)", "true") ∷
    ("m.get(a).reverse", "[1, 2, 3]") ∷
    ("m.entries", "[b=0, a=3, a=2, a=1]") ∷
    ("m.putAll(b, l)", "true") ∷
    ("m.get(b).retainAll(l)", "true") ∷
    ("m", "{a=[3, 2, 1], b=[1, 2, 3]}") ∷
    ("l.reverse.addAll(l)", "true") ∷
    ("l", "[3, 2, 1, 1, 2, 3]") ∷ [])
unfolding literally
add_all_to_a_turned_list_of_a_new_key = refl

-- a set of values takes a value once
put_and_its_answer : Runs (
    ("new s LinkedHashMultimap", "ok") ∷
    ("s.put(a, 1)", "true") ∷
    ("s.put(a, 1)", "false") ∷
    ("s.get(a).add(1)", "false") ∷
    ("new t ArrayList", "ok") ∷
    ("t.add(1)", "true") ∷
    ("t.add(1)", "true") ∷
    ("t.add(2)", "true") ∷
    ("s.putAll(a, t)", "true") ∷
    ("s.putAll(a, t)", "false") ∷
    ("s.size", "2") ∷
    ("s.containsValue(2)", "true") ∷
    ("s.containsKey(b)", "false") ∷
    ("s.containsEntry(a, 2)", "true") ∷
    ("s.values", "[1, 2]") ∷
    ("s.remove(a, 3)", "false") ∷
    ("s.get(b).addAll(t)", "true") ∷
    ("s", "{a=[1, 2], b=[1, 2]}") ∷
    ("s.filterEntries(and(key(eq(a)), value(gt(1))))", "{a=[2]}") ∷
    ("s.filterEntries(key(eq(a))).put(b, 5)", "IllegalArgumentException") ∷
    ("s.filterEntries(key(eq(a))).put(a, 5)", "true") ∷
    ("s.unmodifiable.put(a, 9)", "UnsupportedOperationException") ∷
    ("s.unmodifiable.get(a)", "[1, 2, 5]") ∷ [])
unfolding literally
put_and_its_answer = refl

-- values in order, windows over them
a_sorted_multimap : Runs (
    ("new t TreeMultimap", "ok") ∷
    ("t.put(b, 3)", "true") ∷
    ("t.put(a, 5)", "true") ∷
    ("t.put(b, 1)", "true") ∷
    ("t.put(b, 2)", "true") ∷
    ("t.keySet.first", "a") ∷
    ("t.keySet.descending", "[b, a]") ∷
    ("t.get(b).within([2..+∞))", "[2, 3]") ∷
    ("t.get(b).within([2..+∞)).add(1)", "IllegalArgumentException") ∷
    ("t.get(b).within([2..+∞)).add(7)", "true") ∷
    ("t.get(b).descending.first", "7") ∷
    ("t.get(b).within((-∞..2]).clear", "ok") ∷
    ("t", "{a=[5], b=[3, 7]}") ∷
    ("t.filterKeys(eq(b)).keySet", "[b]") ∷
    ("t.unmodifiable.keySet.last", "b") ∷
    ("t.keySet.within([b..b]).remove(b)", "true") ∷
    ("t", "{a=[5]}") ∷ [])
unfolding literally
a_sorted_multimap = refl
