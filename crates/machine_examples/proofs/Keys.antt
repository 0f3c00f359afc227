-- Scripts on keys.
use Rattle.std.specs.Prelude.{[], ◌∷◌}
use Rattle.std.proofs.Common.{refl}
use Rattle.machine_examples.specs.Scripts.{Runs, literally}

-- pair order on a flat list multimap, key order on the others
keys_of_each_multimap : Runs (
    ("new a LinkedListMultimap", "ok") ∷
    ("a.put(x, 1)", "true") ∷
    ("a.put(y, 2)", "true") ∷
    ("a.put(x, 3)", "true") ∷
    ("walk a.keys", "?syntax") ∷
    ("new b LinkedArrayListMultimap", "ok") ∷
    ("b.put(x, 1)", "true") ∷
    ("b.put(y, 2)", "true") ∷
    ("b.put(x, 3)", "true") ∷
    ("walk b.keys", "?syntax") ∷
    ("new c LinkedHashMultimap", "ok") ∷
    ("c.put(x, 1)", "true") ∷
    ("c.put(y, 2)", "true") ∷
    ("c.put(x, 3)", "true") ∷
    ("walk c.keys", "?syntax") ∷
    ("c.remove(x, 1)", "true") ∷
    ("walk c.keys", "?syntax") ∷
    ("walk c.entries", "?syntax") ∷
    ("new d TreeMultimap", "ok") ∷
    ("d.put(y, 2)", "true") ∷
    ("d.put(x, 3)", "true") ∷
    ("d.put(x, 1)", "true") ∷
    ("walk d.keys", "?syntax") ∷
    ("walk d.filterValues(odd).keys", "?syntax") ∷
    ("c.keys", "[x, y]") ∷
    ("c.keys.remove(y)", "true") ∷
    ("c", "{x=[3]}") ∷ [])
unfolding literally
keys_of_each_multimap = refl

-- hidden pairs keep their places
keys_through_filters : Runs (
    ("new c LinkedHashMultimap", "ok") ∷
    ("c.put(x, 1)", "true") ∷
    ("c.put(y, 2)", "true") ∷
    ("c.put(x, 4)", "true") ∷
    ("c.put(z, 6)", "true") ∷
    ("c.remove(x, 1)", "true") ∷
    ("walk c.entries", "?syntax") ∷
    ("walk c.filterValues(gt(2)).keys", "?syntax") ∷
    ("c.filterValues(gt(2)).keys", "[x, z]") ∷
    ("c.filterValues(gt(2)).keySet", "[x, z]") ∷
    ("c.filterKeys(not(eq(x))).keySet", "[y, z]") ∷
    ("c.transformValues(neg).keySet", "[x, y, z]") ∷
    ("walk c.transformValues(neg).keys", "?syntax") ∷
    ("c.filterValues(lt(0)).keySet", "[]") ∷
    ("c.keys.count(x)", "1") ∷
    ("c.keys.add(x, 1)", "UnsupportedOperationException") ∷
    ("c.keys.setCount(y, 9)", "UnsupportedOperationException") ∷
    ("c.keys.setCount(y, 1)", "1") ∷
    ("c.keys.setCount(x, 0)", "1") ∷
    ("c", "{y=[2], z=[6]}") ∷ [])
unfolding literally
keys_through_filters = refl

-- by first pairs, whatever the base keeps
key_order_after_for_map : Runs (
    ("new c LinkedHashMultimap", "ok") ∷
    ("c.put(x, 1)", "true") ∷
    ("c.put(y, 1)", "true") ∷
    ("c.put(x, 2)", "true") ∷
    ("c.remove(x, 1)", "true") ∷
    ("c.keySet", "[x, y]") ∷
    ("let s = c.get(x).asMap(times(2)).forMap", "ok") ∷
    ("s", "{2=[4]}") ∷
    ("s.keySet", "[2]") ∷
    ("walk s.keys", "?syntax") ∷
    ("s.keySet.remove(2)", "true") ∷
    ("c", "{y=[1]}") ∷ [])
unfolding literally
key_order_after_for_map = refl

-- hidden entries stay hidden, and adding is refused
for_map_over_filtered_maps : Runs (
    ("new m LinkedHashMap", "ok") ∷
    ("m.put(b, 2)", "null") ∷
    ("m.put(a, 1)", "null") ∷
    ("m.put(c, 4)", "null") ∷
    ("let f = m.filterValues(even).forMap", "ok") ∷
    ("f", "{b=[2], c=[4]}") ∷
    ("f.get(b)", "[2]") ∷
    ("f.get(a)", "[]") ∷
    ("f.get(b).add(2)", "UnsupportedOperationException") ∷
    ("f.put(d, 6)", "UnsupportedOperationException") ∷
    ("f.removeAll(b)", "[2]") ∷
    ("m", "{a=1, c=4}") ∷
    ("f.keySet.remove(a)", "false") ∷
    ("f.asMap", "{c=[4]}") ∷
    ("f.values.remove(4)", "true") ∷
    ("m", "{a=1}") ∷
    ("f.entries", "[]") ∷
    ("f.containsEntry(a, 1)", "false") ∷
    ("new t TreeMap", "ok") ∷
    ("t.put(2, x)", "null") ∷
    ("t.put(1, y)", "null") ∷
    ("t.forMap.keySet", "[1, 2]") ∷
    ("t.forMap.transformValues(const(0))", "{1=[0], 2=[0]}") ∷
    ("walk t.forMap.keys", "?syntax") ∷ [])
unfolding literally
for_map_over_filtered_maps = refl
