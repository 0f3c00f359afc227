-- Scripts on bimaps.
use Rattle.std.specs.Prelude.{[], ◌∷◌}
use Rattle.std.proofs.Common.{refl}
use Rattle.machine_examples.specs.Scripts.{Runs, literally}

-- refused, or forced
a_bound_value : Runs (
    ("new h HashBiMap", "ok") ∷
    ("h.put(a, 1)", "null") ∷
    ("h.put(b, 2)", "null") ∷
    ("h.put(a, 2)", "IllegalArgumentException") ∷
    ("h.put(a, 1)", "1") ∷
    ("h.put(a, 3)", "1") ∷
    ("h", "{a=3, b=2}") ∷
    ("h.inverse.put(2, c)", "b") ∷
    ("h", "{a=3, c=2}") ∷
    ("h.inverse.put(4, c)", "IllegalArgumentException") ∷
    ("h.forcePut(d, 2)", "null") ∷
    ("h", "{a=3, d=2}") ∷
    ("h.forcePut(d, 3)", "2") ∷
    ("h", "{d=3}") ∷
    ("h.inverse.forcePut(3, e)", "d") ∷
    ("h", "{e=3}") ∷
    ("h.inverse.inverse.put(e, 9)", "3") ∷
    ("h.inverse", "{9=e}") ∷
    ("h.inverse.remove(9)", "e") ∷
    ("h.size", "0") ∷ [])
unfolding literally
a_bound_value = refl

-- values are a set, filters work through the inverse
views_of_a_bimap : Runs (
    ("new h HashBiMap", "ok") ∷
    ("h.put(a, 1)", "null") ∷
    ("h.put(b, 2)", "null") ∷
    ("h.put(c, 3)", "null") ∷
    ("h.values", "[1, 2, 3]") ∷
    ("h.values.contains(2)", "true") ∷
    ("h.values.remove(2)", "true") ∷
    ("h.keySet", "[a, c]") ∷
    ("let f = h.inverse.filterKeys(odd)", "ok") ∷
    ("f", "{1=a, 3=c}") ∷
    ("f.put(2, x)", "IllegalArgumentException") ∷
    ("f.put(5, x)", "null") ∷
    ("f.put(1, y)", "a") ∷
    ("h", "{y=1, c=3, x=5}") ∷
    ("f.inverse.filterValues(gt(1))", "{c=3, x=5}") ∷
    ("f.inverse.filterValues(gt(1)).put(c, 1)", "IllegalArgumentException") ∷
    ("h.filterEntries(and(key(eq(c)), value(odd)))", "{c=3}") ∷
    ("h.transformValues(neg)", "{y=-1, c=-3, x=-5}") ∷
    ("h.forMap.get(c)", "[3]") ∷
    ("h.inverse.entrySet", "[1=y, 3=c, 5=x]") ∷
    ("h.inverse.entrySet.remove(3, c)", "true") ∷
    ("h", "{y=1, x=5}") ∷
    ("h.unmodifiable.forcePut(a, 1)", "UnsupportedOperationException") ∷
    ("h.filterValues(odd).forcePut(z, 5)", "null") ∷
    ("h.filterKeys(starts(z)).forcePut(q, 1)", "IllegalArgumentException") ∷
    ("h.filterKeys(starts(z)).put(y, 7)", "IllegalArgumentException") ∷
    ("h", "{y=1, z=5}") ∷ [])
unfolding literally
views_of_a_bimap = refl

-- the hidden entry of the key is replaced in its place
a_put_that_hides : Runs (
    ("new h HashBiMap", "ok") ∷
    ("h.put(a, 1)", "null") ∷
    ("h.put(b, 2)", "null") ∷
    ("let f = h.filterValues(even)", "ok") ∷
    ("f.put(a, 4)", "null") ∷
    ("h", "{a=4, b=2}") ∷
    ("f.inverse.put(4, b)", "IllegalArgumentException") ∷
    ("f.forcePut(b, 4)", "2") ∷
    ("h", "{b=4}") ∷
    ("h.equals(f)", "true") ∷
    ("new m LinkedHashMap", "ok") ∷
    ("m.putAll(h)", "ok") ∷
    ("m.equals(h)", "true") ∷
    ("h.containsValue(4)", "true") ∷
    ("h.inverse.containsKey(4)", "true") ∷
    ("h.inverse.get(4)", "b") ∷ [])
unfolding literally
a_put_that_hides = refl
