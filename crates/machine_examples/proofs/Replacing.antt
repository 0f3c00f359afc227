-- Scripts on replacing.
use Rattle.std.specs.Prelude.{[], ◌∷◌}
use Rattle.std.proofs.Common.{refl}
use Rattle.machine_examples.specs.Scripts.{Runs, literally}

-- in place, in the group, last with the key in its place, in order
replace_on_each_base : Runs (
    ("new v ArrayList", "ok") ∷
    ("v.add(9)", "true") ∷
    ("v.add(8)", "true") ∷
    ("v.add(9)", "true") ∷
    ("new a LinkedListMultimap", "ok") ∷
    ("a.put(k, 1)", "true") ∷
    ("a.put(l, 2)", "true") ∷
    ("a.put(k, 3)", "true") ∷
    ("a.replaceValues(k, v)", "[1, 3]") ∷
    ("a.entries", "[k=9, l=2, k=8, k=9]") ∷
    ("new b LinkedArrayListMultimap", "ok") ∷
    ("b.put(k, 1)", "true") ∷
    ("b.put(l, 2)", "true") ∷
    ("b.put(k, 3)", "true") ∷
    ("b.replaceValues(k, v)", "[1, 3]") ∷
    ("b.entries", "[k=9, k=8, k=9, l=2]") ∷
    ("b.replaceValues(z, v)", "[]") ∷
    ("b.entries", "[k=9, k=8, k=9, l=2, z=9, z=8, z=9]") ∷
    ("new c LinkedHashMultimap", "ok") ∷
    ("c.put(k, 1)", "true") ∷
    ("c.put(l, 2)", "true") ∷
    ("c.put(k, 3)", "true") ∷
    ("c.replaceValues(k, v)", "[1, 3]") ∷
    ("c.entries", "[l=2, k=9, k=8]") ∷
    ("c.keySet", "[k, l]") ∷
    ("new d TreeMultimap", "ok") ∷
    ("d.put(k, 1)", "true") ∷
    ("d.put(l, 2)", "true") ∷
    ("d.put(k, 3)", "true") ∷
    ("d.replaceValues(k, v)", "[1, 3]") ∷
    ("d.entries", "[k=8, k=9, l=2]") ∷ [])
unfolding literally
replace_on_each_base = refl

-- the key goes, and comes last again
replace_by_nothing : Runs (
    ("new e LinkedHashSet", "ok") ∷
    ("new c LinkedHashMultimap", "ok") ∷
    ("c.put(k, 1)", "true") ∷
    ("c.put(l, 2)", "true") ∷
    ("c.replaceValues(k, e)", "[1]") ∷
    ("c", "{l=[2]}") ∷
    ("c.put(k, 5)", "true") ∷
    ("c.keySet", "[l, k]") ∷
    ("c.replaceValues(z, e)", "[]") ∷
    ("new a LinkedListMultimap", "ok") ∷
    ("a.put(k, 1)", "true") ∷
    ("a.put(l, 2)", "true") ∷
    ("a.put(k, 3)", "true") ∷
    ("a.replaceValues(k, e)", "[1, 3]") ∷
    ("a", "{l=[2]}") ∷ [])
unfolding literally
replace_by_nothing = refl

-- what is shown goes, and each value is put
replace_through_a_view : Runs (
    ("new v ArrayList", "ok") ∷
    ("v.add(2)", "true") ∷
    ("v.add(4)", "true") ∷
    ("new c LinkedHashMultimap", "ok") ∷
    ("c.put(k, 1)", "true") ∷
    ("c.put(k, 6)", "true") ∷
    ("c.put(l, 2)", "true") ∷
    ("c.filterValues(even).replaceValues(k, v)", "[6]") ∷
    ("c.entries", "[k=1, l=2, k=2, k=4]") ∷
    ("c.keySet", "[k, l]") ∷
    ("c.filterKeys(eq(k)).replaceValues(k, v)", "[1, 2, 4]") ∷
    ("c.keySet", "[l, k]") ∷
    ("c.entries", "[l=2, k=2, k=4]") ∷
    ("c.filterKeys(eq(k)).replaceValues(l, v)", "IllegalArgumentException") ∷
    ("c.filterValues(odd).replaceValues(k, v)", "IllegalArgumentException") ∷
    ("c.unmodifiable.replaceValues(k, v)", "UnsupportedOperationException") ∷
    ("new p LinkedArrayListMultimap", "ok") ∷
    ("p.put(k, 1)", "true") ∷
    ("p.put(k, 6)", "true") ∷
    ("p.put(l, 2)", "true") ∷
    ("p.filterValues(even).replaceValues(k, v)", "[6]") ∷
    ("p.entries", "[k=1, k=2, k=4, l=2]") ∷
    ("p.filterKeys(any).replaceValues(k, v)", "[1, 2, 4]") ∷
    ("p.entries", "[l=2, k=2, k=4]") ∷ [])
unfolding literally
replace_through_a_view = refl
