-- Scripts on sets.
use Rattle.std.specs.Prelude.{[], ◌∷◌}
use Rattle.std.proofs.Common.{refl}
use Rattle.machine_examples.specs.Scripts.{Runs, literally}

-- the second shows it in its place
union_where_the_first_hides_an_item : Runs (
    ("new s LinkedHashSet", "ok") ∷
    ("s.add(1)", "true") ∷
    ("s.add(2)", "true") ∷
    ("s.add(3)", "true") ∷
    ("new t LinkedHashSet", "ok") ∷
    ("t.add(3)", "true") ∷
    ("t.add(1)", "true") ∷
    ("t.add(5)", "true") ∷
    ("let f = s.filter(lt(3))", "ok") ∷
    ("f.union(t)", "[1, 2, 3, 5]") ∷
    ("f.union(t.filter(gt(2)))", "?syntax") ∷
    ("f.symmetricDifference(t)", "[2, 3, 5]") ∷
    ("f.intersection(t)", "[1]") ∷
    ("f.difference(t)", "[2]") ∷
    ("t.union(f)", "[3, 1, 5, 2]") ∷
    ("t.symmetricDifference(f)", "[3, 5, 2]") ∷
    ("f.union(t).filter(odd)", "[1, 3, 5]") ∷
    ("f.union(t).add(9)", "UnsupportedOperationException") ∷
    ("f.union(t).remove(1)", "UnsupportedOperationException") ∷
    ("f.union(t).asMap(neg)", "{1=-1, 2=-2, 3=-3, 5=-5}") ∷
    ("f.union(t).asMap(neg).forMap.keySet", "[1, 2, 3, 5]") ∷
    ("s.union(t).equals(t.union(s))", "?syntax") ∷
    ("s.union(s).size", "3") ∷
    ("s.difference(s).isEmpty", "true") ∷
    ("s.symmetricDifference(s.filter(even))", "?syntax") ∷ [])
unfolding literally
union_where_the_first_hides_an_item = refl

-- sets of a multimap under one another
unions_of_values : Runs (
    ("new m LinkedHashMultimap", "ok") ∷
    ("m.put(a, 1)", "true") ∷
    ("m.put(b, 2)", "true") ∷
    ("m.put(a, 3)", "true") ∷
    ("let u = m.get(a).union(m)", "?call") ∷
    ("let v = m.get(a)", "ok") ∷
    ("let w = m.get(b)", "ok") ∷
    ("v.union(w)", "[1, 3, 2]") ∷
    ("w.union(v).intersection(v)", "[1, 3]") ∷
    ("m.keySet.union(v)", "[a, b, 1, 3]") ∷
    ("m.filterValues(odd).keySet.difference(w)", "[a]") ∷
    ("m.removeAll(a)", "[1, 3]") ∷
    ("v.union(w)", "[2]") ∷
    ("v.add(2)", "true") ∷
    ("v.symmetricDifference(w)", "[]") ∷ [])
unfolding literally
unions_of_values = refl

-- at most 64 bases
weight : Runs (
    ("new s LinkedHashSet", "ok") ∷
    ("s.add(1)", "true") ∷
    ("let a = s.union(s)", "ok") ∷
    ("let b = a.union(a)", "ok") ∷
    ("let c = b.union(b)", "ok") ∷
    ("let d = c.union(c)", "ok") ∷
    ("let e = d.union(d)", "ok") ∷
    ("let f = e.union(e)", "ok") ∷
    ("f.union(s)", "?limit") ∷
    ("f.intersection(s)", "?limit") ∷
    ("f.filter(any)", "[1]") ∷
    ("e.union(d)", "[1]") ∷ [])
unfolding literally
weight = refl
