-- Scripts on groups.
use Rattle.std.specs.Prelude.{[], ◌∷◌}
use Rattle.std.proofs.Common.{refl}
use Rattle.machine_examples.specs.Scripts.{Runs, literally}

-- a filter hides pairs, and a group stands where its first hidden pair is
hidden_in_groups : Runs (
    ("new m LinkedListMultimap", "ok") ∷
    ("m.put(a, 1)", "true") ∷
    ("m.put(b, 2)", "true") ∷
    ("m.put(a, 4)", "true") ∷
    ("m.put(c, 3)", "true") ∷
    ("let f = m.filterValues(even)", "ok") ∷
    ("f", "{a=[4], b=[2]}") ∷
    ("f.keySet", "[a, b]") ∷
    ("f.asMap", "{a=[4], b=[2]}") ∷
    ("walk f.keys", "?syntax") ∷
    ("f.keys", "[a, b]") ∷
    ("f.keySet.contains(c)", "false") ∷
    ("f.keySet.remove(a)", "true") ∷
    ("m", "{a=[1], b=[2], c=[3]}") ∷
    ("f.size", "1") ∷ [])
unfolding literally
hidden_in_groups = refl

-- only the pairs shown go
removal_of_a_group_seen_partly : Runs (
    ("new m LinkedHashMultimap", "ok") ∷
    ("m.put(a, 1)", "true") ∷
    ("m.put(a, 2)", "true") ∷
    ("m.put(b, 3)", "true") ∷
    ("m.put(a, 3)", "true") ∷
    ("let g = m.filterValues(odd).asMap", "ok") ∷
    ("g", "{a=[1, 3], b=[3]}") ∷
    ("g.remove(a)", "[1, 3]") ∷
    ("m", "{a=[2], b=[3]}") ∷
    ("g.remove(a)", "null") ∷
    ("g.remove(z)", "null") ∷
    ("m.keySet", "[a, b]") ∷ [])
unfolding literally
removal_of_a_group_seen_partly = refl

-- groups whose keys pass, and their values as they stand
filter_keys_of_groups : Runs (
    ("new m LinkedHashMultimap", "ok") ∷
    ("m.put(apple, 1)", "true") ∷
    ("m.put(pear, 2)", "true") ∷
    ("m.put(ant, 3)", "true") ∷
    ("let g = m.asMap.filterKeys(starts(a))", "ok") ∷
    ("g", "{apple=[1], ant=[3]}") ∷
    ("g.keySet", "[apple, ant]") ∷
    ("g.entrySet", "[apple=[1], ant=[3]]") ∷
    ("g.get(ant)", "[3]") ∷
    ("g.get(pear)", "null") ∷
    ("g.get(ant).add(5)", "true") ∷
    ("g.containsKey(pear)", "false") ∷
    ("g.remove(pear)", "null") ∷
    ("g.keySet.remove(ant)", "true") ∷
    ("g.size", "1") ∷
    ("g.clear", "ok") ∷
    ("m", "{pear=[2]}") ∷
    ("g.isEmpty", "true") ∷ [])
unfolding literally
filter_keys_of_groups = refl

-- clear of the rows of groups
set_of_groups : Runs (
    ("new t LinkedTable", "ok") ∷
    ("t.put(r, c, 1)", "null") ∷
    ("t.put(s, c, 2)", "null") ∷
    ("t.put(r, d, 3)", "null") ∷
    ("let e = t.rowMap.entrySet", "ok") ∷
    ("e", "[r={c=1, d=3}, s={c=2}]") ∷
    ("e.size", "2") ∷
    ("t.rowMap.filterKeys(eq(r)).entrySet", "[r={c=1, d=3}]") ∷
    ("t.rowMap.filterKeys(eq(r)).entrySet.clear", "ok") ∷
    ("e", "[s={c=2}]") ∷
    ("t.columnMap.entrySet.isEmpty", "false") ∷ [])
unfolding literally
set_of_groups = refl

-- the view of a group counts the steps of the groups
get_of_groups_keeps_its_path : Runs (
    ("new m LinkedListMultimap", "ok") ∷
    ("m.put(a, 1)", "true") ∷
    ("let g = m.asMap.filterKeys(any).filterKeys(any).filterKeys(any).filterKeys(any).filterKeys(any).filterKeys(any).filterKeys(any).filterKeys(any)", "ok") ∷
    ("let h = g.filterKeys(any).filterKeys(any).filterKeys(any).filterKeys(any).filterKeys(any).filterKeys(any).filterKeys(any).filterKeys(any)", "ok") ∷
    ("let i = h.filterKeys(any).filterKeys(any).filterKeys(any).filterKeys(any).filterKeys(any).filterKeys(any).filterKeys(any).filterKeys(any)", "ok") ∷
    ("let j = i.filterKeys(any).filterKeys(any).filterKeys(any).filterKeys(any).filterKeys(any)", "ok") ∷
    ("j.get(a)", "[1]") ∷
    ("j.get(a).reverse", "[1]") ∷
    ("let k = j.get(a)", "ok") ∷
    ("k.reverse", "[1]") ∷
    ("k.reverse.reverse", "?limit") ∷
    ("j.filterKeys(any).get(b)", "null") ∷
    ("j.filterKeys(any).get(a)", "[1]") ∷
    ("j.filterKeys(any).filterKeys(any).get(a)", "?limit") ∷
    ("j.filterKeys(any).filterKeys(any).filterKeys(any)", "?limit") ∷
    ("k.add(2)", "true") ∷
    ("m", "{a=[1, 2]}") ∷ [])
unfolding literally
get_of_groups_keeps_its_path = refl
