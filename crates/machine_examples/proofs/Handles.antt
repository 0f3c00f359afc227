-- The limit of 65,536 handles.
use Rattle.std.specs.Prelude.{[], ◌∷◌}
use Rattle.std.proofs.Common.{refl}
use Rattle.machine_examples.specs.Scripts.{RunsFrom, literally, with_handles}

-- no handle is left
full : RunsFrom (with_handles 65536) (
    ("new a ArrayList", "?limit") ∷
    ("a", "?name") ∷ [])
unfolding literally
full = refl

-- a base takes one handle, a name as many as it has steps and at least one, a copy one, and an iterator one more than its steps; a
-- refusal of a step comes first
nearly_full : RunsFrom (with_handles 65532) (
    ("new a ArrayList", "ok") ∷
    ("let b = a.reverse.reverse", "ok") ∷
    ("it i = a.reverse", "?limit") ∷
    ("let c = a.reverse.unmodifiable", "?limit") ∷
    ("it i = a", "ok") ∷
    ("let c = a.immutable", "?limit") ∷
    ("let c = a", "?limit") ∷
    ("let c = a.sub(0, 1)", "IndexOutOfBoundsException") ∷
    ("a.add(x)", "true") ∷
    ("b.reverse.reverse", "[x]") ∷
    ("i.next", "ConcurrentModificationException") ∷ [])
unfolding literally
nearly_full = refl

-- a group that is not there takes no handle
a_group_that_is_not_there : RunsFrom (with_handles 65535) (
    ("new m LinkedHashMultimap", "ok") ∷
    ("let g = m.asMap.get(a)", "null") ∷
    ("g", "?name") ∷
    ("m.put(a, 1)", "true") ∷
    ("let g = m.asMap.get(a)", "?limit") ∷
    ("m.asMap.get(a)", "[1]") ∷ [])
unfolding literally
a_group_that_is_not_there = refl
