-- Scripts on builders.
use Rattle.std.specs.Prelude.{[], ◌∷◌}
use Rattle.std.proofs.Common.{refl}
use Rattle.machine_examples.specs.Scripts.{Runs, literally}

built_range_sets_are_joined : Runs (
    ("new q ImmutableRangeSetBuilder", "ok") ∷
    ("q.add([5..7])", "ok") ∷
    ("q.add([1..3])", "ok") ∷
    ("q.add((3..4])", "ok") ∷
    ("let r = q.build", "ok") ∷
    ("r", "[[1..4], [5..7]]") ∷
    ("r.add([1..2])", "UnsupportedOperationException") ∷
    ("r.complement.remove([1..2])", "UnsupportedOperationException") ∷
    ("r.complement", "[(-∞..1), (4..5), (7..+∞)]") ∷ [])
unfolding literally
built_range_sets_are_joined = refl

built_range_maps_stay_apart : Runs (
    ("new q ImmutableRangeMapBuilder", "ok") ∷
    ("q.put([3..5), a)", "ok") ∷
    ("q.put([1..3), a)", "ok") ∷
    ("q.put([2..2), b)", "IllegalArgumentException") ∷
    ("let m = q.build", "ok") ∷
    ("m", "{[1..3)=a, [3..5)=a}") ∷
    ("m.put([1..2], b)", "UnsupportedOperationException") ∷
    ("q.put([4..4], b)", "ok") ∷
    ("let n = q.build", "IllegalArgumentException") ∷ [])
unfolding literally
built_range_maps_stay_apart = refl

lists_and_sets : Runs (
    ("new l ImmutableListBuilder", "ok") ∷
    ("l.add(a)", "ok") ∷
    ("l.add(b)", "ok") ∷
    ("l.add(a)", "ok") ∷
    ("let x = l.build", "ok") ∷
    ("x", "[a, b, a]") ∷
    ("x.add(c)", "UnsupportedOperationException") ∷
    ("new s ImmutableSetBuilder", "ok") ∷
    ("s.add(a)", "ok") ∷
    ("s.add(b)", "ok") ∷
    ("s.add(a)", "ok") ∷
    ("let y = s.build", "ok") ∷
    ("y", "[a, b]") ∷
    ("y.contains(b)", "true") ∷
    ("y.remove(a)", "UnsupportedOperationException") ∷ [])
unfolding literally
lists_and_sets = refl

a_builder_builds_again : Runs (
    ("new k ImmutableMapBuilder", "ok") ∷
    ("k.put(b, x)", "ok") ∷
    ("k.put(a, y)", "ok") ∷
    ("let m = k.buildOrThrow", "ok") ∷
    ("m", "{b=x, a=y}") ∷
    ("k.put(b, z)", "ok") ∷
    ("let n = k.buildOrThrow", "IllegalArgumentException") ∷
    ("let n = k.buildKeepingLast", "ok") ∷
    ("n", "{a=y, b=z}") ∷
    ("m", "{b=x, a=y}") ∷ [])
unfolding literally
a_builder_builds_again = refl

frozen_copies : Runs (
    ("new r TreeRangeSet", "ok") ∷
    ("r.add([1..3])", "ok") ∷
    ("let c = r.complement.subRangeSet([0..9]).immutable", "ok") ∷
    ("r.clear", "ok") ∷
    ("c", "[[0..1), (3..9]]") ∷
    ("c.remove([5..5])", "UnsupportedOperationException") ∷
    ("c.complement", "[(-∞..0), [1..3], (9..+∞)]") ∷
    ("new m TreeRangeMap", "ok") ∷
    ("m.put([1..5], a)", "ok") ∷
    ("let f = m.subRangeMap([2..3]).immutable", "ok") ∷
    ("m.clear", "ok") ∷
    ("f", "{[2..3]=a}") ∷
    ("f.remove([2..2])", "UnsupportedOperationException") ∷
    ("f.get(2)", "a") ∷ [])
unfolding literally
frozen_copies = refl

copies_of_lists_sets_and_maps : Runs (
    ("new l ArrayList", "ok") ∷
    ("l.add(a)", "true") ∷
    ("l.add(b)", "true") ∷
    ("let c = l.reverse.immutable", "ok") ∷
    ("let d = l.filter(any).immutable", "ok") ∷
    ("l.add(q)", "true") ∷
    ("c", "[b, a]") ∷
    ("d", "[a, b]") ∷
    ("c.add(x)", "UnsupportedOperationException") ∷
    ("d.reverse", "[b, a]") ∷
    ("new m TreeMap", "ok") ∷
    ("m.put(b, x)", "null") ∷
    ("m.put(a, y)", "null") ∷
    ("let e = m.immutable", "ok") ∷
    ("let k = m.keySet.immutable", "ok") ∷
    ("let v = m.values.immutable", "ok") ∷
    ("m.put(a, z)", "y") ∷
    ("e", "{a=y, b=x}") ∷
    ("k", "[a, b]") ∷
    ("v", "[y, x]") ∷
    ("e.put(c, x)", "UnsupportedOperationException") ∷
    ("k.remove(a)", "UnsupportedOperationException") ∷
    ("v.reverse", "[x, y]") ∷ [])
unfolding literally
copies_of_lists_sets_and_maps = refl
