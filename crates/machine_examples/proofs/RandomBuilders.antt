-- Random scripts on builders and what they make.
use Rattle.std.specs.Prelude.{[], ◌∷◌}
use Rattle.std.proofs.Common.{refl}
use Rattle.machine_examples.specs.Scripts.{Runs, literally}

script_1 : Runs (
    ("new s ImmutableMultisetBuilder", "ok") ∷
    ("s.put(a, a)", "?call") ∷
    ("let o = s.build", "ok") ∷
    ("o.size", "0") ∷
    ("new k2 ImmutableMapBuilder", "ok") ∷
    ("o.add(2)", "UnsupportedOperationException") ∷
    ("k2.put(3, ab)", "ok") ∷
    ("k2.put(ab, 2)", "ok") ∷
    ("o.put(3, a, 1)", "?call") ∷
    ("let s = k2.buildKeepingLast", "ok") ∷
    ("let a = s.immutable", "ok") ∷
    ("a.put(3, b)", "UnsupportedOperationException") ∷
    ("k2.put(1, 0)", "ok") ∷
    ("let w2 = k2.buildOrThrow", "ok") ∷
    ("new x1 ImmutableMultisetBuilder", "ok") ∷
    ("o.size", "0") ∷
    ("k2.put(0, 2)", "ok") ∷
    ("w2.put(ab, 2)", "UnsupportedOperationException") ∷
    ("s.put(ab, ab)", "UnsupportedOperationException") ∷
    ("it j2 = a.keySet", "ok") ∷
    ("let d = a.immutable", "ok") ∷
    ("x1.add(1)", "ok") ∷
    ("d.put(0, 0)", "UnsupportedOperationException") ∷
    ("j2.hasNext", "true") ∷
    ("o.add(0)", "UnsupportedOperationException") ∷
    ("it y1 = w2.entrySet", "ok") ∷
    ("d.put(ab, 1)", "UnsupportedOperationException") ∷
    ("a.put(0, 3)", "UnsupportedOperationException") ∷
    ("o.add(a)", "UnsupportedOperationException") ∷
    ("let y = a.buildOrThrow", "?call") ∷
    ("a.asRanges", "?call") ∷
    ("s.size", "2") ∷
    ("x1.addCopies(ab, 1)", "ok") ∷
    ("w2.put(ab, ab)", "UnsupportedOperationException") ∷
    ("x1.add(b)", "ok") ∷
    ("j2.next", "3") ∷
    ("o.add(1)", "UnsupportedOperationException") ∷
    ("w2.put(ab, ab)", "UnsupportedOperationException") ∷
    ("d.put(2, 1)", "UnsupportedOperationException") ∷
    ("o.add(2)", "UnsupportedOperationException") ∷
    ("let c = x1.build", "ok") ∷
    ("new k1 ImmutableRangeSetBuilder", "ok") ∷
    ("let x = k2.buildKeepingLast", "ok") ∷
    ("j2.remove", "UnsupportedOperationException") ∷
    ("let o = x1.build", "ok") ∷
    ("y1.next", "3=ab") ∷
    ("a.put(0, b)", "UnsupportedOperationException") ∷
    ("new e ImmutableSetBuilder", "ok") ∷
    ("x.put(1, 3)", "UnsupportedOperationException") ∷
    ("k1.add([3..5])", "ok") ∷
    ("j2.remove", "UnsupportedOperationException") ∷
    ("d.put(ab, a)", "UnsupportedOperationException") ∷
    ("w2", "{3=ab, ab=2, 1=0}") ∷
    ("let i2 = e.build", "ok") ∷
    ("w2", "{3=ab, ab=2, 1=0}") ∷
    ("x.put(a, 3)", "UnsupportedOperationException") ∷
    ("let y1 = e.build", "ok") ∷
    ("s.keySet", "[3, ab]") ∷
    ("x.put(a, a)", "UnsupportedOperationException") ∷
    ("let g = x1.build", "ok") ∷
    ("j2.next", "ab") ∷
    ("o.unmodifiable", "[1, ab, b]") ∷
    ("let s = g.immutable", "ok") ∷
    ("let b1 = k2.buildKeepingLast", "ok") ∷
    ("j2.remove", "UnsupportedOperationException") ∷
    ("c.add(3)", "UnsupportedOperationException") ∷
    ("k1.add(2)", "?call") ∷
    ("i2.add(0)", "UnsupportedOperationException") ∷
    ("e.add(2)", "ok") ∷
    ("d.put(2, 1, 2)", "?call") ∷
    ("o.add(ab)", "UnsupportedOperationException") ∷
    ("w2.put(3, 0)", "UnsupportedOperationException") ∷
    ("y1.add(a)", "UnsupportedOperationException") ∷
    ("y1.add(a)", "UnsupportedOperationException") ∷
    ("x1.addCopies(a, 0)", "ok") ∷
    ("w2.put(3, 1)", "UnsupportedOperationException") ∷
    ("x.put(1, 3)", "UnsupportedOperationException") ∷
    ("new w ImmutableMultisetBuilder", "ok") ∷
    ("g.unmodifiable", "[1, ab, b]") ∷
    ("j2.next", "NoSuchElementException") ∷ [])
unfolding literally
script_1 = refl

script_2 : Runs (
    ("new c ImmutableListBuilder", "ok") ∷
    ("new t2 ImmutableListMultimapBuilder", "ok") ∷
    ("c.asRanges", "?call") ∷
    ("let d = c.buildOrThrow", "?call") ∷
    ("t2.put(3, b)", "ok") ∷
    ("c.add(2)", "ok") ∷
    ("new d ImmutableRangeSetBuilder", "ok") ∷
    ("t2.addCopies(0, 1)", "?call") ∷
    ("t2.put(b, 2)", "ok") ∷
    ("d.add((1..6])", "ok") ∷
    ("t2.put(2, a)", "ok") ∷
    ("let n2 = c.buildKeepingLast", "?call") ∷
    ("d.add((-∞..+∞))", "ok") ∷
    ("d.add((-∞..6))", "ok") ∷
    ("new p2 ImmutableSetMultimapBuilder", "ok") ∷
    ("new d1 ImmutableListMultimapBuilder", "ok") ∷
    ("new p1 ImmutableListMultimapBuilder", "ok") ∷
    ("let e1 = p1.build", "ok") ∷
    ("c.add(a)", "ok") ∷
    ("e1.put(ab, 2)", "UnsupportedOperationException") ∷
    ("e1.keySet", "[]") ∷
    ("e1.values", "[]") ∷
    ("d1.put(a, b)", "ok") ∷
    ("p1.addCopies(a, 0)", "?call") ∷
    ("new t2 ImmutableListBuilder", "ok") ∷
    ("p1.put(2, a)", "ok") ∷
    ("new t2 ImmutableMultisetBuilder", "ok") ∷
    ("c.add(a)", "ok") ∷
    ("e1", "{}") ∷
    ("new v2 ImmutableRangeSetBuilder", "ok") ∷
    ("new c1 ImmutableListMultimapBuilder", "ok") ∷
    ("v2.put([1..3), 2)", "?call") ∷
    ("e1.put(3, 3)", "UnsupportedOperationException") ∷
    ("new h1 ImmutableRangeSetBuilder", "ok") ∷
    ("p1.put(b, 2)", "ok") ∷
    ("e1.put(b, a)", "UnsupportedOperationException") ∷
    ("new b ImmutableRangeSetBuilder", "ok") ∷
    ("t2.add(3)", "ok") ∷
    ("d.add((-∞..6))", "ok") ∷
    ("e1.put(ab, 1)", "UnsupportedOperationException") ∷
    ("d.add((4..6])", "ok") ∷
    ("t2.add(0)", "ok") ∷
    ("let k = e1.immutable", "ok") ∷
    ("d1.put(a, ab)", "ok") ∷
    ("v2.add([3..4])", "ok") ∷
    ("d1.put(ab, 1)", "ok") ∷
    ("new y1 ImmutableListBuilder", "ok") ∷
    ("h1.add((1..+∞))", "ok") ∷
    ("it c = p2", "?call") ∷
    ("c1.put(1, 0)", "ok") ∷
    ("new q1 ImmutableMapBuilder", "ok") ∷
    ("k.put(3, b)", "UnsupportedOperationException") ∷
    ("new x2 ImmutableMapBuilder", "ok") ∷
    ("new x ImmutableMapBuilder", "ok") ∷
    ("c1.put(3, 2, 0)", "?call") ∷
    ("x2.put(2, 2)", "ok") ∷
    ("t2.addCopies(0, 2)", "ok") ∷
    ("y1.add(0)", "ok") ∷
    ("v2.put(2, b)", "?call") ∷
    ("let k1 = q1.buildKeepingLast", "ok") ∷
    ("new d2 ImmutableSetMultimapBuilder", "ok") ∷
    ("c1.put(0, b)", "ok") ∷
    ("t2.add(3)", "ok") ∷
    ("k.put(b, 3)", "UnsupportedOperationException") ∷
    ("new x1 ImmutableMapBuilder", "ok") ∷
    ("let q1 = c.build", "ok") ∷
    ("let s = k.immutable", "ok") ∷
    ("new d2 ImmutableListBuilder", "ok") ∷
    ("t2.addCopies(a, 2)", "ok") ∷
    ("p1.put(1, 0)", "ok") ∷
    ("let d2 = p1.buildKeepingLast", "?call") ∷
    ("p1.put(2, 1)", "ok") ∷
    ("x1.put(a, ab)", "ok") ∷
    ("let z = d.build", "IllegalArgumentException") ∷
    ("e1.values", "[]") ∷
    ("c.add(2)", "ok") ∷
    ("e1.put(a, b)", "UnsupportedOperationException") ∷
    ("e1.put(b, 3)", "UnsupportedOperationException") ∷
    ("let w1 = y1.build", "ok") ∷
    ("x.put(3, 2)", "ok") ∷ [])
unfolding literally
script_2 = refl

script_3 : Runs (
    ("new s2 ImmutableMapBuilder", "ok") ∷
    ("s2.put(3, b)", "ok") ∷
    ("new t2 ImmutableBiMapBuilder", "ok") ∷
    ("new v2 ImmutableRangeMapBuilder", "ok") ∷
    ("t2.put(a, 0)", "ok") ∷
    ("t2.put(1, 1)", "ok") ∷
    ("s2.put(a, b)", "ok") ∷
    ("v2.put((1..1), ab)", "IllegalArgumentException") ∷
    ("new i1 ImmutableMapBuilder", "ok") ∷
    ("s2.add(0)", "?call") ∷
    ("i1.put(2, 2)", "ok") ∷
    ("let g = s2.buildKeepingLast", "ok") ∷
    ("t2.put(a, 3)", "ok") ∷
    ("v2.put(ab, 3)", "?call") ∷
    ("let p = i1.buildKeepingLast", "ok") ∷
    ("p.values", "[2]") ∷
    ("v2.put([2..3], 3)", "ok") ∷
    ("t2.put(b, 1)", "ok") ∷
    ("let x1 = i1.buildOrThrow", "ok") ∷
    ("new p2 ImmutableListBuilder", "ok") ∷
    ("new p ImmutableRangeSetBuilder", "ok") ∷
    ("g.put([3..3], b)", "?call") ∷
    ("i1.put(a, b)", "ok") ∷
    ("new l2 ImmutableListMultimapBuilder", "ok") ∷
    ("v2.put([4..5], 1)", "ok") ∷
    ("let q2 = x1.immutable", "ok") ∷
    ("x1.put(3, a)", "UnsupportedOperationException") ∷
    ("q2.put(0, b)", "UnsupportedOperationException") ∷
    ("new c2 ImmutableSetMultimapBuilder", "ok") ∷
    ("x1.put(a, 2)", "UnsupportedOperationException") ∷
    ("new f ImmutableBiMapBuilder", "ok") ∷
    ("let r2 = g.immutable", "ok") ∷
    ("let r2 = i1.buildOrThrow", "ok") ∷
    ("new p2 ImmutableBiMapBuilder", "ok") ∷
    ("x1.unmodifiable", "{2=2}") ∷
    ("v2.put([2..+∞), a)", "ok") ∷
    ("q2", "{2=2}") ∷
    ("q2.size", "1") ∷
    ("r2.values", "[2, b]") ∷
    ("f.size", "?call") ∷
    ("new v2 ImmutableTableBuilder", "ok") ∷
    ("let w2 = g.immutable", "ok") ∷
    ("q2.put(a, a)", "UnsupportedOperationException") ∷
    ("s2.put(3, a)", "ok") ∷
    ("g.add([5..+∞))", "?call") ∷
    ("c2.put(0, a)", "ok") ∷
    ("new k ImmutableSetBuilder", "ok") ∷
    ("x1.put(b, b)", "UnsupportedOperationException") ∷
    ("g.put(b, 3)", "UnsupportedOperationException") ∷
    ("new l2 ImmutableBiMapBuilder", "ok") ∷
    ("f.put(b, a)", "ok") ∷
    ("q2.put(b, a)", "UnsupportedOperationException") ∷
    ("let j = s2.buildKeepingLast", "ok") ∷
    ("new v2 ImmutableMapBuilder", "ok") ∷
    ("let l = k.build", "ok") ∷
    ("p.addCopies(ab, 1)", "?call") ∷
    ("new l1 ImmutableTableBuilder", "ok") ∷
    ("let z2 = i1.buildKeepingLast", "ok") ∷
    ("p.add([5..8))", "ok") ∷
    ("q2.keySet", "[2]") ∷
    ("i1.put(a, a)", "ok") ∷
    ("j.put([2..+∞), 3)", "?call") ∷
    ("j.put(0, 2)", "UnsupportedOperationException") ∷
    ("let r1 = j.immutable", "ok") ∷
    ("w2.put(ab, 2)", "UnsupportedOperationException") ∷
    ("r2.put(2, 1)", "UnsupportedOperationException") ∷
    ("new w ImmutableMapBuilder", "ok") ∷
    ("l.add(2)", "UnsupportedOperationException") ∷
    ("it n1 = x1.entrySet", "ok") ∷
    ("f.put(3, 1)", "ok") ∷
    ("n1.hasNext", "true") ∷
    ("let w = t2.buildOrThrow", "IllegalArgumentException") ∷
    ("it b1 = x1.entrySet", "ok") ∷
    ("new e2 ImmutableSetBuilder", "ok") ∷
    ("new b1 ImmutableRangeMapBuilder", "ok") ∷
    ("k.add(1)", "ok") ∷
    ("let t2 = b1.build", "ok") ∷
    ("n1.remove", "UnsupportedOperationException") ∷
    ("n1.remove", "UnsupportedOperationException") ∷
    ("k.add(ab)", "ok") ∷ [])
unfolding literally
script_3 = refl
