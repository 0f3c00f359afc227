-- Random scripts on ranges through complements and windows.
use Rattle.std.specs.Prelude.{[], ◌∷◌}
use Rattle.std.proofs.Common.{refl}
use Rattle.machine_examples.specs.Scripts.{Runs, literally}

script_1 : Runs (
    ("new s TreeRangeSet", "ok") ∷
    ("s.complement.subRangeSet([0..+∞)).equals(s)", "false") ∷
    ("s.complement", "[(-∞..+∞)]") ∷
    ("s.subRangeSet((3..+∞)).encloses((-∞..6])", "false") ∷
    ("let u2 = s.unmodifiable", "ok") ∷
    ("s.complement", "[(-∞..+∞)]") ∷
    ("s.subRangeSet((7..7]).clear", "ok") ∷
    ("u2.contains(4)", "false") ∷
    ("s.add((-∞..7))", "ok") ∷
    ("s.add([1..7])", "ok") ∷
    ("let k2 = u2.subRangeSet((1..4])", "ok") ∷
    ("u2.intersects([1..7])", "true") ∷
    ("u2.complement.complement.intersects((4..6))", "true") ∷
    ("it w1 = s.asRanges", "ok") ∷
    ("k2.intersects((1..6))", "true") ∷
    ("w1.remove", "UnsupportedOperationException") ∷
    ("k2.removeAll(s)", "UnsupportedOperationException") ∷
    ("u2.span", "(-∞..7]") ∷
    ("s.complement.rangeContaining(3)", "null") ∷
    ("s.subRangeSet([1..3)).complement.remove((2..8))", "IllegalArgumentException") ∷
    ("u2", "[(-∞..7]]") ∷
    ("u2", "[(-∞..7]]") ∷
    ("s.complement.encloses((-∞..3))", "false") ∷
    ("u2", "[(-∞..7]]") ∷
    ("u2.complement.contains(2)", "false") ∷
    ("let i = s.complement.complement", "ok") ∷
    ("let h1 = k2", "ok") ∷
    ("k2.encloses((-∞..+∞))", "false") ∷
    ("k2.complement.putCoalescing((3..3), a)", "?call") ∷
    ("h1", "[(1..4]]") ∷
    ("h1.clear", "UnsupportedOperationException") ∷
    ("let j = h1", "ok") ∷
    ("k2.subRangeSet((-∞..4)).clear", "UnsupportedOperationException") ∷
    ("i.encloses((-∞..7))", "true") ∷
    ("k2.complement.intersects([5..6))", "true") ∷
    ("k2.isEmpty", "false") ∷
    ("u2.clear", "UnsupportedOperationException") ∷
    ("s.subRangeSet((8..6]).encloses((5..5])", "IllegalArgumentException") ∷
    ("let h2 = j.complement", "ok") ∷
    ("h1", "[(1..4]]") ∷
    ("h2.rangeContaining(3)", "null") ∷
    ("u2", "[(-∞..7]]") ∷
    ("u2.clear", "UnsupportedOperationException") ∷
    ("s", "[(-∞..7]]") ∷
    ("h2.encloses((7..8])", "true") ∷
    ("let s = h2", "ok") ∷
    ("j.complement.asRanges.contains((0..4))", "false") ∷
    ("let k1 = h2.immutable", "ok") ∷
    ("w1.next", "(-∞..7]") ∷
    ("new t2 TreeRangeMap", "ok") ∷
    ("let f = j.complement.complement", "ok") ∷
    ("u2.rangeContaining(0)", "(-∞..7]") ∷
    ("let c1 = s.unmodifiable.asRanges", "ok") ∷
    ("k1.removeAll(h2)", "UnsupportedOperationException") ∷
    ("new e TreeRangeSet", "ok") ∷
    ("let u2 = j.immutable", "ok") ∷
    ("h2.complement.subRangeSet([2..5]).rangeContaining(5)", "null") ∷
    ("f.asRanges.contains((2..2))", "IllegalArgumentException") ∷
    ("i", "[(-∞..7]]") ∷
    ("k2.subRangeSet((4..7]).subRangeSet([1..4)).add([2..7))", "UnsupportedOperationException") ∷
    ("h2", "[(-∞..1], (4..+∞)]") ∷
    ("j", "[(1..4]]") ∷
    ("f.addAll(e)", "UnsupportedOperationException") ∷
    ("new b1 TreeRangeMap", "ok") ∷
    ("new o1 TreeRangeMap", "ok") ∷
    ("e.complement.rangeContaining(5)", "(-∞..+∞)") ∷
    ("e.encloses([1..3))", "false") ∷
    ("let k2 = t2", "ok") ∷
    ("b1", "{}") ∷
    ("k2", "{}") ∷
    ("s.add((0..4])", "UnsupportedOperationException") ∷
    ("k2.putCoalescing([5..+∞), b)", "ok") ∷
    ("o1.asMapOfRanges.contains([3..5], b)", "false") ∷
    ("let v = j.complement", "ok") ∷
    ("k2.subRangeMap([3..6))", "{[5..6)=b}") ∷
    ("h1", "[(1..4]]") ∷
    ("w1.hasNext", "false") ∷
    ("h1.remove([6..7))", "UnsupportedOperationException") ∷
    ("f.removeAll(t2)", "?call") ∷
    ("u2.contains(3)", "true") ∷ [])
unfolding literally
script_1 = refl

script_2 : Runs (
    ("new c TreeRangeSet", "ok") ∷
    ("c.complement.clear", "ok") ∷
    ("c.clear", "ok") ∷
    ("c", "[]") ∷
    ("let v1 = c", "ok") ∷
    ("c", "[]") ∷
    ("c.asRanges.contains([5..6))", "false") ∷
    ("c", "[]") ∷
    ("c.encloses([5..6))", "false") ∷
    ("v1.subRangeSet((2..3)).isEmpty", "true") ∷
    ("let s2 = c.complement", "ok") ∷
    ("s2", "[(-∞..+∞)]") ∷
    ("c.equals(s2)", "false") ∷
    ("v1.contains(0)", "false") ∷
    ("v1.complement.complement", "[]") ∷
    ("c.remove((6..8])", "ok") ∷
    ("c.complement.subRangeSet([2..+∞)).add([1..5])", "IllegalArgumentException") ∷
    ("s2.equals(c)", "false") ∷
    ("let v1 = c.subRangeSet((-∞..8))", "ok") ∷
    ("v1.add([4..6])", "ok") ∷
    ("new t2 TreeRangeSet", "ok") ∷
    ("s2", "[(-∞..4), (6..+∞)]") ∷
    ("v1", "[[4..6]]") ∷
    ("t2.complement", "[(-∞..+∞)]") ∷
    ("let d2 = t2.immutable", "ok") ∷
    ("s2.subRangeSet([1..7]).complement.rangeContaining(0)", "(-∞..1)") ∷
    ("c.contains(0)", "false") ∷
    ("d2.complement.complement", "[]") ∷
    ("v1.rangeContaining(1)", "null") ∷
    ("let j2 = t2", "ok") ∷
    ("c.equals(t2)", "false") ∷
    ("v1.subRangeSet((-∞..8)).removeAll(t2)", "ok") ∷
    ("t2.asRanges.contains([1..6))", "false") ∷
    ("t2.subRangeMap([5..8))", "?call") ∷
    ("let i1 = s2", "ok") ∷
    ("let e = v1", "ok") ∷
    ("d2.subRangeSet((8..8)).add([4..7])", "IllegalArgumentException") ∷
    ("it f2 = c.asRanges", "ok") ∷
    ("j2.add((0..2))", "ok") ∷
    ("t2", "[(0..2)]") ∷
    ("i1.complement.subRangeSet((-∞..7))", "[[4..6]]") ∷
    ("e.encloses((-∞..+∞))", "false") ∷
    ("c", "[[4..6]]") ∷
    ("e.complement", "[(-∞..4), (6..+∞)]") ∷
    ("t2.isEmpty", "false") ∷
    ("let i1 = t2", "ok") ∷
    ("new w TreeRangeSet", "ok") ∷
    ("e.add((1..8])", "IllegalArgumentException") ∷
    ("j2.complement", "[(-∞..0], [2..+∞)]") ∷
    ("let h2 = w.complement.subRangeSet([3..3)).asRanges", "ok") ∷
    ("let p = c.complement.asRanges", "ok") ∷
    ("w.subRangeSet((0..3)).getEntry(4)", "?call") ∷
    ("j2.subRangeSet((2..7]).complement", "[(-∞..+∞)]") ∷
    ("d2.unmodifiable.isEmpty", "true") ∷
    ("c.isEmpty", "false") ∷
    ("i1.subRangeSet([0..4]).rangeContaining(0)", "null") ∷
    ("f2.hasNext", "true") ∷
    ("let s2 = j2.asRanges", "ok") ∷
    ("h2.isEmpty", "true") ∷
    ("new l TreeRangeMap", "ok") ∷
    ("f2.remove", "UnsupportedOperationException") ∷
    ("new j2 TreeRangeSet", "ok") ∷
    ("c.complement.complement.rangeContaining(7)", "null") ∷
    ("j2.addAll(d2)", "ok") ∷
    ("v1.complement.add([4..8])", "ok") ∷
    ("i1.complement.subRangeSet((1..5]).rangeContaining(8)", "null") ∷
    ("s2", "[(0..2)]") ∷
    ("j2.subRangeSet((0..8]).complement", "[(-∞..+∞)]") ∷
    ("e.asRanges.contains([5..6))", "false") ∷
    ("c", "[]") ∷
    ("t2", "[(0..2)]") ∷
    ("p", "[(-∞..+∞)]") ∷
    ("d2.complement.subRangeSet([5..8))", "[[5..8)]") ∷
    ("d2.complement.intersects([4..7])", "true") ∷
    ("c.intersects([6..7])", "false") ∷
    ("i1", "[(0..2)]") ∷
    ("e.add([1..5])", "ok") ∷
    ("d2.add([6..8))", "UnsupportedOperationException") ∷
    ("j2.subRangeSet([1..+∞)).encloses([8..8))", "false") ∷
    ("h2", "[]") ∷ [])
unfolding literally
script_2 = refl

script_3 : Runs (
    ("new s2 TreeRangeSet", "ok") ∷
    ("s2.add((2..6])", "ok") ∷
    ("s2.isEmpty", "false") ∷
    ("s2", "[(2..6]]") ∷
    ("let k2 = s2.subRangeSet((-∞..5))", "ok") ∷
    ("k2.clear", "ok") ∷
    ("k2.subRangeSet([5..6]).add((1..2])", "IllegalArgumentException") ∷
    ("s2", "[[5..6]]") ∷
    ("s2.remove((5..+∞))", "ok") ∷
    ("k2.isEmpty", "true") ∷
    ("s2", "[[5..5]]") ∷
    ("s2.complement.subRangeSet((-∞..5)).asRanges.contains((0..0))", "IllegalArgumentException") ∷
    ("k2", "[]") ∷
    ("k2", "[]") ∷
    ("s2.encloses((1..2])", "false") ∷
    ("k2.complement.removeAll(s2)", "IllegalArgumentException") ∷
    ("new t TreeRangeSet", "ok") ∷
    ("k2.complement", "[(-∞..+∞)]") ∷
    ("k2.complement.span", "(-∞..+∞)") ∷
    ("s2.encloses([0..6))", "false") ∷
    ("t.add([0..1))", "ok") ∷
    ("k2", "[]") ∷
    ("k2.unmodifiable.complement.add([5..+∞))", "UnsupportedOperationException") ∷
    ("k2.remove((4..+∞))", "ok") ∷
    ("s2", "[[5..5]]") ∷
    ("s2.complement", "[(-∞..5), (5..+∞)]") ∷
    ("t.intersects((5..5])", "false") ∷
    ("t.rangeContaining(8)", "null") ∷
    ("s2", "[[5..5]]") ∷
    ("k2.encloses((4..6])", "false") ∷
    ("k2.complement.complement.clear", "ok") ∷
    ("let h1 = s2.asRanges", "ok") ∷
    ("k2", "[]") ∷
    ("k2.complement", "[(-∞..+∞)]") ∷
    ("s2.complement.removeAll(k2)", "ok") ∷
    ("t.equals(s2)", "false") ∷
    ("h1", "[[5..5]]") ∷
    ("t.complement.put((4..6], b)", "?call") ∷
    ("t", "[[0..1)]") ∷
    ("t.add([2..+∞))", "ok") ∷
    ("s2", "[[5..5]]") ∷
    ("let o = t", "ok") ∷
    ("let g1 = h1", "ok") ∷
    ("o", "[[0..1), [2..+∞)]") ∷
    ("t.complement.complement.clear", "ok") ∷
    ("t.complement", "[(-∞..+∞)]") ∷
    ("k2.remove((0..0))", "IllegalArgumentException") ∷
    ("o.add([0..8))", "ok") ∷
    ("s2.unmodifiable.equals(o)", "false") ∷
    ("s2", "[[5..5]]") ∷
    ("t.add((-∞..6))", "ok") ∷
    ("t.complement", "[[8..+∞)]") ∷
    ("o", "[(-∞..8)]") ∷
    ("h1.subRangeMap([0..5]).subRangeMap([4..4)).remove((-∞..7])", "?call") ∷
    ("k2.subRangeMap([3..8)).asRanges.contains([1..6))", "?call") ∷
    ("new z2 TreeRangeSet", "ok") ∷
    ("z2.complement.rangeContaining(5)", "(-∞..+∞)") ∷
    ("z2", "[]") ∷
    ("s2.removeAll(o)", "ok") ∷
    ("o.subRangeSet([2..+∞)).subRangeSet((-∞..2)).add((3..5])", "IllegalArgumentException") ∷
    ("t.complement", "[[8..+∞)]") ∷
    ("z2", "[]") ∷
    ("t.span", "(-∞..8)") ∷
    ("o", "[(-∞..8)]") ∷
    ("k2.isEmpty", "true") ∷
    ("o.subRangeSet((4..4]).complement", "[(-∞..+∞)]") ∷
    ("s2.encloses((4..7))", "false") ∷
    ("o.complement.rangeContaining(4)", "null") ∷
    ("z2.contains(6)", "false") ∷
    ("o", "[(-∞..8)]") ∷
    ("t", "[(-∞..8)]") ∷
    ("h1", "[]") ∷
    ("let e = s2.subRangeSet((2..5]).subRangeSet((4..+∞)).immutable", "ok") ∷
    ("t.complement", "[[8..+∞)]") ∷
    ("s2.subRangeSet([5..6]).complement", "[(-∞..+∞)]") ∷
    ("let w2 = o.subRangeSet((3..+∞)).complement", "ok") ∷
    ("w2.complement.complement", "[(-∞..3], [8..+∞)]") ∷
    ("s2", "[]") ∷
    ("s2", "[]") ∷
    ("o.asRanges.contains((5..6))", "false") ∷ [])
unfolding literally
script_3 = refl
