-- Random scripts on iterators over all shapes.
use Rattle.std.specs.Prelude.{[], ◌∷◌}
use Rattle.std.proofs.Common.{refl}
use Rattle.machine_examples.specs.Scripts.{Runs, literally}

script_1 : Runs (
    ("new s TreeSet", "ok") ∷
    ("s.clear", "ok") ∷
    ("s.clear", "ok") ∷
    ("s.remove(3)", "false") ∷
    ("s.remove(ab)", "false") ∷
    ("s.add(0)", "true") ∷
    ("s.add(a)", "true") ∷
    ("it r2 = s.entries", "?call") ∷
    ("s.remove(ab)", "false") ∷
    ("it g2 = s.get(1)", "?call") ∷
    ("s.get(1).replaceValues(1, s)", "?call") ∷
    ("s.clear", "ok") ∷
    ("s.clear", "ok") ∷
    ("s.add(a)", "true") ∷
    ("s.add(2)", "true") ∷
    ("let j2 = s", "ok") ∷
    ("j2.remove(0)", "false") ∷
    ("s.add(1)", "true") ∷
    ("it e2 = j2.within([1..+∞))", "ok") ∷
    ("e2.next", "1") ∷
    ("e2.next", "2") ∷
    ("j2.remove(ab)", "false") ∷
    ("let u2 = j2.within([1..+∞))", "ok") ∷
    ("s.clear", "ok") ∷
    ("j2.remove(2)", "false") ∷
    ("it e = u2.columnMap.entrySet", "?call") ∷
    ("e2.remove", "ConcurrentModificationException") ∷
    ("e2.hasNext", "ConcurrentModificationException") ∷
    ("e2.next", "ConcurrentModificationException") ∷
    ("e2.next", "ConcurrentModificationException") ∷
    ("e2.next", "ConcurrentModificationException") ∷
    ("e2.remove", "ConcurrentModificationException") ∷
    ("e2.remove", "ConcurrentModificationException") ∷
    ("e2.next", "ConcurrentModificationException") ∷
    ("e2.next", "ConcurrentModificationException") ∷
    ("e2.remove", "ConcurrentModificationException") ∷
    ("s.remove(ab)", "false") ∷
    ("new y LinkedHashMultiset", "ok") ∷
    ("y.remove(ab, 3)", "0") ∷
    ("e2.next", "ConcurrentModificationException") ∷
    ("e2.next", "ConcurrentModificationException") ∷
    ("e2.next", "ConcurrentModificationException") ∷
    ("y.add(3)", "true") ∷
    ("e2.remove", "ConcurrentModificationException") ∷
    ("s.clear", "ok") ∷
    ("e2.next", "ConcurrentModificationException") ∷
    ("e2.next", "ConcurrentModificationException") ∷
    ("e2.hasNext", "ConcurrentModificationException") ∷
    ("e2.hasNext", "ConcurrentModificationException") ∷
    ("s.clear", "ok") ∷
    ("e2.remove", "ConcurrentModificationException") ∷
    ("e2.next", "ConcurrentModificationException") ∷
    ("e2.next", "ConcurrentModificationException") ∷
    ("y.remove(3, 3)", "1") ∷
    ("e2.next", "ConcurrentModificationException") ∷
    ("e2.remove", "ConcurrentModificationException") ∷
    ("s.add(3)", "true") ∷
    ("y.remove(2, 2)", "0") ∷
    ("it z = s.within([1..+∞))", "ok") ∷
    ("e2.next", "ConcurrentModificationException") ∷
    ("e2.next", "ConcurrentModificationException") ∷
    ("e2.next", "ConcurrentModificationException") ∷
    ("s.within([1..+∞))", "[3]") ∷
    ("u2.add(1)", "true") ∷
    ("e2.remove", "ConcurrentModificationException") ∷
    ("u2.removeAll(3)", "?call") ∷
    ("e2.next", "ConcurrentModificationException") ∷
    ("e2.remove", "ConcurrentModificationException") ∷
    ("e2.next", "ConcurrentModificationException") ∷
    ("let v1 = y.elementSet.immutable", "ok") ∷
    ("e2.remove", "ConcurrentModificationException") ∷
    ("v1.add(0)", "UnsupportedOperationException") ∷
    ("z.hasNext", "ConcurrentModificationException") ∷
    ("y.remove(3)", "false") ∷
    ("z.next", "ConcurrentModificationException") ∷
    ("e2.next", "ConcurrentModificationException") ∷
    ("e2.hasNext", "ConcurrentModificationException") ∷
    ("z.next", "ConcurrentModificationException") ∷
    ("e2.next", "ConcurrentModificationException") ∷
    ("z.hasNext", "ConcurrentModificationException") ∷ [])
unfolding literally
script_1 = refl

script_2 : Runs (
    ("new c LinkedHashMap", "ok") ∷
    ("c.clear", "ok") ∷
    ("c.clear", "ok") ∷
    ("c.values", "[]") ∷
    ("c.values.add(0)", "UnsupportedOperationException") ∷
    ("new h TreeBasedTable", "ok") ∷
    ("h.transpose.rowKeySet", "[]") ∷
    ("c.entrySet", "[]") ∷
    ("c.remove(a)", "null") ∷
    ("c", "{}") ∷
    ("new o LinkedArrayListMultimap", "ok") ∷
    ("o.removeAll(2)", "[]") ∷
    ("h.put(a, 1, a)", "null") ∷
    ("h.clear", "ok") ∷
    ("c.forMap.keys.remove(1)", "false") ∷
    ("h.clear", "ok") ∷
    ("o.removeAll(a)", "[]") ∷
    ("new d LinkedArrayListMultimap", "ok") ∷
    ("o.add(ab, 0)", "?call") ∷
    ("h.put(0, ab, ab)", "null") ∷
    ("d.put(3, 3)", "true") ∷
    ("it z2 = o.get(a)", "ok") ∷
    ("d.put(0, 2)", "true") ∷
    ("z2.remove", "IllegalStateException") ∷
    ("o.remove(b, 3)", "false") ∷
    ("z2.hasNext", "false") ∷
    ("z2.hasNext", "false") ∷
    ("d.values", "[3, 2]") ∷
    ("z2.next", "NoSuchElementException") ∷
    ("h", "{0={ab=ab}}") ∷
    ("new j LinkedHashSet", "ok") ∷
    ("z2.hasNext", "false") ∷
    ("z2.next", "NoSuchElementException") ∷
    ("h.put(1, b, a)", "null") ∷
    ("z2.next", "NoSuchElementException") ∷
    ("z2.remove", "IllegalStateException") ∷
    ("new m1 TreeBasedTable", "ok") ∷
    ("z2.hasNext", "false") ∷
    ("d.removeAll(a)", "[]") ∷
    ("h.clear", "ok") ∷
    ("z2.hasNext", "false") ∷
    ("z2.remove", "IllegalStateException") ∷
    ("o.removeAll(1)", "[]") ∷
    ("z2.next", "NoSuchElementException") ∷
    ("new i TreeMultiset", "ok") ∷
    ("z2.remove", "IllegalStateException") ∷
    ("o.removeAll(0)", "[]") ∷
    ("m1.rowMap.get(1).put(1, b)", "null") ∷
    ("z2.hasNext", "false") ∷
    ("d.clear", "ok") ∷
    ("z2.next", "NoSuchElementException") ∷
    ("z2.remove", "IllegalStateException") ∷
    ("z2.hasNext", "false") ∷
    ("o.values", "[]") ∷
    ("z2.remove", "IllegalStateException") ∷
    ("z2.next", "NoSuchElementException") ∷
    ("new n2 HashBiMap", "ok") ∷
    ("it z2 = d.filter(gt(0))", "?call") ∷
    ("z2.next", "NoSuchElementException") ∷
    ("it z1 = d.filterKeys(any).keySet", "ok") ∷
    ("z2.next", "NoSuchElementException") ∷
    ("i.setCount(a, 0)", "0") ∷
    ("z2.hasNext", "false") ∷
    ("it i1 = h.rowMap.entrySet", "ok") ∷
    ("z1.remove", "UnsupportedOperationException") ∷
    ("d.put(ab, 3)", "true") ∷
    ("z2.remove", "IllegalStateException") ∷
    ("m1.remove(a, a)", "null") ∷
    ("i1.next", "NoSuchElementException") ∷
    ("i.setCount(b, 2)", "0") ∷
    ("z1.next", "ConcurrentModificationException") ∷
    ("c.get(a)", "null") ∷
    ("z1.hasNext", "ConcurrentModificationException") ∷
    ("z2.hasNext", "false") ∷
    ("z2.remove", "IllegalStateException") ∷
    ("i.add(a, 2)", "0") ∷
    ("c.columnKeySet.put(1, b)", "?call") ∷
    ("z1.remove", "UnsupportedOperationException") ∷
    ("z1.hasNext", "ConcurrentModificationException") ∷
    ("z1.next", "ConcurrentModificationException") ∷ [])
unfolding literally
script_2 = refl

script_3 : Runs (
    ("new s2 TreeMapReverse", "ok") ∷
    ("s2.cellSet", "?call") ∷
    ("s2.clear", "ok") ∷
    ("s2", "{}") ∷
    ("let o1 = s2.keySet", "ok") ∷
    ("s2.remove(0, a)", "?call") ∷
    ("new h1 TreeSet", "ok") ∷
    ("s2.put(2, ab)", "null") ∷
    ("o1.remove(1)", "false") ∷
    ("s2.entrySet.remove(b, b)", "false") ∷
    ("let p2 = s2.rowMap.entrySet", "?call") ∷
    ("s2.add(1, 0)", "?call") ∷
    ("s2.keySet.removeAll(a)", "?name") ∷
    ("h1.clear", "ok") ∷
    ("let c1 = h1.within([1..+∞)).immutable", "ok") ∷
    ("new x2 LinkedHashMultiset", "ok") ∷
    ("c1.clear", "UnsupportedOperationException") ∷
    ("it a2 = c1.filter(gt(0))", "ok") ∷
    ("c1.remove(b)", "UnsupportedOperationException") ∷
    ("o1.add(b)", "UnsupportedOperationException") ∷
    ("a2.remove", "UnsupportedOperationException") ∷
    ("a2.remove", "UnsupportedOperationException") ∷
    ("a2.next", "NoSuchElementException") ∷
    ("o1.descending.clear", "ok") ∷
    ("a2.remove", "UnsupportedOperationException") ∷
    ("a2.remove", "UnsupportedOperationException") ∷
    ("a2.next", "NoSuchElementException") ∷
    ("h1.remove(1)", "false") ∷
    ("a2.next", "NoSuchElementException") ∷
    ("it n2 = c1.keys", "?call") ∷
    ("s2.add(1)", "?call") ∷
    ("a2.remove", "UnsupportedOperationException") ∷
    ("a2.remove", "UnsupportedOperationException") ∷
    ("a2.next", "NoSuchElementException") ∷
    ("a2.remove", "UnsupportedOperationException") ∷
    ("a2.remove", "UnsupportedOperationException") ∷
    ("new q1 LinkedTable", "ok") ∷
    ("h1.add(a)", "true") ∷
    ("h1.remove(0)", "false") ∷
    ("let y = h1.within([1..+∞)).immutable", "ok") ∷
    ("a2.next", "NoSuchElementException") ∷
    ("a2.remove", "UnsupportedOperationException") ∷
    ("a2.hasNext", "false") ∷
    ("a2.remove", "UnsupportedOperationException") ∷
    ("new h2 LinkedArrayListMultimap", "ok") ∷
    ("a2.hasNext", "false") ∷
    ("a2.remove", "UnsupportedOperationException") ∷
    ("it z = s2.forMap.keys", "ok") ∷
    ("z.next", "NoSuchElementException") ∷
    ("a2.remove", "UnsupportedOperationException") ∷
    ("z.remove", "UnsupportedOperationException") ∷
    ("it b = o1.union(c1)", "ok") ∷
    ("a2.next", "NoSuchElementException") ∷
    ("h2.get(1)", "[]") ∷
    ("o1.remove(a)", "false") ∷
    ("o1.union(h1).add(a)", "UnsupportedOperationException") ∷
    ("a2.remove", "UnsupportedOperationException") ∷
    ("h2.put(ab, 0)", "true") ∷
    ("z.hasNext", "false") ∷
    ("z.hasNext", "false") ∷
    ("a2.remove", "UnsupportedOperationException") ∷
    ("a2.remove", "UnsupportedOperationException") ∷
    ("z.remove", "UnsupportedOperationException") ∷
    ("z.next", "NoSuchElementException") ∷
    ("x2.add(2)", "true") ∷
    ("b.hasNext", "false") ∷
    ("z.hasNext", "false") ∷
    ("a2.remove", "UnsupportedOperationException") ∷
    ("o1.remove(a)", "false") ∷
    ("a2.next", "NoSuchElementException") ∷
    ("it i2 = o1.filter(gt(0))", "ok") ∷
    ("b.remove", "UnsupportedOperationException") ∷
    ("a2.next", "NoSuchElementException") ∷
    ("s2.filterKeys(any).keySet.clear", "ok") ∷
    ("let z1 = q1.values", "ok") ∷
    ("b.next", "NoSuchElementException") ∷
    ("x2.add(ab)", "true") ∷
    ("h1.add(ab)", "true") ∷
    ("x2.add(a)", "true") ∷
    ("z.next", "NoSuchElementException") ∷ [])
unfolding literally
script_3 = refl
