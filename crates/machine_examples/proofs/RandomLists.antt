-- Random scripts on lists, their sublists and their iterators.
use Rattle.std.specs.Prelude.{[], ◌∷◌}
use Rattle.std.proofs.Common.{refl}
use Rattle.machine_examples.specs.Scripts.{Runs, literally}

script_1 : Runs (
    ("new e2 ArrayList", "ok") ∷
    ("it a1 = e2.unmodifiable", "ok") ∷
    ("e2.retainAll(e2)", "false") ∷
    ("e2.unmodifiable.size", "0") ∷
    ("e2.containsAll(e2)", "true") ∷
    ("a1.remove", "UnsupportedOperationException") ∷
    ("e2.retainAll(e2)", "false") ∷
    ("a1.remove", "UnsupportedOperationException") ∷
    ("a1.hasNext", "false") ∷
    ("e2", "[]") ∷
    ("let c = e2.partition(2).get(-1).partition(2).get(1)", "IndexOutOfBoundsException") ∷
    ("e2.equals(e2)", "true") ∷
    ("it m = e2.sub(0, 4)", "IndexOutOfBoundsException") ∷
    ("a1.remove", "UnsupportedOperationException") ∷
    ("e2", "[]") ∷
    ("a1.next", "NoSuchElementException") ∷
    ("e2.add(a)", "true") ∷
    ("let z = e2", "ok") ∷
    ("it u1 = z", "ok") ∷
    ("let z2 = z", "ok") ∷
    ("it a = e2.partition(0)", "IllegalArgumentException") ∷
    ("let y1 = z.partition(2).get(-1).sub(1, 3)", "IndexOutOfBoundsException") ∷
    ("let e1 = z2", "ok") ∷
    ("let w2 = z2.transform(plus(1)).sub(0, 1)", "ok") ∷
    ("it v1 = z", "ok") ∷
    ("e1", "[a]") ∷
    ("v1.hasNext", "true") ∷
    ("u1.next", "a") ∷
    ("v1.hasNext", "true") ∷
    ("new s LinkedHashSet", "ok") ∷
    ("z", "[a]") ∷
    ("z", "[a]") ∷
    ("it s2 = z", "ok") ∷
    ("e1", "[a]") ∷
    ("z", "[a]") ∷
    ("e2", "[a]") ∷
    ("e2.remove(ab)", "false") ∷
    ("z.filter(gt(1)).clear", "ok") ∷
    ("let r1 = w2.reverse.reverse", "ok") ∷
    ("a1.next", "ConcurrentModificationException") ∷
    ("w2.retainAll(z2)", "ConcurrentModificationException") ∷
    ("r1.removeAt(1)", "ConcurrentModificationException") ∷
    ("it n2 = s", "ok") ∷
    ("s", "[]") ∷
    ("v1.hasNext", "ConcurrentModificationException") ∷
    ("a1.next", "ConcurrentModificationException") ∷
    ("z", "[]") ∷
    ("z.retainAll(e2)", "false") ∷
    ("let y1 = z.unmodifiable.partition(2).get(1)", "IndexOutOfBoundsException") ∷
    ("e1.sub(0, 2).filter(gt(1)).containsAll(r1)", "IndexOutOfBoundsException") ∷
    ("e1", "[]") ∷
    ("z.add(ab)", "true") ∷
    ("r1.add(0)", "UnsupportedOperationException") ∷
    ("e1.add(1, 0)", "ok") ∷
    ("u1.remove", "ConcurrentModificationException") ∷
    ("z2.removeAll(s)", "false") ∷
    ("r1", "ConcurrentModificationException") ∷
    ("let o2 = e2", "ok") ∷
    ("z.add(ab)", "true") ∷
    ("z2.filter(gt(1)).retainAll(s)", "true") ∷
    ("v1.next", "ConcurrentModificationException") ∷
    ("it q = w2", "ConcurrentModificationException") ∷
    ("it o1 = z2.unmodifiable", "ok") ∷
    ("r1.containsAll(e2)", "ConcurrentModificationException") ∷
    ("o1.next", "0") ∷
    ("e1", "[0]") ∷
    ("e1.equals(w2)", "ConcurrentModificationException") ∷
    ("let q2 = r1.partition(2).get(-1)", "ConcurrentModificationException") ∷
    ("e2.remove(ab)", "false") ∷
    ("o2.reverse.containsAll(w2)", "ConcurrentModificationException") ∷
    ("s2.next", "ConcurrentModificationException") ∷
    ("o2.reverse.containsAll(e1)", "true") ∷
    ("z2.containsAll(r1)", "ConcurrentModificationException") ∷
    ("r1.retainAll(w2)", "ConcurrentModificationException") ∷
    ("z.remove(0)", "true") ∷
    ("s.size", "0") ∷
    ("let i = z.reverse", "ok") ∷
    ("r1", "ConcurrentModificationException") ∷
    ("e2", "[]") ∷
    ("let g1 = i.unmodifiable", "ok") ∷ [])
unfolding literally
script_1 = refl

script_2 : Runs (
    ("new b ArrayList", "ok") ∷
    ("b.equals(b)", "true") ∷
    ("b", "[]") ∷
    ("b", "[]") ∷
    ("b.removeAt(0)", "IndexOutOfBoundsException") ∷
    ("b.transform(plus(1)).unmodifiable.size", "0") ∷
    ("b.sub(-1, 2).sub(1, 3).removeAt(-1)", "IndexOutOfBoundsException") ∷
    ("let a = b", "ok") ∷
    ("b.add(a)", "true") ∷
    ("a.remove(2)", "false") ∷
    ("it n = a.filter(gt(1))", "ok") ∷
    ("b", "[a]") ∷
    ("let a = b", "ok") ∷
    ("let q2 = b", "ok") ∷
    ("n.next", "a") ∷
    ("q2.add(3)", "true") ∷
    ("a.add(0, 0)", "ok") ∷
    ("let p2 = q2.unmodifiable.filter(gt(1))", "ok") ∷
    ("n.hasNext", "ConcurrentModificationException") ∷
    ("q2", "[0, a, 3]") ∷
    ("b", "[0, a, 3]") ∷
    ("let r = b", "ok") ∷
    ("p2.addAll(b)", "UnsupportedOperationException") ∷
    ("b.size", "3") ∷
    ("p2.size", "2") ∷
    ("r", "[0, a, 3]") ∷
    ("n.remove", "UnsupportedOperationException") ∷
    ("b.sub(0, 2).clear", "ok") ∷
    ("n.hasNext", "ConcurrentModificationException") ∷
    ("r.remove(b)", "false") ∷
    ("r.add(1, ab)", "ok") ∷
    ("p2", "[3, ab]") ∷
    ("it d2 = r", "ok") ∷
    ("p2.clear", "UnsupportedOperationException") ∷
    ("d2.next", "3") ∷
    ("r", "[3, ab]") ∷
    ("q2.size", "2") ∷
    ("n.next", "ConcurrentModificationException") ∷
    ("q2.removeAt(2)", "IndexOutOfBoundsException") ∷
    ("d2.hasNext", "true") ∷
    ("n.hasNext", "ConcurrentModificationException") ∷
    ("b.add(2, 2)", "ok") ∷
    ("let y1 = r.unmodifiable", "ok") ∷
    ("it k2 = a", "ok") ∷
    ("d2.next", "ConcurrentModificationException") ∷
    ("k2.next", "3") ∷
    ("b.sub(0, 0).sub(1, 0).add(2, ab)", "IndexOutOfBoundsException") ∷
    ("a", "[3, ab, 2]") ∷
    ("p2.remove(1)", "UnsupportedOperationException") ∷
    ("let u = r", "ok") ∷
    ("a.reverse.filter(gt(1)).remove(0)", "false") ∷
    ("it l1 = q2.unmodifiable", "ok") ∷
    ("b.add(0)", "true") ∷
    ("n.next", "ConcurrentModificationException") ∷
    ("r", "[3, ab, 2, 0]") ∷
    ("y1.add(3, 1)", "UnsupportedOperationException") ∷
    ("a.unmodifiable.retainAll(p2)", "UnsupportedOperationException") ∷
    ("let i = b.transform(plus(1)).partition(0)", "IllegalArgumentException") ∷
    ("d2.remove", "ConcurrentModificationException") ∷
    ("let r = a", "ok") ∷
    ("let w = y1.filter(gt(1))", "ok") ∷
    ("k2.hasNext", "ConcurrentModificationException") ∷
    ("y1", "[3, ab, 2, 0]") ∷
    ("d2.next", "ConcurrentModificationException") ∷
    ("q2.size", "4") ∷
    ("d2.next", "ConcurrentModificationException") ∷
    ("l1.remove", "UnsupportedOperationException") ∷
    ("p2", "[3, ab, 2]") ∷
    ("k2.hasNext", "ConcurrentModificationException") ∷
    ("a", "[3, ab, 2, 0]") ∷
    ("l1.remove", "UnsupportedOperationException") ∷
    ("k2.remove", "ConcurrentModificationException") ∷
    ("it o = r.partition(3)", "ok") ∷
    ("new k2 LinkedHashSet", "ok") ∷
    ("u.add(ab)", "true") ∷
    ("let p2 = u.filter(gt(1))", "ok") ∷
    ("b.transform(plus(1)).partition(2).get(2).size", "1") ∷
    ("y1", "[3, ab, 2, 0, ab]") ∷
    ("let m1 = y1.sub(0, 3)", "ok") ∷
    ("r.add(1)", "true") ∷ [])
unfolding literally
script_2 = refl

script_3 : Runs (
    ("new h2 ArrayList", "ok") ∷
    ("h2.indexOf(b)", "-1") ∷
    ("let q1 = h2", "ok") ∷
    ("h2.containsAll(h2)", "true") ∷
    ("q1.transform(plus(1)).indexOf(a)", "-1") ∷
    ("q1", "[]") ∷
    ("q1", "[]") ∷
    ("it p2 = q1", "ok") ∷
    ("let n = q1", "ok") ∷
    ("q1", "[]") ∷
    ("it d2 = h2", "ok") ∷
    ("let n1 = n", "ok") ∷
    ("let k1 = n", "ok") ∷
    ("let v = n1", "ok") ∷
    ("it f1 = n.transform(plus(1))", "ok") ∷
    ("n.add(0, a)", "ok") ∷
    ("v.add(0, 0)", "ok") ∷
    ("n1.add(2)", "true") ∷
    ("k1.remove(a)", "true") ∷
    ("n", "[0, 2]") ∷
    ("f1.hasNext", "ConcurrentModificationException") ∷
    ("d2.next", "ConcurrentModificationException") ∷
    ("let p2 = n1", "ok") ∷
    ("d2.next", "ConcurrentModificationException") ∷
    ("f1.remove", "IllegalStateException") ∷
    ("q1.sub(1, 3).unmodifiable.add(1)", "IndexOutOfBoundsException") ∷
    ("it b = n1", "ok") ∷
    ("let p = h2", "ok") ∷
    ("q1", "[0, 2]") ∷
    ("it i = p.transform(plus(1))", "ok") ∷
    ("f1.remove", "IllegalStateException") ∷
    ("q1.indexOf(0)", "0") ∷
    ("p2.add(a)", "true") ∷
    ("q1.sub(0, 2).containsAll(p)", "false") ∷
    ("q1.containsAll(v)", "true") ∷
    ("it h1 = p2.sub(1, 3)", "ok") ∷
    ("let o2 = p.sub(1, 3)", "ok") ∷
    ("let e2 = n", "ok") ∷
    ("it w2 = o2", "ok") ∷
    ("k1.unmodifiable.clear", "UnsupportedOperationException") ∷
    ("let g1 = e2.unmodifiable.partition(1)", "ok") ∷
    ("let j = n.reverse.partition(2).get(-1)", "IndexOutOfBoundsException") ∷
    ("e2.containsAll(h2)", "true") ∷
    ("h1.next", "2") ∷
    ("q1.removeAt(1)", "2") ∷
    ("g1.size", "2") ∷
    ("let j = o2.unmodifiable", "ok") ∷
    ("let p2 = j.sub(0, 4).sub(1, 2)", "ConcurrentModificationException") ∷
    ("j.indexOf(0)", "ConcurrentModificationException") ∷
    ("n1.get(1).size", "?call") ∷
    ("b.hasNext", "ConcurrentModificationException") ∷
    ("i.next", "ConcurrentModificationException") ∷
    ("h2.addAll(v)", "true") ∷
    ("j.add(3)", "UnsupportedOperationException") ∷
    ("v.addAll(q1)", "true") ∷
    ("let s2 = k1.sub(0, 0)", "ok") ∷
    ("o2.transform(plus(1)).add(1)", "UnsupportedOperationException") ∷
    ("s2.add(0)", "true") ∷
    ("let d = g1", "ok") ∷
    ("w2.remove", "IllegalStateException") ∷
    ("let r2 = v", "ok") ∷
    ("w2.next", "ConcurrentModificationException") ∷
    ("e2", "[0, 0, a, 0, a, 0, a, 0, a]") ∷
    ("d2.next", "ConcurrentModificationException") ∷
    ("d2.next", "ConcurrentModificationException") ∷
    ("it x = n1", "ok") ∷
    ("it d1 = n1.reverse", "ok") ∷
    ("w2.next", "ConcurrentModificationException") ∷
    ("let r = j.reverse.transform(plus(1))", "ok") ∷
    ("let i1 = r", "ok") ∷
    ("i1.clear", "UnsupportedOperationException") ∷
    ("i1.reverse.transform(plus(1)).add(ab)", "UnsupportedOperationException") ∷
    ("let s2 = i1.transform(plus(1))", "ok") ∷
    ("h1.remove", "ConcurrentModificationException") ∷
    ("q1.add(1, 3)", "ok") ∷
    ("n.clear", "ok") ∷
    ("it f = o2", "ConcurrentModificationException") ∷
    ("i1.add(b)", "UnsupportedOperationException") ∷
    ("v.remove(a)", "false") ∷
    ("b.next", "ConcurrentModificationException") ∷ [])
unfolding literally
script_3 = refl
