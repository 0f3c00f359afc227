-- Random scripts with long paths.
use Rattle.std.specs.Prelude.{[], ◌∷◌}
use Rattle.std.proofs.Common.{refl}
use Rattle.machine_examples.specs.Scripts.{Runs, literally}

script_1 : Runs (
    ("new s ArrayList", "ok") ∷
    ("new d1 LinkedHashMap", "ok") ∷
    ("s.put(a, 1)", "?call") ∷
    ("s.size", "0") ∷
    ("d1.size", "0") ∷
    ("d1.unmodifiable", "{}") ∷
    ("let b2 = s.reverse.reverse.reverse.reverse.reverse.reverse.reverse.reverse.reverse.reverse.reverse.reverse.reverse.reverse.reverse.reverse", "ok") ∷
    ("it g1 = b2.sub(0, 0).sub(0, 0).sub(0, 0).sub(0, 0).sub(0, 0).sub(0, 0).sub(0, 0).sub(0, 0).sub(0, 0).sub(0, 0).sub(0, 0).sub(0, 0)", "ok") ∷
    ("b2.put(a, 1)", "?call") ∷
    ("b2.unmodifiable", "[]") ∷
    ("let r = s.unmodifiable", "ok") ∷
    ("let i1 = b2.sub(0, 0)", "ok") ∷
    ("b2.add(a)", "true") ∷
    ("it d = s.partition(1).get(0).partition(1).get(0).partition(1).get(0).partition(1).get(0).partition(1).get(0).partition(1).get(0).partition(1).get(0)", "ok") ∷
    ("let v = d1.unmodifiable.unmodifiable.unmodifiable", "ok") ∷
    ("d1.put(a, 1)", "null") ∷
    ("let b = i1.sum(r).sum(r).sum(r).sum(r).sum(r).sum(r).sum(r)", "?call") ∷
    ("r.unmodifiable", "[a]") ∷
    ("let h1 = s.unmodifiable.unmodifiable.unmodifiable.unmodifiable.unmodifiable.unmodifiable.unmodifiable", "ok") ∷
    ("b2.unmodifiable", "[a]") ∷
    ("let h = b2.transpose.transpose.transpose", "?call") ∷
    ("let e1 = b2.unmodifiable", "ok") ∷
    ("let y1 = i1.reverse", "ok") ∷
    ("b2.unmodifiable", "[a]") ∷
    ("let i1 = s.sub(0, 0)", "ok") ∷
    ("let w1 = r.partition(1).get(0).partition(1).get(0).partition(1).get(0)", "ok") ∷
    ("let y2 = h1.partition(1).get(0).partition(1).get(0).partition(1).get(0).partition(1).get(0).partition(1).get(0).partition(1).get(0).partition(1).get(0).partition(1).get(0).partition(1).get(0).partition(1).get(0).partition(1).get(0).partition(1).get(0).partition(1).get(0).partition(1).get(0).partition(1).get(0).partition(1).get(0)", "?limit") ∷
    ("y1.unmodifiable", "ConcurrentModificationException") ∷
    ("h1.add(a)", "UnsupportedOperationException") ∷
    ("i1.add(a)", "true") ∷
    ("b2.size", "2") ∷
    ("w1.add(a)", "UnsupportedOperationException") ∷
    ("b2.size", "2") ∷
    ("h1.size", "2") ∷
    ("let o2 = r.partition(1).get(0).partition(1).get(0).partition(1).get(0).partition(1).get(0).partition(1).get(0).partition(1).get(0).partition(1).get(0).partition(1).get(0).partition(1).get(0).partition(1).get(0).partition(1).get(0).partition(1).get(0).partition(1).get(0).partition(1).get(0).partition(1).get(0).partition(1).get(0)", "?limit") ∷
    ("let l2 = i1.asMap.filterKeys(any).get(a).asMap.filterKeys(any).get(a).asMap.filterKeys(any).get(a).asMap.filterKeys(any).get(a).asMap.filterKeys(any).get(a).asMap.filterKeys(any).get(a).asMap.filterKeys(any).get(a).asMap.filterKeys(any).get(a).asMap.filterKeys(any).get(a).asMap.filterKeys(any).get(a).asMap.filterKeys(any).get(a).asMap.filterKeys(any).get(a)", "?call") ∷
    ("e1.unmodifiable", "[a, a]") ∷
    ("let h1 = b2.sub(0, 0)", "ok") ∷
    ("it f1 = w1.reverse.reverse.reverse.reverse.reverse.reverse.reverse", "ConcurrentModificationException") ∷
    ("s.add(1)", "true") ∷
    ("let f = v.filterKeys(any)", "ok") ∷
    ("it k2 = s.partition(1).get(0).partition(1).get(0).partition(1).get(0).partition(1).get(0).partition(1).get(0).partition(1).get(0).partition(1).get(0).partition(1).get(0).partition(1).get(0).partition(1).get(0).partition(1).get(0).partition(1).get(0).partition(1).get(0).partition(1).get(0).partition(1).get(0).partition(1).get(0)", "ok") ∷
    ("let p1 = v.unmodifiable", "ok") ∷
    ("e1.add(a)", "UnsupportedOperationException") ∷
    ("let a1 = w1.unmodifiable.unmodifiable.unmodifiable", "ok") ∷
    ("let n = a1.unmodifiable", "ok") ∷
    ("s.size", "3") ∷
    ("s.add(a)", "true") ∷
    ("v.put(a, 1)", "UnsupportedOperationException") ∷
    ("h1.unmodifiable", "ConcurrentModificationException") ∷
    ("let z1 = w1.unmodifiable", "ok") ∷
    ("it x2 = r.unmodifiable.unmodifiable.unmodifiable.unmodifiable.unmodifiable.unmodifiable.unmodifiable.unmodifiable.unmodifiable.unmodifiable.unmodifiable.unmodifiable.unmodifiable.unmodifiable.unmodifiable.unmodifiable", "ok") ∷
    ("s.add(1)", "true") ∷
    ("let r = r.reverse.reverse.reverse.reverse.reverse.reverse.reverse.reverse.reverse.reverse.reverse.reverse.reverse.reverse.reverse.reverse", "ok") ∷
    ("b2.unmodifiable", "[a, a, 1, a, 1]") ∷
    ("s.add(a)", "true") ∷
    ("let r = i1.unmodifiable.unmodifiable.unmodifiable", "ok") ∷
    ("h1.add(a)", "ConcurrentModificationException") ∷
    ("w1.add(1)", "UnsupportedOperationException") ∷
    ("let i2 = p1.unmodifiable.unmodifiable.unmodifiable.unmodifiable.unmodifiable.unmodifiable.unmodifiable.unmodifiable.unmodifiable.unmodifiable.unmodifiable.unmodifiable", "ok") ∷
    ("let b2 = w1.sub(0, 0).sub(0, 0).sub(0, 0).sub(0, 0).sub(0, 0).sub(0, 0).sub(0, 0)", "ConcurrentModificationException") ∷
    ("let s = e1.partition(1).get(0).partition(1).get(0).partition(1).get(0).partition(1).get(0).partition(1).get(0).partition(1).get(0).partition(1).get(0)", "ok") ∷
    ("h1.size", "ConcurrentModificationException") ∷
    ("let v2 = d1.unmodifiable", "ok") ∷
    ("let i2 = b2.unmodifiable.unmodifiable.unmodifiable.unmodifiable.unmodifiable.unmodifiable.unmodifiable", "ok") ∷
    ("it s1 = y1.unmodifiable.unmodifiable.unmodifiable.unmodifiable.unmodifiable.unmodifiable.unmodifiable.unmodifiable.unmodifiable.unmodifiable.unmodifiable.unmodifiable.unmodifiable.unmodifiable.unmodifiable.unmodifiable", "?limit") ∷
    ("y1.add(1)", "ConcurrentModificationException") ∷
    ("z1.unmodifiable", "ConcurrentModificationException") ∷
    ("let f = n.unmodifiable.unmodifiable.unmodifiable.unmodifiable.unmodifiable.unmodifiable.unmodifiable.unmodifiable.unmodifiable.unmodifiable.unmodifiable.unmodifiable", "ok") ∷
    ("let b1 = z1.reverse.reverse.reverse.reverse.reverse.reverse.reverse", "ok") ∷
    ("let y2 = e1.partition(1).get(0).partition(1).get(0).partition(1).get(0).partition(1).get(0).partition(1).get(0).partition(1).get(0).partition(1).get(0).partition(1).get(0).partition(1).get(0).partition(1).get(0).partition(1).get(0).partition(1).get(0).partition(1).get(0).partition(1).get(0).partition(1).get(0).partition(1).get(0)", "?limit") ∷
    ("let m2 = e1.reverse.reverse.reverse.reverse.reverse.reverse.reverse.reverse.reverse.reverse.reverse.reverse.reverse.reverse.reverse.reverse", "?limit") ∷
    ("let o1 = r.partition(1).get(0).partition(1).get(0).partition(1).get(0).partition(1).get(0).partition(1).get(0).partition(1).get(0).partition(1).get(0).partition(1).get(0).partition(1).get(0).partition(1).get(0).partition(1).get(0).partition(1).get(0)", "ConcurrentModificationException") ∷
    ("f.put(a, 1)", "?call") ∷
    ("n.add(1)", "UnsupportedOperationException") ∷
    ("let q2 = r.reverse.reverse.reverse.reverse.reverse.reverse.reverse.reverse.reverse.reverse.reverse.reverse.reverse.reverse.reverse.reverse", "ok") ∷
    ("it d2 = w1.reverse.reverse.reverse.reverse.reverse.reverse.reverse.reverse.reverse.reverse.reverse.reverse.reverse.reverse.reverse.reverse", "ConcurrentModificationException") ∷
    ("it b2 = b2.unmodifiable.unmodifiable.unmodifiable.unmodifiable.unmodifiable.unmodifiable.unmodifiable.unmodifiable.unmodifiable.unmodifiable.unmodifiable.unmodifiable", "ok") ∷
    ("q2.unmodifiable", "ConcurrentModificationException") ∷
    ("let k = a1.sub(0, 0).sub(0, 0).sub(0, 0).sub(0, 0).sub(0, 0).sub(0, 0).sub(0, 0).sub(0, 0).sub(0, 0).sub(0, 0).sub(0, 0).sub(0, 0).sub(0, 0).sub(0, 0).sub(0, 0).sub(0, 0)", "ConcurrentModificationException") ∷ [])
unfolding literally
script_1 = refl

script_2 : Runs (
    ("new b DirectedValueGraph", "ok") ∷
    ("new l LinkedHashSet", "ok") ∷
    ("let v1 = b.transpose.transpose.transpose.transpose.transpose.transpose.transpose.transpose.transpose.transpose.transpose.transpose", "ok") ∷
    ("l.size", "0") ∷
    ("v1.unmodifiable", "nodes: [], edges: {}") ∷
    ("let l1 = b.unmodifiable", "ok") ∷
    ("let e = l.filterKeys(any).filterKeys(any).filterKeys(any)", "?call") ∷
    ("l.add(a)", "true") ∷
    ("l1.unmodifiable", "nodes: [], edges: {}") ∷
    ("let b = v1.transpose", "ok") ∷
    ("let w2 = b.unmodifiable.unmodifiable.unmodifiable", "ok") ∷
    ("w2.putEdgeValue(a, b, 1)", "UnsupportedOperationException") ∷
    ("let e2 = w2.unmodifiable.unmodifiable.unmodifiable.unmodifiable.unmodifiable.unmodifiable.unmodifiable", "ok") ∷
    ("l.unmodifiable", "[a]") ∷
    ("let f1 = e2.unmodifiable.unmodifiable.unmodifiable", "ok") ∷
    ("l.size", "1") ∷
    ("w2.unmodifiable", "nodes: [], edges: {}") ∷
    ("let y = l1.unmodifiable", "ok") ∷
    ("let k = l.unmodifiable", "ok") ∷
    ("let v2 = k.unmodifiable", "ok") ∷
    ("let n2 = y.unmodifiable.unmodifiable.unmodifiable.unmodifiable.unmodifiable.unmodifiable.unmodifiable", "ok") ∷
    ("l.add(a)", "false") ∷
    ("k.add(1)", "UnsupportedOperationException") ∷
    ("v2.unmodifiable", "[a]") ∷
    ("let n = y.unmodifiable.unmodifiable.unmodifiable", "ok") ∷
    ("k.add(a)", "UnsupportedOperationException") ∷
    ("let n1 = n.unmodifiable.unmodifiable.unmodifiable.unmodifiable.unmodifiable.unmodifiable.unmodifiable", "ok") ∷
    ("y.unmodifiable", "nodes: [], edges: {}") ∷
    ("v2.size", "1") ∷
    ("v2.add(a)", "UnsupportedOperationException") ∷
    ("let f2 = l.unmodifiable.unmodifiable.unmodifiable.unmodifiable.unmodifiable.unmodifiable.unmodifiable.unmodifiable.unmodifiable.unmodifiable.unmodifiable.unmodifiable.unmodifiable.unmodifiable.unmodifiable.unmodifiable", "ok") ∷
    ("let x1 = e2.unmodifiable.unmodifiable.unmodifiable", "ok") ∷
    ("it o = f2.unmodifiable.unmodifiable.unmodifiable", "ok") ∷
    ("let z1 = b.unmodifiable.unmodifiable.unmodifiable.unmodifiable.unmodifiable.unmodifiable.unmodifiable.unmodifiable.unmodifiable.unmodifiable.unmodifiable.unmodifiable", "ok") ∷
    ("let r = e2.transpose.transpose.transpose.transpose.transpose.transpose.transpose.transpose.transpose.transpose.transpose.transpose", "?limit") ∷
    ("let n2 = w2.partition(1).get(0).partition(1).get(0).partition(1).get(0).partition(1).get(0).partition(1).get(0).partition(1).get(0).partition(1).get(0).partition(1).get(0).partition(1).get(0).partition(1).get(0).partition(1).get(0).partition(1).get(0).partition(1).get(0).partition(1).get(0).partition(1).get(0).partition(1).get(0)", "?call") ∷
    ("n1.putEdgeValue(a, b, 1)", "UnsupportedOperationException") ∷
    ("let f = y.transpose.transpose.transpose", "ok") ∷
    ("let y = z1.unmodifiable.unmodifiable.unmodifiable", "ok") ∷
    ("let j1 = k.unmodifiable.unmodifiable.unmodifiable", "ok") ∷
    ("let g = l1.unmodifiable.unmodifiable.unmodifiable", "ok") ∷
    ("f2.unmodifiable", "[a]") ∷
    ("let z1 = n.unmodifiable", "ok") ∷
    ("let m = j1.unmodifiable.unmodifiable.unmodifiable", "ok") ∷
    ("let y2 = x1.partition(1).get(0).partition(1).get(0).partition(1).get(0).partition(1).get(0).partition(1).get(0).partition(1).get(0).partition(1).get(0).partition(1).get(0).partition(1).get(0).partition(1).get(0).partition(1).get(0).partition(1).get(0).partition(1).get(0).partition(1).get(0).partition(1).get(0).partition(1).get(0)", "?call") ∷
    ("let a2 = n2.unmodifiable.unmodifiable.unmodifiable", "ok") ∷
    ("g.putEdgeValue(a, b, 1)", "UnsupportedOperationException") ∷
    ("let a2 = x1.unmodifiable.unmodifiable.unmodifiable.unmodifiable.unmodifiable.unmodifiable.unmodifiable.unmodifiable.unmodifiable.unmodifiable.unmodifiable.unmodifiable.unmodifiable.unmodifiable.unmodifiable.unmodifiable", "?limit") ∷
    ("it o = f1.reverse.reverse.reverse.reverse.reverse.reverse.reverse", "?call") ∷
    ("m.unmodifiable", "[a]") ∷
    ("let d1 = v1.unmodifiable.unmodifiable.unmodifiable.unmodifiable.unmodifiable.unmodifiable.unmodifiable.unmodifiable.unmodifiable.unmodifiable.unmodifiable.unmodifiable.unmodifiable.unmodifiable.unmodifiable.unmodifiable", "ok") ∷
    ("let k2 = v2.complement.complement.complement.complement.complement.complement.complement", "?call") ∷
    ("l.size", "1") ∷
    ("m.add(a)", "UnsupportedOperationException") ∷
    ("v2.unmodifiable", "[a]") ∷
    ("v2.unmodifiable", "[a]") ∷
    ("let n2 = f.unmodifiable.unmodifiable.unmodifiable.unmodifiable.unmodifiable.unmodifiable.unmodifiable.unmodifiable.unmodifiable.unmodifiable.unmodifiable.unmodifiable.unmodifiable.unmodifiable.unmodifiable.unmodifiable", "ok") ∷
    ("let v2 = m.unmodifiable.unmodifiable.unmodifiable.unmodifiable.unmodifiable.unmodifiable.unmodifiable", "ok") ∷
    ("let i1 = j1.unmodifiable.unmodifiable.unmodifiable", "ok") ∷
    ("let r2 = i1.unmodifiable.unmodifiable.unmodifiable.unmodifiable.unmodifiable.unmodifiable.unmodifiable.unmodifiable.unmodifiable.unmodifiable.unmodifiable.unmodifiable", "ok") ∷
    ("let h = l1.unmodifiable", "ok") ∷
    ("j1.add(a)", "UnsupportedOperationException") ∷
    ("k.size", "1") ∷
    ("v1.unmodifiable", "nodes: [], edges: {}") ∷
    ("it z2 = v1.unmodifiable.unmodifiable.unmodifiable", "?call") ∷
    ("let p1 = l1.transpose.transpose.transpose.transpose.transpose.transpose.transpose.transpose.transpose.transpose.transpose.transpose.transpose.transpose.transpose.transpose", "ok") ∷
    ("let u = n1.unmodifiable", "ok") ∷
    ("let a1 = l1.unmodifiable.unmodifiable.unmodifiable.unmodifiable.unmodifiable.unmodifiable.unmodifiable", "ok") ∷
    ("let w2 = x1.transpose.transpose.transpose.transpose.transpose.transpose.transpose", "?limit") ∷
    ("let k1 = a1.sum(n2)", "?call") ∷
    ("e2.putEdgeValue(a, b, 1)", "UnsupportedOperationException") ∷
    ("let e = a1.partition(1).get(0).partition(1).get(0).partition(1).get(0).partition(1).get(0).partition(1).get(0).partition(1).get(0).partition(1).get(0).partition(1).get(0).partition(1).get(0).partition(1).get(0).partition(1).get(0).partition(1).get(0)", "?call") ∷
    ("j1.unmodifiable", "[a]") ∷
    ("let m1 = u.asMap.filterKeys(any).get(a).asMap.filterKeys(any).get(a).asMap.filterKeys(any).get(a).asMap.filterKeys(any).get(a).asMap.filterKeys(any).get(a).asMap.filterKeys(any).get(a).asMap.filterKeys(any).get(a).asMap.filterKeys(any).get(a).asMap.filterKeys(any).get(a).asMap.filterKeys(any).get(a).asMap.filterKeys(any).get(a).asMap.filterKeys(any).get(a).asMap.filterKeys(any).get(a).asMap.filterKeys(any).get(a).asMap.filterKeys(any).get(a).asMap.filterKeys(any).get(a)", "?call") ∷
    ("m.put(a, 1)", "?call") ∷
    ("u.putEdgeValue(a, b, 1)", "UnsupportedOperationException") ∷
    ("let w1 = z1.unmodifiable.unmodifiable.unmodifiable.unmodifiable.unmodifiable.unmodifiable.unmodifiable", "ok") ∷
    ("p1.putEdgeValue(a, b, 1)", "UnsupportedOperationException") ∷
    ("p1.unmodifiable", "nodes: [], edges: {}") ∷
    ("let l2 = l1.unmodifiable", "ok") ∷ [])
unfolding literally
script_2 = refl

script_3 : Runs (
    ("new s2 ArrayList", "ok") ∷
    ("new l2 ArrayList", "ok") ∷
    ("l2.add(a)", "true") ∷
    ("s2.size", "0") ∷
    ("s2.unmodifiable", "[]") ∷
    ("it c1 = s2.unmodifiable.unmodifiable.unmodifiable", "ok") ∷
    ("let k1 = s2.sub(0, 0).sub(0, 0).sub(0, 0)", "ok") ∷
    ("l2.size", "1") ∷
    ("let n2 = k1.unmodifiable.unmodifiable.unmodifiable.unmodifiable.unmodifiable.unmodifiable.unmodifiable.unmodifiable.unmodifiable.unmodifiable.unmodifiable.unmodifiable.unmodifiable.unmodifiable.unmodifiable.unmodifiable", "ok") ∷
    ("l2.add(a)", "true") ∷
    ("k1.unmodifiable", "[]") ∷
    ("s2.add(a)", "true") ∷
    ("it b2 = s2.unmodifiable", "ok") ∷
    ("let m2 = s2.unmodifiable.unmodifiable.unmodifiable.unmodifiable.unmodifiable.unmodifiable.unmodifiable.unmodifiable.unmodifiable.unmodifiable.unmodifiable.unmodifiable.unmodifiable.unmodifiable.unmodifiable.unmodifiable", "ok") ∷
    ("it t2 = s2.unmodifiable.unmodifiable.unmodifiable.unmodifiable.unmodifiable.unmodifiable.unmodifiable.unmodifiable.unmodifiable.unmodifiable.unmodifiable.unmodifiable", "ok") ∷
    ("let z1 = n2.reverse.reverse.reverse.reverse.reverse.reverse.reverse.reverse.reverse.reverse.reverse.reverse", "ok") ∷
    ("z1.unmodifiable", "ConcurrentModificationException") ∷
    ("let k = s2.filterKeys(any).filterKeys(any).filterKeys(any).filterKeys(any).filterKeys(any).filterKeys(any).filterKeys(any).filterKeys(any).filterKeys(any).filterKeys(any).filterKeys(any).filterKeys(any).filterKeys(any).filterKeys(any).filterKeys(any).filterKeys(any)", "?call") ∷
    ("let b2 = s2.sub(0, 0).sub(0, 0).sub(0, 0).sub(0, 0).sub(0, 0).sub(0, 0).sub(0, 0).sub(0, 0).sub(0, 0).sub(0, 0).sub(0, 0).sub(0, 0)", "ok") ∷
    ("let r = m2.unmodifiable.unmodifiable.unmodifiable.unmodifiable.unmodifiable.unmodifiable.unmodifiable.unmodifiable.unmodifiable.unmodifiable.unmodifiable.unmodifiable.unmodifiable.unmodifiable.unmodifiable.unmodifiable", "ok") ∷
    ("let f = b2.unmodifiable.unmodifiable.unmodifiable", "ok") ∷
    ("r.add(1)", "UnsupportedOperationException") ∷
    ("let w2 = k1.sub(0, 0).sub(0, 0).sub(0, 0).sub(0, 0).sub(0, 0).sub(0, 0).sub(0, 0)", "ConcurrentModificationException") ∷
    ("it w2 = z1.unmodifiable.unmodifiable.unmodifiable", "?limit") ∷
    ("n2.add(a)", "UnsupportedOperationException") ∷
    ("let g1 = b2.reverse", "ok") ∷
    ("let i = n2.unmodifiable.unmodifiable.unmodifiable", "ok") ∷
    ("s2.add(a)", "true") ∷
    ("it m = b2.reverse.reverse.reverse.reverse.reverse.reverse.reverse.reverse.reverse.reverse.reverse.reverse", "ConcurrentModificationException") ∷
    ("let o2 = f.unmodifiable.unmodifiable.unmodifiable.unmodifiable.unmodifiable.unmodifiable.unmodifiable", "ok") ∷
    ("let v1 = i.partition(1).get(0).partition(1).get(0).partition(1).get(0).partition(1).get(0).partition(1).get(0).partition(1).get(0).partition(1).get(0)", "ConcurrentModificationException") ∷
    ("it j = g1.partition(1).get(0).partition(1).get(0).partition(1).get(0).partition(1).get(0).partition(1).get(0).partition(1).get(0).partition(1).get(0).partition(1).get(0).partition(1).get(0).partition(1).get(0).partition(1).get(0).partition(1).get(0)", "ConcurrentModificationException") ∷
    ("o2.unmodifiable", "ConcurrentModificationException") ∷
    ("m2.size", "2") ∷
    ("r.add(a)", "UnsupportedOperationException") ∷
    ("let f2 = k1.partition(1).get(0).partition(1).get(0).partition(1).get(0).partition(1).get(0).partition(1).get(0).partition(1).get(0).partition(1).get(0)", "ConcurrentModificationException") ∷
    ("let b2 = k1.reverse.reverse.reverse.reverse.reverse.reverse.reverse.reverse.reverse.reverse.reverse.reverse.reverse.reverse.reverse.reverse", "ok") ∷
    ("o2.add(1)", "UnsupportedOperationException") ∷
    ("b2.size", "ConcurrentModificationException") ∷
    ("f.size", "ConcurrentModificationException") ∷
    ("r.add(1)", "UnsupportedOperationException") ∷
    ("it q = f.reverse.reverse.reverse.reverse.reverse.reverse.reverse.reverse.reverse.reverse.reverse.reverse.reverse.reverse.reverse.reverse", "ConcurrentModificationException") ∷
    ("it f = o2.sub(0, 0)", "ConcurrentModificationException") ∷
    ("let h1 = s2.filterKeys(any).filterKeys(any).filterKeys(any).filterKeys(any).filterKeys(any).filterKeys(any).filterKeys(any).filterKeys(any).filterKeys(any).filterKeys(any).filterKeys(any).filterKeys(any)", "?call") ∷
    ("let f1 = f.unmodifiable", "ok") ∷
    ("let i1 = i.sub(0, 0)", "ConcurrentModificationException") ∷
    ("let v = s2.sub(0, 0).sub(0, 0).sub(0, 0).sub(0, 0).sub(0, 0).sub(0, 0).sub(0, 0).sub(0, 0).sub(0, 0).sub(0, 0).sub(0, 0).sub(0, 0)", "ok") ∷
    ("r.size", "2") ∷
    ("let o = b2.unmodifiable.unmodifiable.unmodifiable.unmodifiable.unmodifiable.unmodifiable.unmodifiable.unmodifiable.unmodifiable.unmodifiable.unmodifiable.unmodifiable", "ok") ∷
    ("let a = i.partition(1).get(0)", "ConcurrentModificationException") ∷
    ("let d1 = n2.unmodifiable.unmodifiable.unmodifiable.unmodifiable.unmodifiable.unmodifiable.unmodifiable.unmodifiable.unmodifiable.unmodifiable.unmodifiable.unmodifiable", "ok") ∷
    ("k1.add(1)", "ConcurrentModificationException") ∷
    ("it q2 = s2.reverse", "ok") ∷
    ("let z = o2.unmodifiable.unmodifiable.unmodifiable.unmodifiable.unmodifiable.unmodifiable.unmodifiable.unmodifiable.unmodifiable.unmodifiable.unmodifiable.unmodifiable.unmodifiable.unmodifiable.unmodifiable.unmodifiable", "?limit") ∷
    ("it h2 = s2.unmodifiable", "ok") ∷
    ("let j2 = n2.sub(0, 0).sub(0, 0).sub(0, 0).sub(0, 0).sub(0, 0).sub(0, 0).sub(0, 0).sub(0, 0).sub(0, 0).sub(0, 0).sub(0, 0).sub(0, 0)", "ConcurrentModificationException") ∷
    ("let u1 = s2.unmodifiable.unmodifiable.unmodifiable", "ok") ∷
    ("i.size", "ConcurrentModificationException") ∷
    ("o.unmodifiable", "ConcurrentModificationException") ∷
    ("let b = s2.unmodifiable", "ok") ∷
    ("let f = m2.transpose.transpose.transpose.transpose.transpose.transpose.transpose.transpose.transpose.transpose.transpose.transpose", "?call") ∷
    ("let c2 = u1.partition(1).get(0).partition(1).get(0).partition(1).get(0).partition(1).get(0).partition(1).get(0).partition(1).get(0).partition(1).get(0).partition(1).get(0).partition(1).get(0).partition(1).get(0).partition(1).get(0).partition(1).get(0)", "ok") ∷
    ("it p = u1.unmodifiable.unmodifiable.unmodifiable", "ok") ∷
    ("let x2 = k1.unmodifiable.unmodifiable.unmodifiable.unmodifiable.unmodifiable.unmodifiable.unmodifiable.unmodifiable.unmodifiable.unmodifiable.unmodifiable.unmodifiable", "ok") ∷
    ("b.add(1)", "UnsupportedOperationException") ∷
    ("it b = m2.partition(1).get(0).partition(1).get(0).partition(1).get(0)", "ok") ∷
    ("let r = z1.unmodifiable.unmodifiable.unmodifiable.unmodifiable.unmodifiable.unmodifiable.unmodifiable", "?limit") ∷
    ("z1.add(1)", "UnsupportedOperationException") ∷
    ("l2.add(a)", "true") ∷
    ("let s2 = g1.sub(0, 0)", "ConcurrentModificationException") ∷
    ("let s1 = r.sub(0, 0).sub(0, 0).sub(0, 0).sub(0, 0).sub(0, 0).sub(0, 0).sub(0, 0)", "?limit") ∷
    ("let b = u1.unmodifiable.unmodifiable.unmodifiable.unmodifiable.unmodifiable.unmodifiable.unmodifiable.unmodifiable.unmodifiable.unmodifiable.unmodifiable.unmodifiable.unmodifiable.unmodifiable.unmodifiable.unmodifiable", "ok") ∷
    ("let c2 = n2.sum(m2).sum(m2).sum(m2).sum(m2).sum(m2).sum(m2).sum(m2).sum(m2).sum(m2).sum(m2).sum(m2).sum(m2).sum(m2).sum(m2).sum(m2).sum(m2)", "?call") ∷
    ("let t = m2.reverse.reverse.reverse.reverse.reverse.reverse.reverse", "ok") ∷
    ("let n1 = r.sub(0, 0).sub(0, 0).sub(0, 0).sub(0, 0).sub(0, 0).sub(0, 0).sub(0, 0).sub(0, 0).sub(0, 0).sub(0, 0).sub(0, 0).sub(0, 0).sub(0, 0).sub(0, 0).sub(0, 0).sub(0, 0)", "?limit") ∷
    ("t.add(1)", "UnsupportedOperationException") ∷
    ("let q2 = o2.unmodifiable.unmodifiable.unmodifiable", "ok") ∷
    ("r.unmodifiable", "?limit") ∷
    ("it t2 = r.unmodifiable.unmodifiable.unmodifiable.unmodifiable.unmodifiable.unmodifiable.unmodifiable", "?limit") ∷
    ("let d2 = u1.sub(0, 0).sub(0, 0).sub(0, 0).sub(0, 0).sub(0, 0).sub(0, 0).sub(0, 0).sub(0, 0).sub(0, 0).sub(0, 0).sub(0, 0).sub(0, 0)", "ok") ∷ [])
unfolding literally
script_3 = refl
