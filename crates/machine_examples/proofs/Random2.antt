-- Random scripts over all shapes.
use Rattle.std.specs.Prelude.{[], ◌∷◌}
use Rattle.std.proofs.Common.{refl}
use Rattle.machine_examples.specs.Scripts.{Runs, literally}

script_200 : Runs (
    ("new a TreeBasedTable", "ok") ∷
    ("a.values.unmodifiable.filter(not(isInt)).addAll(zz)", "?name") ∷
    ("let e = a", "ok") ∷
    ("a.cellSet.remove(3, c, abc)", "false") ∷
    ("a.put(ab, -1, 2)", "null") ∷
    ("e.put(4, c, -1)", "null") ∷
    ("it e = e.columnMap.keySet", "ok") ∷
    ("a.put(0, 4, abc)", "null") ∷
    ("a.containsColumn(3)", "false") ∷
    ("a", "{0={4=abc}, 4={c=-1}, ab={-1=2}}") ∷
    ("let a = e", "?call") ∷
    ("new e LinkedHashMap", "ok") ∷
    ("let o = e", "ok") ∷
    ("a.transpose.put(1, b, b)", "null") ∷
    ("o", "{}") ∷
    ("o.filterValues(not(isInt)).values.remove(2)", "false") ∷
    ("it o = a", "?call") ∷
    ("let b = o.immutable", "ok") ∷
    ("b.keySet.unmodifiable.add(b)", "UnsupportedOperationException") ∷
    ("b.lastKey", "?call") ∷
    ("let e = a.cellSet", "ok") ∷
    ("b.putAll(b)", "UnsupportedOperationException") ∷
    ("b.filterValues(starts(a)).keySet.addAll(zz)", "?name") ∷
    ("let l = o.filterKeys(starts(a)).filterEntries(not(value(even))).forMap.filterEntries(and(key(even), value(or(even, gt(ab)))))", "ok") ∷
    ("l.keySet.filter(and(isInt, or(odd, any))).transform(neg).add(-1)", "UnsupportedOperationException") ∷
    ("let c = e", "ok") ∷
    ("let m = e", "ok") ∷
    ("l.containsKey(2)", "false") ∷
    ("e.size", "4") ∷
    ("o", "{}") ∷
    ("let o = e", "ok") ∷
    ("let f = o", "ok") ∷
    ("let g = m", "ok") ∷
    ("m.remove(b, 3, 0)", "false") ∷
    ("let m = a.row(ab)", "ok") ∷
    ("o.isEmpty", "false") ∷
    ("f.remove(4, 0, abc)", "false") ∷
    ("let m = b", "ok") ∷
    ("c.clear", "ok") ∷
    ("let e = f", "ok") ∷
    ("it m = c", "ok") ∷
    ("let d = b.filterKeys(lt(1)).filterEntries(key(and(any, isInt))).filterValues(any).immutable", "ok") ∷
    ("o.remove(abc, a, b)", "false") ∷
    ("c", "[]") ∷
    ("let m = e", "ok") ∷
    ("d.get(abc)", "null") ∷
    ("o.clear", "ok") ∷
    ("it c = m", "ok") ∷
    ("c.next", "NoSuchElementException") ∷
    ("e.contains(4, abc, 1)", "false") ∷
    ("let i = a.rowMap", "ok") ∷
    ("a.rowMap.isEmpty", "true") ∷
    ("i.containsKey(4)", "false") ∷
    ("m.remove(0, c, 3)", "false") ∷
    ("o", "[]") ∷
    ("m.contains(c, 1, -1)", "false") ∷
    ("c.next", "NoSuchElementException") ∷
    ("let a = d.filterEntries(value(isInt)).unmodifiable.transformValues(times(1))", "ok") ∷
    ("m.clear", "ok") ∷
    ("i.filterKeys(or(odd, any)).entrySet.clear", "ok") ∷ [])
unfolding literally
script_200 = refl

script_201 : Runs (
    ("new b ImmutableListBuilder", "ok") ∷
    ("let p = b", "?call") ∷
    ("b.add(0)", "ok") ∷
    ("b.add(abc)", "ok") ∷
    ("b", "?call") ∷
    ("let j = b", "?call") ∷
    ("let b = b", "?call") ∷
    ("it e = b", "?call") ∷
    ("it k = b", "?call") ∷
    ("b.add(ab)", "ok") ∷
    ("let f = b", "?call") ∷
    ("it l = b", "?call") ∷
    ("b.add(-1)", "ok") ∷
    ("b.add(3)", "ok") ∷
    ("let k = b", "?call") ∷
    ("b", "?call") ∷
    ("b", "?call") ∷
    ("b", "?call") ∷
    ("let m = b", "?call") ∷
    ("b.add(3)", "ok") ∷
    ("b", "?call") ∷
    ("b.add(a)", "ok") ∷
    ("let d = b.build", "ok") ∷
    ("d.size", "7") ∷
    ("let j = b.build", "ok") ∷
    ("j.filter(even).retainAll(j)", "UnsupportedOperationException") ∷
    ("b.add(2)", "ok") ∷
    ("b.add(b)", "ok") ∷
    ("it a = b", "?call") ∷
    ("j.indexOf(b)", "-1") ∷
    ("j.add(2, b)", "UnsupportedOperationException") ∷
    ("b.add(b)", "ok") ∷
    ("let f = d", "ok") ∷
    ("j.filter(starts(a)).clear", "UnsupportedOperationException") ∷
    ("b.add(c)", "ok") ∷
    ("b.add(c)", "ok") ∷
    ("j", "[0, abc, ab, -1, 3, 3, a]") ∷
    ("d.filter(any).contains(-1)", "true") ∷
    ("b.add(a)", "ok") ∷
    ("b.add(1)", "ok") ∷
    ("d.unmodifiable.sub(2, 2).reverse.addAll(j)", "UnsupportedOperationException") ∷
    ("b.add(4)", "ok") ∷
    ("b.add(ab)", "ok") ∷
    ("f.set(4, b)", "UnsupportedOperationException") ∷
    ("d.partition(2).get(0).filter(lt(1)).filter(isInt).unmodifiable.add(a)", "UnsupportedOperationException") ∷
    ("d.set(3, b)", "UnsupportedOperationException") ∷
    ("let a = j.immutable", "ok") ∷
    ("let e = f", "ok") ∷
    ("d.add(-1, b)", "UnsupportedOperationException") ∷
    ("f.transform(neg).transform(times(1)).sub(-1, 2).add(4)", "IndexOutOfBoundsException") ∷
    ("b.add(b)", "ok") ∷
    ("let o = a.partition(2).get(2)", "ok") ∷
    ("let c = j.reverse.partition(-1).get(4)", "IllegalArgumentException") ∷
    ("let a = f.sub(1, -1).transform(neg)", "IndexOutOfBoundsException") ∷
    ("a.reverse.add(a)", "UnsupportedOperationException") ∷
    ("o.transform(prefix(a)).transform(neg).partition(4).size", "1") ∷
    ("let f = d.transform(when(any, prefix(a), plus(-1))).transform(when(even, const(1), prefix(a))).transform(const(a))", "ok") ∷
    ("new f LinkedTable", "ok") ∷
    ("o.transform(when(even, neg, neg)).reverse.retainAll(d)", "UnsupportedOperationException") ∷
    ("let j = a", "ok") ∷ [])
unfolding literally
script_201 = refl

script_202 : Runs (
    ("new g TreeSetReverse", "ok") ∷
    ("g.difference(g).transform(when(isInt, prefix(a), times(2))).filter(any).unmodifiable.filter(and(any, and(any, even))).addAll(g)", "UnsupportedOperationException") ∷
    ("g.union(g).union(g).intersection(g).addAll(g)", "UnsupportedOperationException") ∷
    ("let k = g", "ok") ∷
    ("new g ImmutableListBuilder", "ok") ∷
    ("it p = g", "?call") ∷
    ("g.add(0)", "ok") ∷
    ("k.unmodifiable.add(ab)", "UnsupportedOperationException") ∷
    ("g", "?call") ∷
    ("k.contains(a)", "false") ∷
    ("k.symmetricDifference(k).symmetricDifference(k).add(1)", "UnsupportedOperationException") ∷
    ("k.transform(const(c)).transform(when(odd, neg, prefix(a))).unmodifiable.unmodifiable.unmodifiable.add(4)", "UnsupportedOperationException") ∷
    ("k.asMap(when(isInt, prefix(a), prefix(a))).transformValues(neg).equals(zz)", "?name") ∷
    ("k.descending.descending.addAll(k)", "false") ∷
    ("let o = k.within((2..6])", "IllegalArgumentException") ∷
    ("let n = g", "?call") ∷
    ("let a = k.descending.difference(k).symmetricDifference(k)", "ok") ∷
    ("let a = a", "ok") ∷
    ("let h = g", "?call") ∷
    ("a.last", "?call") ∷
    ("k.asMap(neg).equals(zz)", "?name") ∷
    ("let p = a.immutable", "ok") ∷
    ("it c = g", "?call") ∷
    ("let b = a.asMap(const(-1))", "ok") ∷
    ("b.putAll(b)", "UnsupportedOperationException") ∷
    ("new c ArrayList", "ok") ∷
    ("k.symmetricDifference(p).union(a).symmetricDifference(k).add(-1)", "UnsupportedOperationException") ∷
    ("g", "?call") ∷
    ("p", "[]") ∷
    ("let i = k.intersection(k)", "ok") ∷
    ("a.isEmpty", "true") ∷
    ("let j = i.filter(odd)", "ok") ∷
    ("k.union(j).addAll(i)", "UnsupportedOperationException") ∷
    ("i.transform(len).transform(prefix(a)).retainAll(c)", "UnsupportedOperationException") ∷
    ("a.filter(odd).transform(plus(0)).transform(times(-1)).addAll(c)", "UnsupportedOperationException") ∷
    ("j.addAll(c)", "UnsupportedOperationException") ∷
    ("c.transform(const(-1)).unmodifiable.transform(prefix(a)).set(1, 0)", "UnsupportedOperationException") ∷
    ("let m = p.difference(zz)", "?name") ∷
    ("b", "{}") ∷
    ("j.add(0)", "UnsupportedOperationException") ∷
    ("j.asMap(plus(1)).filterValues(and(starts(a), and(eq(ab), starts(a)))).filterEntries(and(key(or(isInt, gt(1))), value(isInt))).firstKey", "?call") ∷
    ("p.addAll(j)", "UnsupportedOperationException") ∷
    ("i.contains(a)", "false") ∷
    ("c.unmodifiable.sub(2, 1).filter(or(eq(abc), and(starts(a), even))).unmodifiable.filter(not(not(any))).retainAll(p)", "IndexOutOfBoundsException") ∷
    ("b.transformValues(len).values.removeAll(k)", "UnsupportedOperationException") ∷
    ("let g = g", "?call") ∷
    ("i", "[]") ∷
    ("let d = p.asMap(when(even, times(0), len)).immutable", "ok") ∷
    ("let k = i.asMap(plus(2))", "ok") ∷
    ("g", "?call") ∷
    ("g.add(1)", "ok") ∷
    ("g.add(b)", "ok") ∷
    ("b.transformValues(times(2))", "{}") ∷
    ("a.asMap(when(starts(a), plus(2), prefix(a))).remove(ab)", "UnsupportedOperationException") ∷
    ("g.add(c)", "ok") ∷
    ("k.unmodifiable.equals(d)", "true") ∷
    ("it k = j.transform(len)", "ok") ∷
    ("it f = g", "?call") ∷
    ("a.intersection(p).transform(const(a)).add(4)", "UnsupportedOperationException") ∷
    ("c.isEmpty", "true") ∷ [])
unfolding literally
script_202 = refl

script_203 : Runs (
    ("new b TreeSet", "ok") ∷
    ("b", "[]") ∷
    ("b.descending.intersection(b).add(ab)", "UnsupportedOperationException") ∷
    ("b.filter(starts(a)).isEmpty", "true") ∷
    ("new g LinkedArrayListMultimap", "ok") ∷
    ("let h = b.symmetricDifference(b).intersection(b)", "ok") ∷
    ("let j = h.filter(odd)", "ok") ∷
    ("let n = b", "ok") ∷
    ("let a = b.transform(when(even, plus(-2), neg))", "ok") ∷
    ("let h = a", "ok") ∷
    ("g.put(c, 3)", "true") ∷
    ("b.union(b).union(n).difference(n).union(b).size", "0") ∷
    ("let f = a.transform(neg)", "ok") ∷
    ("j.asMap(plus(-1)).entrySet.clear", "UnsupportedOperationException") ∷
    ("b.remove(b)", "false") ∷
    ("let o = h.unmodifiable.transform(neg).unmodifiable.transform(neg).transform(when(starts(a), times(0), neg))", "ok") ∷
    ("a.unmodifiable.transform(times(3)).transform(len).transform(prefix(a)).transform(plus(0)).removeAll(j)", "UnsupportedOperationException") ∷
    ("n.within([2..2]).asMap(neg).unmodifiable.put(0, b)", "UnsupportedOperationException") ∷
    ("g.values.filter(not(not(any))).unmodifiable.addAll(n)", "UnsupportedOperationException") ∷
    ("g.asMap", "{c=[3]}") ∷
    ("b.first", "NoSuchElementException") ∷
    ("it c = f.transform(prefix(a))", "ok") ∷
    ("it i = g", "?call") ∷
    ("h.filter(isInt).addAll(a)", "UnsupportedOperationException") ∷
    ("f.filter(isInt).filter(lt(1)).unmodifiable.size", "0") ∷
    ("a.add(-1)", "UnsupportedOperationException") ∷
    ("j.add(1)", "UnsupportedOperationException") ∷
    ("let p = h.transform(plus(1))", "ok") ∷
    ("let m = f.transform(when(starts(a), const(4), len))", "ok") ∷
    ("a.filter(odd).transform(neg).contains(-1)", "false") ∷
    ("o.clear", "UnsupportedOperationException") ∷
    ("it g = f.transform(len)", "ok") ∷
    ("let l = p.transform(when(odd, neg, times(1))).unmodifiable", "ok") ∷
    ("f.filter(lt(0))", "[]") ∷
    ("p.unmodifiable.transform(prefix(a)).filter(starts(a)).retainAll(p)", "UnsupportedOperationException") ∷
    ("j.addAll(m)", "UnsupportedOperationException") ∷
    ("let n = h.filter(isInt)", "ok") ∷
    ("o.unmodifiable.transform(when(any, len, neg)).filter(isInt).addAll(f)", "UnsupportedOperationException") ∷
    ("n.addAll(l)", "UnsupportedOperationException") ∷
    ("let e = o", "ok") ∷
    ("it c = c", "?call") ∷
    ("h.unmodifiable.add(0)", "UnsupportedOperationException") ∷
    ("let c = p", "ok") ∷
    ("let h = l.immutable", "ok") ∷
    ("let n = g", "?call") ∷
    ("o.unmodifiable.filter(any).add(abc)", "UnsupportedOperationException") ∷
    ("b.removeAll(zz)", "?name") ∷
    ("j.addAll(n)", "UnsupportedOperationException") ∷
    ("j.last", "?call") ∷
    ("p.filter(and(even, any)).filter(isInt).addAll(zz)", "?name") ∷
    ("e.removeAll(a)", "UnsupportedOperationException") ∷
    ("h.partition(3)", "[]") ∷
    ("let j = m.transform(when(odd, len, neg))", "ok") ∷
    ("b", "[]") ∷
    ("o.unmodifiable.addAll(f)", "UnsupportedOperationException") ∷
    ("l.filter(and(lt(0), any)).filter(isInt).isEmpty", "true") ∷
    ("new h TreeSetLength", "ok") ∷
    ("new e TreeMapLength", "ok") ∷
    ("o.filter(starts(a)).unmodifiable.filter(odd).filter(or(isInt, not(gt(b)))).unmodifiable.add(-1)", "UnsupportedOperationException") ∷
    ("let g = f.filter(any).unmodifiable", "ok") ∷ [])
unfolding literally
script_203 = refl

script_204 : Runs (
    ("new g LinkedHashMultiset", "ok") ∷
    ("g.union(g).addAll(g)", "UnsupportedOperationException") ∷
    ("g", "[]") ∷
    ("it i = g.union(zz)", "?name") ∷
    ("g.elementSet.unmodifiable.addAll(g)", "UnsupportedOperationException") ∷
    ("it o = g.filter(and(or(eq(2), odd), or(gt(a), starts(a)))).elementSet", "ok") ∷
    ("o", "?call") ∷
    ("o", "?call") ∷
    ("let o = o", "?call") ∷
    ("let f = g.entrySet", "ok") ∷
    ("f.size", "0") ∷
    ("o.next", "NoSuchElementException") ∷
    ("let i = g", "ok") ∷
    ("i.filter(any).difference(g).contains(4)", "false") ∷
    ("i.retainAll(g)", "false") ∷
    ("f.isEmpty", "true") ∷
    ("it i = f", "ok") ∷
    ("let g = f", "ok") ∷
    ("f.remove(c, 2)", "false") ∷
    ("g.remove(0, 1)", "false") ∷
    ("g.contains(2, -1)", "IllegalArgumentException") ∷
    ("f", "[]") ∷
    ("o.next", "NoSuchElementException") ∷
    ("i.next", "NoSuchElementException") ∷
    ("i.remove", "IllegalStateException") ∷
    ("f.remove(abc, 3)", "false") ∷
    ("o", "?call") ∷
    ("i.next", "NoSuchElementException") ∷
    ("it c = i", "?call") ∷
    ("let l = i", "?call") ∷
    ("o.next", "NoSuchElementException") ∷
    ("let n = f", "ok") ∷
    ("let g = o", "?call") ∷
    ("it d = i", "?call") ∷
    ("o.next", "NoSuchElementException") ∷
    ("it j = o", "?call") ∷
    ("it g = g", "ok") ∷
    ("o.remove", "UnsupportedOperationException") ∷
    ("new h ImmutableTableBuilder", "ok") ∷
    ("let g = o", "?call") ∷
    ("let p = n", "ok") ∷
    ("p.isEmpty", "true") ∷
    ("new h TreeMapLength", "ok") ∷
    ("h.put(a, a)", "null") ∷
    ("o.next", "NoSuchElementException") ∷
    ("let l = p", "ok") ∷
    ("it k = f", "ok") ∷
    ("k", "?call") ∷
    ("f", "[]") ∷
    ("n.size", "0") ∷
    ("f.clear", "ok") ∷
    ("let h = p", "ok") ∷
    ("g.next", "NoSuchElementException") ∷
    ("let o = g", "?call") ∷
    ("k.hasNext", "false") ∷
    ("o.hasNext", "false") ∷
    ("it h = n", "ok") ∷
    ("l", "[]") ∷
    ("g.remove", "IllegalStateException") ∷
    ("it o = i", "?call") ∷ [])
unfolding literally
script_204 = refl
