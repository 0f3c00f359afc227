-- Random scripts over all shapes.
use Rattle.std.specs.Prelude.{[], ◌∷◌}
use Rattle.std.proofs.Common.{refl}
use Rattle.machine_examples.specs.Scripts.{Runs, literally}

script_300 : Runs (
    ("new f ImmutableMultisetBuilder", "ok") ∷
    ("f.add(-1)", "ok") ∷
    ("f.add(1)", "ok") ∷
    ("let l = f", "?call") ∷
    ("new b TreeBasedTable", "ok") ∷
    ("f.add(b)", "ok") ∷
    ("let m = f", "?call") ∷
    ("b.put(-1, ab, abc)", "null") ∷
    ("f.add(ab)", "ok") ∷
    ("f.add(2)", "ok") ∷
    ("it l = b.transpose", "?call") ∷
    ("let m = f", "?call") ∷
    ("new e LinkedTable", "ok") ∷
    ("f.addCopies(b, 2)", "ok") ∷
    ("b.transpose", "{ab={-1=abc}}") ∷
    ("e.put(4, 2, c)", "null") ∷
    ("e.put(-1, abc, 3)", "null") ∷
    ("let m = e.transformValues(when(even, prefix(a), plus(-1))).transformValues(when(even, neg, prefix(a))).immutable", "ok") ∷
    ("b.put(0, 1, a)", "null") ∷
    ("f.add(3)", "ok") ∷
    ("m.columnKeySet.add(0)", "UnsupportedOperationException") ∷
    ("let i = m.rowKeySet.asMap(plus(-1)).entrySet", "ok") ∷
    ("let g = m", "ok") ∷
    ("i", "[4=3, -1=-2]") ∷
    ("f.add(3)", "ok") ∷
    ("it p = g.cellSet", "ok") ∷
    ("let h = m.rowKeySet.difference(zz).asMap(const(2))", "?name") ∷
    ("b.clear", "ok") ∷
    ("let p = e.transformValues(times(-1))", "ok") ∷
    ("new f ArrayList", "ok") ∷
    ("let d = e.transformValues(times(1)).values", "ok") ∷
    ("b.put(2, 0, abc)", "null") ∷
    ("i.contains(b, 0)", "false") ∷
    ("d.clear", "ok") ∷
    ("let l = p", "ok") ∷
    ("i.size", "2") ∷
    ("new f TreeSet", "ok") ∷
    ("let k = b.values", "ok") ∷
    ("m.remove(2, abc)", "UnsupportedOperationException") ∷
    ("i.size", "2") ∷
    ("g.rowKeySet.difference(f).union(f)", "[4, -1]") ∷
    ("e.rowMap.isEmpty", "true") ∷
    ("p.put(4, abc, a)", "UnsupportedOperationException") ∷
    ("m.column(2).transformValues(const(3)).put(4, a)", "UnsupportedOperationException") ∷
    ("p.cellSet.contains(0, -1, a)", "false") ∷
    ("g.unmodifiable.cellSet.contains(1, ab, 0)", "false") ∷
    ("f.asMap(neg).put(-1, c)", "UnsupportedOperationException") ∷
    ("m.put(b, c, 0)", "UnsupportedOperationException") ∷
    ("it j = l.columnMap.filterKeys(even)", "?call") ∷
    ("m.put(b, 3, ab)", "UnsupportedOperationException") ∷
    ("let j = f", "ok") ∷
    ("p.unmodifiable.put(2, abc, 4)", "UnsupportedOperationException") ∷
    ("let e = e.unmodifiable.values.filter(odd)", "ok") ∷
    ("m.transformValues(prefix(a)).put(a, a, 4)", "UnsupportedOperationException") ∷
    ("k.unmodifiable.unmodifiable.filter(even).addAll(zz)", "?name") ∷
    ("m.rowMap.filterKeys(lt(ab)).remove(1)", "UnsupportedOperationException") ∷
    ("new d TreeSet", "ok") ∷
    ("j.descending.unmodifiable.add(1)", "UnsupportedOperationException") ∷
    ("m.unmodifiable.put(ab, abc, ab)", "UnsupportedOperationException") ∷
    ("let f = i", "ok") ∷ [])
unfolding literally
script_300 = refl

script_301 : Runs (
    ("new g TreeSetLength", "ok") ∷
    ("g", "[]") ∷
    ("g.union(g).union(g).symmetricDifference(g).transform(len).filter(and(starts(a), any)).add(b)", "UnsupportedOperationException") ∷
    ("let c = g.transform(when(odd, prefix(a), times(1))).transform(times(0))", "ok") ∷
    ("g.addAll(c)", "false") ∷
    ("g.addAll(c)", "false") ∷
    ("let l = g.asMap(when(any, times(-1), len))", "ok") ∷
    ("l", "{}") ∷
    ("let m = g.difference(g)", "ok") ∷
    ("g.union(m).difference(g).intersection(g).clear", "UnsupportedOperationException") ∷
    ("g.union(m).clear", "UnsupportedOperationException") ∷
    ("it b = m", "ok") ∷
    ("let d = c", "ok") ∷
    ("b", "?call") ∷
    ("g.asMap(plus(2)).transformValues(times(-1)).entrySet.size", "0") ∷
    ("d.filter(even).unmodifiable.unmodifiable.transform(const(0)).filter(odd).addAll(c)", "UnsupportedOperationException") ∷
    ("it j = m", "ok") ∷
    ("j", "?call") ∷
    ("let p = c.transform(prefix(a))", "ok") ∷
    ("j.next", "NoSuchElementException") ∷
    ("let b = j", "?call") ∷
    ("g.unmodifiable.within((2..2]).addAll(d)", "UnsupportedOperationException") ∷
    ("b.next", "NoSuchElementException") ∷
    ("let h = m.unmodifiable.difference(g).union(m).intersection(g)", "ok") ∷
    ("l.within((a..b]).unmodifiable.put(0, b)", "UnsupportedOperationException") ∷
    ("new g TreeMultimap", "ok") ∷
    ("let j = m.transform(const(a))", "ok") ∷
    ("l", "{}") ∷
    ("let e = b", "?call") ∷
    ("g.clear", "ok") ∷
    ("let b = h.immutable", "ok") ∷
    ("l.forMap.filterEntries(and(key(and(even, even)), value(and(gt(a), odd)))).filterValues(or(or(starts(a), starts(a)), or(eq(3), odd))).keys.difference(zz).clear", "?name") ∷
    ("c", "[]") ∷
    ("b.filter(or(any, and(odd, even))).intersection(b).clear", "UnsupportedOperationException") ∷
    ("b.transform(times(2)).transform(len).unmodifiable.clear", "UnsupportedOperationException") ∷
    ("p.filter(and(and(any, starts(a)), even)).addAll(j)", "UnsupportedOperationException") ∷
    ("let d = m.asMap(const(b))", "ok") ∷
    ("it c = g.keySet.descending.within([3..6))", "ok") ∷
    ("d.unmodifiable", "{}") ∷
    ("m.retainAll(j)", "UnsupportedOperationException") ∷
    ("h", "[]") ∷
    ("m.asMap(prefix(a)).values.filter(lt(1)).removeAll(zz)", "?name") ∷
    ("j.unmodifiable.filter(even).clear", "UnsupportedOperationException") ∷
    ("let i = j.transform(len).unmodifiable.unmodifiable.immutable", "ok") ∷
    ("j", "[]") ∷
    ("it d = h.filter(gt(a))", "ok") ∷
    ("l.filterKeys(or(even, not(any))).remove(a)", "null") ∷
    ("i.transform(plus(-2)).unmodifiable.add(2)", "UnsupportedOperationException") ∷
    ("let p = j.filter(not(any))", "ok") ∷
    ("new d UndirectedValueGraphLoops", "ok") ∷
    ("b.clear", "UnsupportedOperationException") ∷
    ("let h = p.transform(neg).transform(when(gt(2), plus(-2), times(2)))", "ok") ∷
    ("g", "{}") ∷
    ("h.removeAll(m)", "UnsupportedOperationException") ∷
    ("d.putEdgeValue(2, ab, ab)", "null") ∷
    ("let d = j.filter(starts(a)).transform(when(any, const(c), neg)).filter(isInt).unmodifiable.filter(or(isInt, odd))", "ok") ∷
    ("h.unmodifiable.unmodifiable.transform(len).add(0)", "UnsupportedOperationException") ∷
    ("i.add(1)", "UnsupportedOperationException") ∷
    ("it k = m.intersection(b).symmetricDifference(b)", "ok") ∷
    ("j.unmodifiable.remove(ab)", "UnsupportedOperationException") ∷ [])
unfolding literally
script_301 = refl

script_302 : Runs (
    ("new g TreeSetReverse", "ok") ∷
    ("let c = g.asMap(when(gt(-1), const(0), prefix(a)))", "ok") ∷
    ("it h = c.filterEntries(not(value(odd))).values.transform(plus(1))", "ok") ∷
    ("new h ImmutableListMultimapBuilder", "ok") ∷
    ("h.put(3, 4)", "ok") ∷
    ("let f = h", "?call") ∷
    ("it m = g.symmetricDifference(g).union(g)", "ok") ∷
    ("c.put(abc, 3)", "UnsupportedOperationException") ∷
    ("let n = c.transformValues(neg).forMap.filterEntries(and(key(or(isInt, any)), value(eq(abc)))).immutable", "ok") ∷
    ("it a = h", "?call") ∷
    ("m.hasNext", "false") ∷
    ("let j = m", "?call") ∷
    ("h.put(b, 0)", "ok") ∷
    ("h.put(abc, 2)", "ok") ∷
    ("let m = m", "?call") ∷
    ("c", "{}") ∷
    ("h", "?call") ∷
    ("m.hasNext", "false") ∷
    ("let h = h", "?call") ∷
    ("h.put(1, 1)", "ok") ∷
    ("m.next", "NoSuchElementException") ∷
    ("n.filterEntries(not(value(even))).transformValues(const(2)).entries.contains(3, -1)", "false") ∷
    ("n.transformValues(len).values.contains(3)", "false") ∷
    ("let f = c.filterKeys(not(any)).filterEntries(and(key(not(even)), value(not(odd)))).entrySet", "ok") ∷
    ("h.put(2, ab)", "ok") ∷
    ("n.filterValues(any).putAll(ab, g)", "UnsupportedOperationException") ∷
    ("h.put(ab, -1)", "ok") ∷
    ("h.put(b, 4)", "ok") ∷
    ("c.unmodifiable.putAll(c)", "UnsupportedOperationException") ∷
    ("let m = g.union(g).symmetricDifference(g)", "ok") ∷
    ("h", "?call") ∷
    ("c.put(4, c)", "UnsupportedOperationException") ∷
    ("c", "{}") ∷
    ("let o = m.filter(starts(a)).unmodifiable", "ok") ∷
    ("f.size", "0") ∷
    ("h.put(a, a)", "ok") ∷
    ("m.equals(m)", "true") ∷
    ("g.symmetricDifference(g).addAll(g)", "UnsupportedOperationException") ∷
    ("g.add(1)", "true") ∷
    ("o", "[]") ∷
    ("m.symmetricDifference(m).clear", "UnsupportedOperationException") ∷
    ("let e = f", "ok") ∷
    ("f.isEmpty", "true") ∷
    ("let a = f", "ok") ∷
    ("let a = h", "?call") ∷
    ("c.forMap.filterEntries(key(or(odd, isInt))).putAll(ab, o)", "UnsupportedOperationException") ∷
    ("f.clear", "ok") ∷
    ("e.clear", "ok") ∷
    ("let o = a", "ok") ∷
    ("let a = g", "ok") ∷
    ("h", "?call") ∷
    ("n.putAll(b, a)", "UnsupportedOperationException") ∷
    ("let p = f", "ok") ∷
    ("n.put(abc, 0)", "UnsupportedOperationException") ∷
    ("p.clear", "ok") ∷
    ("f.size", "0") ∷
    ("m.filter(isInt).last", "?call") ∷
    ("o.remove(c, 1)", "false") ∷
    ("a.descending.intersection(a).filter(starts(a)).add(2)", "UnsupportedOperationException") ∷
    ("e.size", "0") ∷ [])
unfolding literally
script_302 = refl

script_303 : Runs (
    ("new a TreeRangeMap", "ok") ∷
    ("a.asMapOfRanges.remove([1..4], a)", "UnsupportedOperationException") ∷
    ("a.unmodifiable.asMapOfRanges.isEmpty", "true") ∷
    ("a.subRangeMap((1..5])", "{}") ∷
    ("it e = a.asMapOfRanges", "ok") ∷
    ("let e = a.asMapOfRanges", "ok") ∷
    ("let c = a.subRangeMap([0..+∞))", "ok") ∷
    ("e.size", "0") ∷
    ("a.put((1..4], ab)", "ok") ∷
    ("a.subRangeMap((1..+∞)).span", "(1..4]") ∷
    ("e.remove((-∞..5], 4)", "UnsupportedOperationException") ∷
    ("e.isEmpty", "false") ∷
    ("e.clear", "UnsupportedOperationException") ∷
    ("a.asMapOfRanges.size", "1") ∷
    ("a.unmodifiable.asMapOfRanges.isEmpty", "false") ∷
    ("a.unmodifiable.subRangeMap((2..3)).unmodifiable", "{(2..3)=ab}") ∷
    ("let f = e", "ok") ∷
    ("let p = a", "ok") ∷
    ("f.size", "1") ∷
    ("let o = e", "ok") ∷
    ("o.size", "1") ∷
    ("let m = a.subRangeMap((0..3]).immutable", "ok") ∷
    ("c.put([2..+∞), 1)", "ok") ∷
    ("p.get(0)", "null") ∷
    ("p.asMapOfRanges", "[(1..2)=ab, [2..+∞)=1]") ∷
    ("let m = e", "ok") ∷
    ("e.clear", "UnsupportedOperationException") ∷
    ("e", "[(1..2)=ab, [2..+∞)=1]") ∷
    ("let b = m", "ok") ∷
    ("it n = m", "ok") ∷
    ("new c TreeMapReverse", "ok") ∷
    ("a.putCoalescing((-∞..3], 2)", "ok") ∷
    ("it l = a", "?call") ∷
    ("e.clear", "UnsupportedOperationException") ∷
    ("b.clear", "UnsupportedOperationException") ∷
    ("p.put((-∞..6], -1)", "ok") ∷
    ("a.subRangeMap([0..5]).put([3..4), 3)", "ok") ∷
    ("let h = m", "ok") ∷
    ("a.asMapOfRanges.size", "4") ∷
    ("p.put((0..6], ab)", "ok") ∷
    ("let p = p.unmodifiable", "ok") ∷
    ("n.remove", "UnsupportedOperationException") ∷
    ("p.getEntry(0)", "(-∞..0]=-1") ∷
    ("b.remove([3..5], b)", "UnsupportedOperationException") ∷
    ("c.entrySet.isEmpty", "true") ∷
    ("e", "[(-∞..0]=-1, (0..6]=ab, (6..+∞)=1]") ∷
    ("let c = e", "ok") ∷
    ("it b = f", "ok") ∷
    ("n.remove", "UnsupportedOperationException") ∷
    ("let o = p.unmodifiable", "ok") ∷
    ("let i = n", "?call") ∷
    ("h.remove([2..4), ab)", "UnsupportedOperationException") ∷
    ("let i = a.asMapOfRanges", "ok") ∷
    ("m.size", "3") ∷
    ("new e ImmutableBiMapBuilder", "ok") ∷
    ("m.remove((-∞..a), abc)", "UnsupportedOperationException") ∷
    ("let f = o.immutable", "ok") ∷
    ("h.remove((2..5), 2)", "UnsupportedOperationException") ∷
    ("it k = i", "ok") ∷
    ("new b TreeBasedTable", "ok") ∷ [])
unfolding literally
script_303 = refl

script_304 : Runs (
    ("new c TreeBasedTable", "ok") ∷
    ("let j = c", "ok") ∷
    ("let c = c", "ok") ∷
    ("j.columnMap", "{}") ∷
    ("j.put(a, abc, b)", "null") ∷
    ("c.isEmpty", "false") ∷
    ("c.size", "1") ∷
    ("c.columnMap.entrySet.size", "1") ∷
    ("c", "{a={abc=b}}") ∷
    ("j.row(a).putAll(zz)", "?name") ∷
    ("it c = c.columnKeySet", "ok") ∷
    ("c.next", "abc") ∷
    ("j.put(4, 3, 2)", "null") ∷
    ("c.remove", "UnsupportedOperationException") ∷
    ("c.next", "ConcurrentModificationException") ∷
    ("let p = j", "ok") ∷
    ("p.cellSet.clear", "ok") ∷
    ("j.unmodifiable.columnKeySet.addAll(zz)", "?name") ∷
    ("let h = p.rowMap.entrySet", "ok") ∷
    ("let d = j", "ok") ∷
    ("c.remove", "UnsupportedOperationException") ∷
    ("p.transpose", "{}") ∷
    ("let l = h", "ok") ∷
    ("h.clear", "ok") ∷
    ("h.clear", "ok") ∷
    ("it h = p.column(2).transformValues(prefix(a))", "?call") ∷
    ("let o = c", "?call") ∷
    ("j.transformValues(prefix(a)).put(c, ab, abc)", "UnsupportedOperationException") ∷
    ("let p = p", "ok") ∷
    ("it e = d", "?call") ∷
    ("let b = l", "ok") ∷
    ("c", "?call") ∷
    ("it j = h", "ok") ∷
    ("d.rowMap.entrySet.isEmpty", "true") ∷
    ("it e = l", "ok") ∷
    ("c.next", "ConcurrentModificationException") ∷
    ("d.containsRow(b)", "false") ∷
    ("let k = h", "ok") ∷
    ("j.hasNext", "false") ∷
    ("let b = k", "ok") ∷
    ("p", "{}") ∷
    ("c.remove", "UnsupportedOperationException") ∷
    ("b.clear", "ok") ∷
    ("d.column(-1).transformValues(neg).putAll(zz)", "?name") ∷
    ("j.next", "NoSuchElementException") ∷
    ("let h = h", "ok") ∷
    ("b.clear", "ok") ∷
    ("let j = c", "?call") ∷
    ("let j = c", "?call") ∷
    ("let p = j", "?call") ∷
    ("it b = e", "?call") ∷
    ("e.next", "NoSuchElementException") ∷
    ("c.next", "ConcurrentModificationException") ∷
    ("it i = k", "ok") ∷
    ("let j = i", "?call") ∷
    ("let i = b", "ok") ∷
    ("it c = c", "?call") ∷
    ("c", "?call") ∷
    ("let n = j", "?call") ∷
    ("i.clear", "ok") ∷ [])
unfolding literally
script_304 = refl
