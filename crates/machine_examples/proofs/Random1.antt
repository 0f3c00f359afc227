-- Random scripts over all shapes.
use Rattle.std.specs.Prelude.{[], ◌∷◌}
use Rattle.std.proofs.Common.{refl}
use Rattle.machine_examples.specs.Scripts.{Runs, literally}

script_100 : Runs (
    ("new c ImmutableRangeMapBuilder", "ok") ∷
    ("let d = c", "?call") ∷
    ("c.put([1..+∞), 2)", "ok") ∷
    ("c.put((-∞..6], 0)", "ok") ∷
    ("c.put((-∞..6], ab)", "ok") ∷
    ("c.put((3..3), 3)", "IllegalArgumentException") ∷
    ("let p = c", "?call") ∷
    ("c", "?call") ∷
    ("let h = c", "?call") ∷
    ("c.put([0..3], 0)", "ok") ∷
    ("it e = c", "?call") ∷
    ("c.put([3..+∞), 2)", "ok") ∷
    ("c.put((0..4), a)", "ok") ∷
    ("c", "?call") ∷
    ("it d = c", "?call") ∷
    ("it a = c", "?call") ∷
    ("c.put([0..+∞), ab)", "ok") ∷
    ("let c = c", "?call") ∷
    ("new f TreeMultisetLength", "ok") ∷
    ("let f = c.build", "IllegalArgumentException") ∷
    ("let i = c", "?call") ∷
    ("c", "?call") ∷
    ("c.put([3..6), a)", "ok") ∷
    ("new c TreeSetReverse", "ok") ∷
    ("c.within((2..b)).equals(c)", "IllegalArgumentException") ∷
    ("let c = f.filter(any).entrySet", "ok") ∷
    ("c.contains(0, -1)", "IllegalArgumentException") ∷
    ("c.isEmpty", "true") ∷
    ("let d = c", "ok") ∷
    ("f.intersection(f).union(f).unmodifiable.remove(a)", "UnsupportedOperationException") ∷
    ("c.size", "0") ∷
    ("f.within((a..b)).elementSet.addAll(f)", "UnsupportedOperationException") ∷
    ("let b = f.immutable", "ok") ∷
    ("d.isEmpty", "true") ∷
    ("b.intersection(f).filter(even).filter(not(starts(a))).elementSet.retainAll(b)", "UnsupportedOperationException") ∷
    ("f.removeAll(f)", "false") ∷
    ("it c = b.unmodifiable.filter(eq(-1))", "ok") ∷
    ("let b = f.entrySet", "ok") ∷
    ("new e LinkedHashMultiset", "ok") ∷
    ("let n = c", "?call") ∷
    ("d.size", "0") ∷
    ("d.isEmpty", "true") ∷
    ("f.difference(e).sum(e).entrySet.size", "0") ∷
    ("it a = c", "?call") ∷
    ("let p = d", "ok") ∷
    ("f.entrySet.size", "0") ∷
    ("new g LinkedListMultimap", "ok") ∷
    ("it e = g.values.filter(not(not(isInt)))", "ok") ∷
    ("let h = c", "?call") ∷
    ("new b TreeRangeSet", "ok") ∷
    ("e", "?call") ∷
    ("e", "?call") ∷
    ("b.add((2..5))", "ok") ∷
    ("let a = e", "?call") ∷
    ("g.values.add(1)", "UnsupportedOperationException") ∷
    ("let h = g.filterValues(or(not(gt(ab)), starts(a))).asMap.filterKeys(or(even, and(isInt, even))).get(b).filter(eq(2))", "null") ∷
    ("g.entries", "[]") ∷
    ("d.contains(b, 2)", "false") ∷
    ("let e = c", "?call") ∷
    ("d.isEmpty", "true") ∷ [])
unfolding literally
script_100 = refl

script_101 : Runs (
    ("new d TreeMultisetReverse", "ok") ∷
    ("d.filter(odd).addAll(d)", "false") ∷
    ("let i = d.sum(d).sum(d).immutable", "ok") ∷
    ("i.addAll(d)", "UnsupportedOperationException") ∷
    ("i.add(a)", "UnsupportedOperationException") ∷
    ("d.union(i).lastEntry", "?call") ∷
    ("let g = d.descending.within((-∞..b]).unmodifiable.unmodifiable.intersection(d)", "ok") ∷
    ("let d = i.elementSet.filter(or(not(any), and(isInt, even))).union(zz).symmetricDifference(zz)", "?name") ∷
    ("let f = i", "ok") ∷
    ("new g ImmutableRangeMapBuilder", "ok") ∷
    ("g.put((0..+∞), a)", "ok") ∷
    ("let e = d", "ok") ∷
    ("f.entrySet.clear", "UnsupportedOperationException") ∷
    ("i.add(4, 2)", "UnsupportedOperationException") ∷
    ("f.entrySet.contains(b, 0)", "false") ∷
    ("let b = d.intersection(zz).unmodifiable", "?name") ∷
    ("new h UndirectedValueGraph", "ok") ∷
    ("it i = f", "ok") ∷
    ("d.intersection(e).elementSet.symmetricDifference(zz).difference(zz).addAll(e)", "?name") ∷
    ("i.remove", "UnsupportedOperationException") ∷
    ("i.remove", "UnsupportedOperationException") ∷
    ("let a = i", "?call") ∷
    ("it p = i", "?call") ∷
    ("d.unmodifiable.clear", "UnsupportedOperationException") ∷
    ("i.hasNext", "false") ∷
    ("i.next", "NoSuchElementException") ∷
    ("let m = h.incidentEdges(0)", "IllegalArgumentException") ∷
    ("i.next", "NoSuchElementException") ∷
    ("let b = d.entrySet", "ok") ∷
    ("d.sum(e).unmodifiable.setCount(ab, 2)", "UnsupportedOperationException") ∷
    ("h.putEdgeValue(0, a, 0)", "null") ∷
    ("f", "[]") ∷
    ("it o = i", "?call") ∷
    ("it j = h", "?call") ∷
    ("i.next", "NoSuchElementException") ∷
    ("d.within((4..a)).addAll(f)", "IllegalArgumentException") ∷
    ("let e = d.within([4..a]).difference(f).sum(e).union(e).immutable", "IllegalArgumentException") ∷
    ("e.entrySet.size", "0") ∷
    ("i.next", "NoSuchElementException") ∷
    ("i.hasNext", "false") ∷
    ("let a = e", "ok") ∷
    ("e", "[]") ∷
    ("let k = b", "ok") ∷
    ("it k = h.transpose", "?call") ∷
    ("e.sum(zz).size", "?name") ∷
    ("g.put((-∞..1), 0)", "ok") ∷
    ("k.remove(-1, 0)", "false") ∷
    ("k.isEmpty", "true") ∷
    ("k", "[]") ∷
    ("let f = a.entrySet", "ok") ∷
    ("new h TreeRangeMap", "ok") ∷
    ("i.hasNext", "false") ∷
    ("d.union(e).add(4, 1)", "UnsupportedOperationException") ∷
    ("k", "[]") ∷
    ("i.hasNext", "false") ∷
    ("h.asMapOfRanges.contains([b..b), 3)", "false") ∷
    ("g.put([2..4], c)", "ok") ∷
    ("new g LinkedHashMultiset", "ok") ∷
    ("let k = b", "ok") ∷
    ("i.hasNext", "false") ∷ [])
unfolding literally
script_101 = refl

script_102 : Runs (
    ("new c ImmutableMultisetBuilder", "ok") ∷
    ("let b = c", "?call") ∷
    ("c.add(1)", "ok") ∷
    ("let e = c", "?call") ∷
    ("c.add(a)", "ok") ∷
    ("c.addCopies(3, 0)", "ok") ∷
    ("c.addCopies(-1, 4)", "ok") ∷
    ("c.add(c)", "ok") ∷
    ("c", "?call") ∷
    ("c.addCopies(a, 1)", "ok") ∷
    ("c.add(c)", "ok") ∷
    ("c.add(a)", "ok") ∷
    ("c.add(abc)", "ok") ∷
    ("c.addCopies(1, 1)", "ok") ∷
    ("let n = c", "?call") ∷
    ("c", "?call") ∷
    ("c.add(3)", "ok") ∷
    ("it m = c", "?call") ∷
    ("let o = c", "?call") ∷
    ("let e = c", "?call") ∷
    ("c.addCopies(0, 2)", "ok") ∷
    ("c.add(4)", "ok") ∷
    ("c.add(1)", "ok") ∷
    ("let e = c", "?call") ∷
    ("let h = c", "?call") ∷
    ("let k = c", "?call") ∷
    ("c.add(0)", "ok") ∷
    ("c", "?call") ∷
    ("it m = c", "?call") ∷
    ("c", "?call") ∷
    ("c.add(1)", "ok") ∷
    ("c.addCopies(4, -1)", "IllegalArgumentException") ∷
    ("c.add(0)", "ok") ∷
    ("it m = c", "?call") ∷
    ("c.add(a)", "ok") ∷
    ("c.add(a)", "ok") ∷
    ("c", "?call") ∷
    ("new b DirectedValueGraphLoops", "ok") ∷
    ("new h TreeMapReverse", "ok") ∷
    ("c.addCopies(c, 1)", "ok") ∷
    ("h.size", "0") ∷
    ("b.nodes.symmetricDifference(zz).intersection(zz).add(4)", "?name") ∷
    ("c.add(a)", "ok") ∷
    ("h.values.add(4)", "UnsupportedOperationException") ∷
    ("it a = b.adjacentNodes(c)", "IllegalArgumentException") ∷
    ("let f = h.within((-∞..3))", "ok") ∷
    ("b.incidentEdges(b).isEmpty", "IllegalArgumentException") ∷
    ("let k = f.values.unmodifiable.filter(even)", "ok") ∷
    ("c", "?call") ∷
    ("let h = h.forMap.filterKeys(starts(a))", "ok") ∷
    ("h.containsKey(abc)", "false") ∷
    ("let p = f.filterKeys(starts(a))", "ok") ∷
    ("it d = p.within((6..1])", "?call") ∷
    ("b.adjacentNodes(b).unmodifiable.unmodifiable.intersection(zz).addAll(k)", "?name") ∷
    ("let d = c", "?call") ∷
    ("f.filterValues(gt(-1)).putAll(p)", "ok") ∷
    ("k.transform(times(1)).unmodifiable.filter(not(isInt)).add(abc)", "UnsupportedOperationException") ∷
    ("it n = h", "?call") ∷
    ("h.filterValues(not(isInt)).transformValues(when(any, plus(1), times(0))).containsKey(abc)", "false") ∷
    ("p.size", "0") ∷ [])
unfolding literally
script_102 = refl

script_103 : Runs (
    ("new h TreeBasedTable", "ok") ∷
    ("let n = h.values.transform(when(any, plus(-1), const(1))).immutable", "ok") ∷
    ("n.addAll(n)", "UnsupportedOperationException") ∷
    ("it g = n.unmodifiable.sub(1, -1).partition(-1)", "IndexOutOfBoundsException") ∷
    ("n.transform(len).reverse.unmodifiable.set(0, ab)", "UnsupportedOperationException") ∷
    ("n.add(3, b)", "UnsupportedOperationException") ∷
    ("let a = h.row(-1)", "ok") ∷
    ("a", "{}") ∷
    ("a.filterEntries(value(isInt)).get(a)", "null") ∷
    ("n.filter(eq(abc))", "[]") ∷
    ("n.unmodifiable.reverse.add(1, a)", "UnsupportedOperationException") ∷
    ("n.unmodifiable.add(-1, 0)", "UnsupportedOperationException") ∷
    ("n.partition(1).get(4).size", "IndexOutOfBoundsException") ∷
    ("it o = n", "ok") ∷
    ("h.put(c, 1, ab)", "null") ∷
    ("it o = a.within([4..b)).forMap.filterValues(gt(abc))", "?call") ∷
    ("it j = a", "?call") ∷
    ("it p = a", "?call") ∷
    ("let k = h.values.filter(any)", "ok") ∷
    ("a.containsKey(b)", "false") ∷
    ("it d = n.sub(2, 2)", "IndexOutOfBoundsException") ∷
    ("let p = a.entrySet", "ok") ∷
    ("let n = a.transformValues(neg).filterValues(gt(abc)).unmodifiable", "ok") ∷
    ("p", "[]") ∷
    ("h.transpose.columnKeySet.intersection(zz).add(-1)", "?name") ∷
    ("let j = a.keySet", "ok") ∷
    ("p.remove(b, -1)", "false") ∷
    ("let j = a.filterKeys(gt(abc))", "ok") ∷
    ("p", "[]") ∷
    ("k.addAll(k)", "UnsupportedOperationException") ∷
    ("h.put(2, -1, b)", "null") ∷
    ("new d LinkedHashMultiset", "ok") ∷
    ("let d = j", "ok") ∷
    ("d.forMap.get(a).add(b)", "UnsupportedOperationException") ∷
    ("d.filterEntries(value(even))", "{}") ∷
    ("d.putAll(j)", "ok") ∷
    ("new f TreeMapLength", "ok") ∷
    ("j.keySet.asMap(const(3))", "{}") ∷
    ("d.containsKey(1)", "false") ∷
    ("let d = d.filterValues(or(and(eq(a), isInt), starts(a))).within((3..6])", "ok") ∷
    ("p.remove(ab, 1)", "false") ∷
    ("it l = p", "ok") ∷
    ("it m = a.entrySet", "ok") ∷
    ("let f = m", "?call") ∷
    ("l.next", "NoSuchElementException") ∷
    ("k.transform(neg).unmodifiable.unmodifiable.unmodifiable.filter(odd).add(c)", "UnsupportedOperationException") ∷
    ("d.lastKey", "NoSuchElementException") ∷
    ("let c = j.filterEntries(value(not(odd))).filterKeys(odd).descending.transformValues(times(3)).unmodifiable", "ok") ∷
    ("let f = d.descending", "ok") ∷
    ("let d = d.unmodifiable", "ok") ∷
    ("let m = p", "ok") ∷
    ("it k = h", "?call") ∷
    ("m.remove(0, 2)", "false") ∷
    ("k.transform(neg).contains(2)", "false") ∷
    ("k.contains(b)", "true") ∷
    ("n.put(abc, 4)", "UnsupportedOperationException") ∷
    ("it i = a.unmodifiable", "?call") ∷
    ("let i = o", "?call") ∷
    ("h.put(4, abc, -1)", "null") ∷
    ("j.forMap.filterEntries(not(value(starts(a)))).unmodifiable.putAll(2, k)", "UnsupportedOperationException") ∷ [])
unfolding literally
script_103 = refl

script_104 : Runs (
    ("new a LinkedTable", "ok") ∷
    ("a.clear", "ok") ∷
    ("a.columnMap.filterKeys(even).remove(2)", "null") ∷
    ("a.columnKeySet.add(1)", "UnsupportedOperationException") ∷
    ("let g = a.rowMap.get(-1)", "null") ∷
    ("a.transpose.values.unmodifiable.add(2)", "UnsupportedOperationException") ∷
    ("a.put(1, 0, 2)", "null") ∷
    ("a.containsColumn(abc)", "false") ∷
    ("a.rowMap.keySet.first", "?call") ∷
    ("a.row(4)", "{}") ∷
    ("a.put(ab, abc, 4)", "null") ∷
    ("let g = a.unmodifiable.row(a)", "ok") ∷
    ("a.get(ab, 1)", "null") ∷
    ("g.values.addAll(zz)", "?name") ∷
    ("a.rowMap.keySet.difference(zz).add(b)", "?name") ∷
    ("let f = g.forMap.filterValues(starts(a))", "ok") ∷
    ("f", "{}") ∷
    ("g.put(4, abc)", "UnsupportedOperationException") ∷
    ("a.column(3).putAll(g)", "ok") ∷
    ("let e = g.filterValues(and(lt(ab), isInt))", "ok") ∷
    ("g.values.filter(not(and(isInt, even))).unmodifiable.addAll(zz)", "?name") ∷
    ("it k = f.filterEntries(not(value(any))).values.unmodifiable.unmodifiable.filter(lt(c))", "ok") ∷
    ("e.filterKeys(odd).entrySet.size", "0") ∷
    ("let m = k", "?call") ∷
    ("f.filterEntries(key(or(starts(a), any))).get(4).filter(lt(-1)).add(3)", "UnsupportedOperationException") ∷
    ("f.values.isEmpty", "true") ∷
    ("a.transpose.transpose.put(ab, ab, 1)", "null") ∷
    ("let a = f.keySet", "ok") ∷
    ("it h = e.transformValues(len)", "?call") ∷
    ("it p = k", "?call") ∷
    ("it i = a", "ok") ∷
    ("let e = k", "?call") ∷
    ("let e = a", "ok") ∷
    ("f.keys", "[]") ∷
    ("k.next", "ConcurrentModificationException") ∷
    ("a.asMap(const(1)).values.add(4)", "UnsupportedOperationException") ∷
    ("f.entries.size", "0") ∷
    ("new c ImmutableListMultimapBuilder", "ok") ∷
    ("c.put(-1, -1)", "ok") ∷
    ("k", "?call") ∷
    ("e.add(-1)", "UnsupportedOperationException") ∷
    ("it m = k", "?call") ∷
    ("g", "{}") ∷
    ("g.entrySet.size", "0") ∷
    ("new d UndirectedValueGraphLoops", "ok") ∷
    ("let c = g", "ok") ∷
    ("g.filterKeys(eq(abc)).lastKey", "?call") ∷
    ("let i = d.transpose.nodes", "ok") ∷
    ("c.entrySet", "[]") ∷
    ("d.edges", "[]") ∷
    ("i.symmetricDifference(i).symmetricDifference(e).first", "?call") ∷
    ("d.edges.size", "0") ∷
    ("e.retainAll(e)", "UnsupportedOperationException") ∷
    ("let p = a.intersection(a).difference(i).immutable", "ok") ∷
    ("k.hasNext", "ConcurrentModificationException") ∷
    ("d.successors(2)", "IllegalArgumentException") ∷
    ("a.symmetricDifference(e).add(ab)", "UnsupportedOperationException") ∷
    ("k.next", "ConcurrentModificationException") ∷
    ("a.unmodifiable.intersection(e)", "[]") ∷
    ("c.values.transform(prefix(a)).transform(const(3)).add(4)", "UnsupportedOperationException") ∷ [])
unfolding literally
script_104 = refl
