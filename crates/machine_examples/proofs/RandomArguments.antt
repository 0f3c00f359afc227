-- Random scripts with odd arguments, and lines that are no lines of the language.
use Rattle.std.specs.Prelude.{[], ◌∷◌}
use Rattle.std.proofs.Common.{refl}
use Rattle.machine_examples.specs.Scripts.{Runs, literally}

script_1 : Runs (
    ("new s TreeMapLength", "ok") ∷
    ("s.within( [1 .. 2] )", "{}") ∷
    ("s.transform(then(len, plus(1)))", "?call") ∷
    ("let d2 = s.within([3..1])", "IllegalArgumentException") ∷
    ("s.within([a..1]).descending", "IllegalArgumentException") ∷
    ("newq ArrayList", "?syntax") ∷
    ("new j2 ArrayList", "ok") ∷
    ("new y1 ArrayList", "ok") ∷
    ("let d = j2.partition(-1)", "IllegalArgumentException") ∷
    ("j2.lastKey.unmodifiable", "?call") ∷
    ("j2.transform(times(-9223372036854775808))", "[]") ∷
    ("s.firstKey", "NoSuchElementException") ∷
    ("new f TreeMapLength", "ok") ∷
    ("j2.size( )", "0") ∷
    ("f.add(01)", "?syntax") ∷
    ("y1.transform(len)", "[]") ∷
    ("s.size . size", "?call") ∷
    ("new x2 TreeSet", "ok") ∷
    ("y1.add(1)", "true") ∷
    ("new s LinkedHashMap", "ok") ∷
    ("new   q   ArrayList", "ok") ∷
    ("x2.add(a b)", "?syntax") ∷
    ("let f = f.within([2..1])", "IllegalArgumentException") ∷
    ("y1.add(a b).unmodifiable", "?syntax") ∷
    ("y1.add([1..3])", "?call") ∷
    ("y1.partition(0)", "IllegalArgumentException") ∷
    ("y1.filter(any()).size", "1") ∷
    ("s.put(1, bb)", "null") ∷
    ("x2.add(-9223372036854775808)", "true") ∷
    ("let new = a", "?syntax") ∷
    ("f.lastKey", "NoSuchElementException") ∷
    ("f.put(a, 1)", "null") ∷
    ("let n = s.within([1..2].reverse", "?syntax") ∷
    ("x2.within([b..aa])", "IllegalArgumentException") ∷
    ("let", "?syntax") ∷
    ("x2.union(zz)", "?name") ∷
    ("f.put(1, bb)", "null") ∷
    ("x2.add(1)", "true") ∷
    ("(a)", "?syntax") ∷
    ("it q=j2", "ok") ∷
    ("let g1 = y1.sub(-1, 0)", "IndexOutOfBoundsException") ∷
    ("newq ArrayList", "?syntax") ∷
    ("s.add(9223372036854775808)", "?syntax") ∷
    ("y1.filter(any())", "[1]") ∷
    ("x2.transform(times(-9223372036854775808))", "[0, -9223372036854775808]") ∷
    ("let r2 = x2.add(a b)", "?syntax") ∷
    ("y1.filter(any()).size", "1") ∷
    ("x2.filter( any )", "[-9223372036854775808, 1]") ∷
    ("x2.union(x2)", "[-9223372036854775808, 1]") ∷
    ("x2.within([2..1])", "IllegalArgumentException") ∷
    ("let u2 = x2.within([aa..b]).descending", "ok") ∷
    ("x2.add(a-b)", "true") ∷
    ("x2.filter(any())", "[-9223372036854775808, 1, a-b]") ∷
    ("u2.size()", "0") ∷
    ("u2.add(9223372036854775807)", "IllegalArgumentException") ∷
    ("new m1 TreeRangeSet", "ok") ∷
    ("u2.within([a..1])", "IllegalArgumentException") ∷
    ("zz.size", "?name") ∷
    ("f.add(a b)", "?syntax") ∷
    ("new f UndirectedValueGraphLoops", "ok") ∷
    ("x2.last", "a-b") ∷
    ("x2.add(b)", "true") ∷
    ("let z1 = f.add(-0)", "?syntax") ∷
    ("s.add(9223372036854775808)", "?syntax") ∷
    ("new n2 LinkedHashMap", "ok") ∷
    ("j2.within([1..1))", "?call") ∷
    ("it", "?syntax") ∷
    ("zz", "?name") ∷
    ("j2.add(new)", "true") ∷
    ("let p = j2.filter( any )", "ok") ∷
    ("let l1 = u2.add(-0)", "?syntax") ∷
    ("x2.add(9223372036854775807)", "true") ∷
    ("x2.within( [1 .. 2] )", "[1]") ∷
    ("y1.add(-9223372036854775808)", "true") ∷
    ("x2.add(1)", "false") ∷
    ("s.put(cc, 2)", "null") ∷
    ("x2.filter(any()).descending", "[b, a-b, 9223372036854775807, 1, -9223372036854775808]") ∷
    ("new   q   ArrayList", "ok") ∷
    ("new s1 LinkedHashMap", "ok") ∷
    ("x2.filter(any())", "[-9223372036854775808, 1, 9223372036854775807, a-b, b]") ∷ [])
unfolding literally
script_1 = refl

script_2 : Runs (
    ("new c ArrayList", "ok") ∷
    ("let f1 = c.within([1..2].unmodifiable", "?syntax") ∷
    ("c.transform(then(len, plus(1)))", "[]") ∷
    ("new   q   ArrayList", "ok") ∷
    ("let b1 = c.filter( any ).reverse", "?call") ∷
    ("c.filter( any )", "[]") ∷
    ("let z1 = c.within([1..2].reverse", "?syntax") ∷
    ("c.size( )", "0") ∷
    ("c.add(new)", "true") ∷
    ("c.size( )", "1") ∷
    ("c.transform(then(len, plus(1)))", "[4]") ∷
    ("let q=c", "ok") ∷
    ("c.add(b)", "true") ∷
    ("c . size", "2") ∷
    ("c.add(9223372036854775807)", "true") ∷
    ("c.add(1)", "true") ∷
    ("c.add(1)", "true") ∷
    ("c.addAll(zz)", "?name") ∷
    ("c.get(2147483647)", "IndexOutOfBoundsException") ∷
    ("c.partition(-1).size", "IllegalArgumentException") ∷
    ("c.within( [1 .. 2] )", "?call") ∷
    ("a..b", "?syntax") ∷
    ("let h1 = c.add(a b).descending", "?syntax") ∷
    ("c.add(01)", "?syntax") ∷
    ("new v LinkedHashMap", "ok") ∷
    ("c.add(1)", "true") ∷
    ("c.add(9223372036854775808).first", "?syntax") ∷
    ("c.partition(0)", "IllegalArgumentException") ∷
    ("let x = zz", "?name") ∷
    ("c.add(1)", "true") ∷
    ("new p2 TreeRangeSet", "ok") ∷
    ("let p2 = v.within([b..aa])", "?call") ∷
    ("c.add(9223372036854775808)", "?syntax") ∷
    ("v.filter(any())", "?call") ∷
    ("new m LinkedHashMultiset", "ok") ∷
    ("v.add(01).reverse", "?syntax") ∷
    ("it d1 = v.add([b..1])", "?call") ∷
    ("p2.asRanges.contains([b..a])", "IllegalArgumentException") ∷
    ("m.within([1..2].size", "?syntax") ∷
    ("p2.unmodifiable.add([3..1])", "IllegalArgumentException") ∷
    (" ", "") ∷
    ("new d TreeSet", "ok") ∷
    ("v.add(-0)", "?syntax") ∷
    ("c.filter(not(not(not(not(not(not(not(not(not(not(not(not(not(not(not(not(not(not(not(not(not(not(not(not(not(not(not(not(not(not(not(not(not(not(not(not(not(not(not(not(any))))))))))))))))))))))))))))))))))))))))).size", "7") ∷
    ("v.add(9223372036854775808)", "?syntax") ∷
    ("d.partition(2147483648)", "?call") ∷
    ("let d = d.filter(not(not(not(not(not(not(not(not(not(not(not(not(not(not(not(not(not(not(not(not(not(not(not(not(not(not(not(not(not(not(not(not(not(not(not(not(not(not(not(not(not(not(not(not(not(not(not(not(not(not(not(not(not(not(not(not(not(not(not(not(not(not(not(not(not(not(not(not(not(not(any)))))))))))))))))))))))))))))))))))))))))))))))))))))))))))))))))))))))", "?limit") ∷
    (" # x ", "") ∷
    ("m.add(b)", "true") ∷
    ("let o = d.filter(any)", "ok") ∷
    ("v.get(-2147483648)", "null") ∷
    ("let t = d.immutable", "ok") ∷
    ("o.within([1..2].size", "?syntax") ∷
    ("t.add(1)", "UnsupportedOperationException") ∷
    ("o.add(9223372036854775808)", "?syntax") ∷
    ("d.filter(or(isInt, or(isInt, or(isInt, or(isInt, or(isInt, or(isInt, or(isInt, or(isInt, or(isInt, or(isInt, or(isInt, or(isInt, or(isInt, or(isInt, or(isInt, or(isInt, or(isInt, or(isInt, or(isInt, or(isInt, any)))))))))))))))))))))", "[]") ∷
    ("let", "?syntax") ∷
    ("let p1 = m.first.reverse", "?call") ∷
    ("d.transform(then(len, plus(1)))", "[]") ∷
    ("t.transform(then(len, plus(1)))", "[]") ∷
    ("o.within([1..2]", "?syntax") ∷
    ("c.add(a b)", "?syntax") ∷
    ("d.addAll(1).unmodifiable", "?call") ∷
    ("let", "?syntax") ∷
    ("v.last", "?call") ∷
    ("(a)", "?syntax") ∷
    ("t.add(b)", "UnsupportedOperationException") ∷
    ("new x", "?syntax") ∷
    ("o.addAll(o)", "false") ∷
    ("new d TreeRangeSet", "ok") ∷
    ("new g2 ArrayList", "ok") ∷
    ("t.add(-9223372036854775808)", "UnsupportedOperationException") ∷
    ("m.add(-0)", "?syntax") ∷
    ("new s1 ArrayList", "ok") ∷
    ("s1.partition(-1)", "IllegalArgumentException") ∷
    ("let l1 = s1.filter(any())", "ok") ∷
    ("new a1 TreeMultisetLength", "ok") ∷
    ("m.add(new)", "true") ∷
    ("v.get(-2147483648)", "null") ∷
    ("new a2 LinkedHashMultiset", "ok") ∷ [])
unfolding literally
script_2 = refl

script_3 : Runs (
    ("new s2 TreeMultisetLength", "ok") ∷
    ("s2.put(cc, 2)", "?call") ∷
    ("(a)", "?syntax") ∷
    ("s2.add(1)", "true") ∷
    ("s2.lastEntry", "1") ∷
    ("s2.add(-0)", "?syntax") ∷
    ("new v ArrayList", "ok") ∷
    ("v.add(b)", "true") ∷
    ("v.add(b)", "true") ∷
    ("s2.within([1..1))", "[]") ∷
    ("v.add(01)", "?syntax") ∷
    ("s2.within((1..1))", "IllegalArgumentException") ∷
    ("v.unmodifiable.add([3..1]).reverse", "?call") ∷
    ("v.transform(len)", "[1, 1]") ∷
    ("v.within([1..2]", "?syntax") ∷
    ("s2.add(1)", "true") ∷
    ("v.partition(0)", "IllegalArgumentException") ∷
    ("new k1 LinkedHashMap", "ok") ∷
    ("k1.put(cc, 2)", "null") ∷
    ("s2.addAll(zz)", "?name") ∷
    ("s2.within([2..1]).size", "IllegalArgumentException") ∷
    ("v.add(1)", "true") ∷
    ("let p2 = s2.size()", "?call") ∷
    ("it f1 = v.partition(-1)", "IllegalArgumentException") ∷
    ("new i1 TreeMultisetLength", "ok") ∷
    ("i1.within( [1 .. 2] )", "[]") ∷
    ("s2.addAll(v)", "true") ∷
    ("k1.transform(plus(a))", "?call") ∷
    ("s2.add(a-b)", "true") ∷
    ("i1.add(-0).unmodifiable", "?syntax") ∷
    ("i1.within([3..1])", "IllegalArgumentException") ∷
    ("new w TreeMapLength", "ok") ∷
    ("v.add(9223372036854775808).size", "?syntax") ∷
    ("new g1 TreeSetReverse", "ok") ∷
    ("let x", "?syntax") ∷
    ("new i1 TreeMultisetLength", "ok") ∷
    ("v.add(b)", "true") ∷
    ("w.transform(len)", "?call") ∷
    ("v.partition(2147483648).first", "?call") ∷
    ("w.add(01).size", "?syntax") ∷
    ("new a1 ArrayList", "ok") ∷
    ("a1.get(2147483648)", "?call") ∷
    ("k1.put(cc, 2)", "2") ∷
    ("g1.add(1)", "true") ∷
    ("s2.within([a..1])", "IllegalArgumentException") ∷
    ("a1.size( )", "0") ∷
    ("g1.within([1..2].unmodifiable", "?syntax") ∷
    ("k1.put(a, 1)", "null") ∷
    ("let n1 = s2.immutable", "ok") ∷
    ("s2.add(b)", "true") ∷
    ("let x =", "?syntax") ∷
    ("n1.filter(any()).add(a)", "UnsupportedOperationException") ∷
    ("it", "?syntax") ∷
    ("v.within([1..2]", "?syntax") ∷
    ("s2.within( [1 .. 2] )", "[1 x 3]") ∷
    ("k1.size( )", "2") ∷
    ("g1.size( )", "1") ∷
    ("a1.sub(-1, 0)", "IndexOutOfBoundsException") ∷
    ("v.size( )", "4") ∷
    ("k1.put(a, 1)", "1") ∷
    ("n1.add(a, -1)", "UnsupportedOperationException") ∷
    ("k1.get(-2147483649)", "null") ∷
    ("new j1 LinkedHashMultiset", "ok") ∷
    ("g1.first", "1") ∷
    ("s2.addAll(zz)", "?name") ∷
    ("w.put(cc, 2)", "null") ∷
    ("j1.filter( any )", "[]") ∷
    ("w.add(9223372036854775808)", "?syntax") ∷
    ("g1.within( [1 .. 2] )", "IllegalArgumentException") ∷
    ("let d = a1.transform(times(-9223372036854775808)).unmodifiable", "ok") ∷
    ("new w1 TreeSetReverse", "ok") ∷
    ("s2.add(9223372036854775808).size", "?syntax") ∷
    ("new   q   ArrayList", "ok") ∷
    ("new k1 LinkedHashMultiset", "ok") ∷
    ("zz", "?name") ∷
    ("n1.union(k1)", "[1 x 3, b x 2, a-b]") ∷
    ("a1.transform(then(len, plus(1)))", "[]") ∷
    ("let h1 = g1.within([1..2].reverse", "?syntax") ∷
    ("new n UndirectedValueGraphLoops", "ok") ∷
    ("a1.add(1)", "true") ∷ [])
unfolding literally
script_3 = refl
