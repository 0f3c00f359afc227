-- Scripts on tables.
use Rattle.std.specs.Prelude.{[], ◌∷◌}
use Rattle.std.proofs.Common.{refl}
use Rattle.machine_examples.specs.Scripts.{Runs, literally}

-- a linked table goes by first cells
rows_and_columns : Runs (
    ("new t LinkedTable", "ok") ∷
    ("t.put(r, a, 1)", "null") ∷
    ("t.put(s, b, 2)", "null") ∷
    ("t.put(r, b, 3)", "null") ∷
    ("t.put(s, a, 4)", "null") ∷
    ("t.cellSet", "[(r,a)=1, (r,b)=3, (s,b)=2, (s,a)=4]") ∷
    ("t.columnKeySet", "[a, b]") ∷
    ("t.rowKeySet", "[r, s]") ∷
    ("t.columnMap", "{a={r=1, s=4}, b={r=3, s=2}}") ∷
    ("t.row(s)", "{b=2, a=4}") ∷
    ("t.column(a)", "{r=1, s=4}") ∷
    ("t.column(b).put(q, 5)", "null") ∷
    ("t.row(r).put(a, 9)", "1") ∷
    ("t.cellSet", "[(r,a)=9, (r,b)=3, (s,b)=2, (s,a)=4, (q,b)=5]") ∷
    ("t.get(r, a)", "9") ∷
    ("t.contains(s, c)", "false") ∷
    ("t.containsRow(q)", "true") ∷
    ("t.containsColumn(c)", "false") ∷
    ("t.containsValue(5)", "true") ∷
    ("t.remove(r, b)", "3") ∷
    ("t.columnKeySet", "[a, b]") ∷
    ("t.remove(r, b)", "null") ∷
    ("t.row(z).put(a, 1)", "null") ∷
    ("t", "{r={a=9}, s={b=2, a=4}, q={b=5}, z={a=1}}") ∷
    ("t.size", "5") ∷ [])
unfolding literally
rows_and_columns = refl

-- rows and columns exchanged, cells in the same order
a_mirrored_table : Runs (
    ("new t LinkedTable", "ok") ∷
    ("t.put(r, a, 1)", "null") ∷
    ("t.put(s, b, 2)", "null") ∷
    ("t.put(r, b, 3)", "null") ∷
    ("let u = t.transpose", "ok") ∷
    ("u", "{a={r=1}, b={r=3, s=2}}") ∷
    ("u.cellSet", "[(a,r)=1, (b,r)=3, (b,s)=2]") ∷
    ("u.rowKeySet", "[a, b]") ∷
    ("u.columnKeySet", "[r, s]") ∷
    ("u.row(b)", "{r=3, s=2}") ∷
    ("u.column(r)", "{a=1, b=3}") ∷
    ("u.rowMap", "{a={r=1}, b={r=3, s=2}}") ∷
    ("u.columnMap", "{r={a=1, b=3}, s={b=2}}") ∷
    ("u.put(c, r, 7)", "null") ∷
    ("t.cellSet", "[(r,a)=1, (r,b)=3, (r,c)=7, (s,b)=2]") ∷
    ("u.row(b).put(z, 8)", "null") ∷
    ("u.rowMap.get(b).remove(s)", "2") ∷
    ("t", "{r={a=1, b=3, c=7}, z={b=8}}") ∷
    ("u.rowMap.remove(b)", "{r=3, z=8}") ∷
    ("u.columnKeySet.remove(r)", "true") ∷
    ("t", "{}") ∷
    ("u.transpose.rowMap", "{}") ∷ [])
unfolding literally
a_mirrored_table = refl

-- those of a sorted table through any steps
columns_sorted_or_by_first_cell : Runs (
    ("new t TreeBasedTable", "ok") ∷
    ("t.put(2, b, x)", "null") ∷
    ("t.put(1, c, y)", "null") ∷
    ("t.put(2, a, z)", "null") ∷
    ("t.columnKeySet", "[a, b, c]") ∷
    ("t.columnMap", "{a={2=z}, b={2=x}, c={1=y}}") ∷
    ("t.transpose.rowKeySet", "[a, b, c]") ∷
    ("t.transpose.rowMap", "{a={2=z}, b={2=x}, c={1=y}}") ∷
    ("t.transpose", "{a={2=z}, b={2=x}, c={1=y}}") ∷
    ("t.transpose.columnMap", "{1={c=y}, 2={a=z, b=x}}") ∷
    ("t.transformValues(prefix(v)).columnMap", "{a={2=vz}, b={2=vx}, c={1=vy}}") ∷
    ("t.unmodifiable.columnKeySet", "[a, b, c]") ∷
    ("t.transpose.transpose.columnKeySet", "[a, b, c]") ∷
    ("t.rowKeySet.first", "1") ∷
    ("t.row(2).firstKey", "a") ∷
    ("t.row(2).within([b..+∞)).put(a, q)", "IllegalArgumentException") ∷
    ("t.row(2).descending", "{b=x, a=z}") ∷
    ("t.column(b).put(0, w)", "null") ∷
    ("t", "{0={b=w}, 1={c=y}, 2={a=z, b=x}}") ∷
    ("t.rowMap.get(2)", "{a=z, b=x}") ∷
    ("t.rowMap.get(3)", "null") ∷
    ("t.columnMap.get(b).put(5, v)", "null") ∷
    ("t", "{0={b=w}, 1={c=y}, 2={a=z, b=x}, 5={b=v}}") ∷
    ("new l LinkedTable", "ok") ∷
    ("l.put(2, b, x)", "null") ∷
    ("l.put(1, c, y)", "null") ∷
    ("l.put(2, a, z)", "null") ∷
    ("l.columnKeySet", "[b, a, c]") ∷
    ("l.transpose.rowMap", "{b={2=x}, a={2=z}, c={1=y}}") ∷ [])
unfolding literally
columns_sorted_or_by_first_cell = refl

-- a cell, a row, a column, a value
removing_from_tables : Runs (
    ("new t LinkedTable", "ok") ∷
    ("t.put(r, a, 1)", "null") ∷
    ("t.put(s, b, 1)", "null") ∷
    ("t.put(r, b, 3)", "null") ∷
    ("t.put(q, a, 4)", "null") ∷
    ("t.values", "[1, 3, 1, 4]") ∷
    ("t.values.remove(1)", "true") ∷
    ("t", "{r={b=3}, s={b=1}, q={a=4}}") ∷
    ("t.cellSet.contains(r, b, 3)", "true") ∷
    ("t.cellSet.remove(r, b, 4)", "false") ∷
    ("t.cellSet.remove(r, b, 3)", "true") ∷
    ("t.rowMap.remove(q)", "{a=4}") ∷
    ("t", "{s={b=1}}") ∷
    ("t.put(r, a, 5)", "null") ∷
    ("t.columnMap.remove(a)", "{r=5}") ∷
    ("t", "{s={b=1}}") ∷
    ("t.rowMap.keySet.remove(s)", "true") ∷
    ("t.isEmpty", "true") ∷
    ("t.unmodifiable.put(r, a, 1)", "UnsupportedOperationException") ∷
    ("t.transformValues(neg).put(r, a, 1)", "UnsupportedOperationException") ∷
    ("t.cellSet.clear", "ok") ∷ [])
unfolding literally
removing_from_tables = refl

-- rows go by their first cell, cells stay in the order given
frozen_tables : Runs (
    ("new t LinkedTable", "ok") ∷
    ("t.put(r, a, 1)", "null") ∷
    ("t.put(s, b, 2)", "null") ∷
    ("t.put(r, b, 3)", "null") ∷
    ("let c = t.transpose.immutable", "ok") ∷
    ("c", "{a={r=1}, b={r=3, s=2}}") ∷
    ("c.cellSet", "[(a,r)=1, (b,r)=3, (b,s)=2]") ∷
    ("c.columnMap", "{r={a=1, b=3}, s={b=2}}") ∷
    ("c.rowKeySet", "[a, b]") ∷
    ("c.put(a, r, 1)", "UnsupportedOperationException") ∷
    ("c.column(r)", "{a=1, b=3}") ∷
    ("c.transpose.rowMap", "{r={a=1, b=3}, s={b=2}}") ∷
    ("new m LinkedListMultimap", "ok") ∷
    ("m.put(x, 1)", "true") ∷
    ("m.put(y, 2)", "true") ∷
    ("m.put(x, 3)", "true") ∷
    ("let k = m.immutable", "ok") ∷
    ("k.entries", "[x=1, x=3, y=2]") ∷
    ("k.keySet", "[x, y]") ∷
    ("let j = m.transformValues(neg).immutable", "ok") ∷
    ("j.entries", "[x=-1, x=-3, y=-2]") ∷
    ("new b LinkedHashMultiset", "ok") ∷
    ("let d = m.keys.immutable", "ok") ∷
    ("d", "[x x 2, y]") ∷
    ("walk d", "?syntax") ∷
    ("d.add(x)", "UnsupportedOperationException") ∷ [])
unfolding literally
frozen_tables = refl
