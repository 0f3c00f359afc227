-- Each word on a view of each shape, as an expression, behind a name and under an iterator, where it has a meaning.
use Rattle.std.specs.Prelude.{[], ◌∷◌}
use Rattle.std.proofs.Common.{refl}
use Rattle.machine_examples.specs.Scripts.{Runs, literally}

sorted_table : Runs (
    ("new v TreeBasedTable", "ok") ∷
    ("v.put(b, 1, x)", "null") ∷
    ("v.put(a, 0, y)", "null") ∷
    ("v.cellSet", "[(a,0)=y, (b,1)=x]") ∷
    ("let w = v.cellSet", "ok") ∷
    ("it w = v.cellSet", "ok") ∷
    ("v.clear", "ok") ∷
    ("v.column(a)", "{}") ∷
    ("let w = v.column(a)", "ok") ∷
    ("v.columnKeySet", "[]") ∷
    ("let w = v.columnKeySet", "ok") ∷
    ("it w = v.columnKeySet", "ok") ∷
    ("v.columnMap", "{}") ∷
    ("let w = v.columnMap", "ok") ∷
    ("v.contains(a, 1)", "false") ∷
    ("v.contains(a, a)", "false") ∷
    ("v.containsColumn(a)", "false") ∷
    ("v.containsRow(a)", "false") ∷
    ("v.containsValue(a)", "false") ∷
    ("v.get(a, a)", "null") ∷
    ("let w = v.immutable", "ok") ∷
    ("v.isEmpty", "true") ∷
    ("v.put(a, a, a)", "null") ∷
    ("v.remove(a, 1)", "null") ∷
    ("v.remove(a, a)", "a") ∷
    ("v.row(a)", "{}") ∷
    ("let w = v.row(a)", "ok") ∷
    ("v.rowKeySet", "[]") ∷
    ("let w = v.rowKeySet", "ok") ∷
    ("it w = v.rowKeySet", "ok") ∷
    ("v.rowMap", "{}") ∷
    ("let w = v.rowMap", "ok") ∷
    ("v.size", "0") ∷
    ("v.transformValues(len)", "{}") ∷
    ("let w = v.transformValues(len)", "ok") ∷
    ("v.transpose", "{}") ∷
    ("let w = v.transpose", "ok") ∷
    ("v.unmodifiable", "{}") ∷
    ("let w = v.unmodifiable", "ok") ∷
    ("v.values", "[]") ∷
    ("let w = v.values", "ok") ∷
    ("it w = v.values", "ok") ∷ [])
unfolding literally
sorted_table = refl

turned_table : Runs (
    ("new b TreeBasedTable", "ok") ∷
    ("b.put(b, 1, x)", "null") ∷
    ("b.put(a, 0, y)", "null") ∷
    ("let v = b.transpose", "ok") ∷
    ("v.cellSet", "[(0,a)=y, (1,b)=x]") ∷
    ("let w = v.cellSet", "ok") ∷
    ("it w = v.cellSet", "ok") ∷
    ("v.clear", "ok") ∷
    ("v.column(a)", "{}") ∷
    ("let w = v.column(a)", "ok") ∷
    ("v.columnKeySet", "[]") ∷
    ("let w = v.columnKeySet", "ok") ∷
    ("it w = v.columnKeySet", "ok") ∷
    ("v.columnMap", "{}") ∷
    ("let w = v.columnMap", "ok") ∷
    ("v.contains(a, 1)", "false") ∷
    ("v.contains(a, a)", "false") ∷
    ("v.containsColumn(a)", "false") ∷
    ("v.containsRow(a)", "false") ∷
    ("v.containsValue(a)", "false") ∷
    ("v.get(a, a)", "null") ∷
    ("let w = v.immutable", "ok") ∷
    ("v.isEmpty", "true") ∷
    ("v.put(a, a, a)", "null") ∷
    ("v.remove(a, 1)", "null") ∷
    ("v.remove(a, a)", "a") ∷
    ("v.row(a)", "{}") ∷
    ("let w = v.row(a)", "ok") ∷
    ("v.rowKeySet", "[]") ∷
    ("let w = v.rowKeySet", "ok") ∷
    ("it w = v.rowKeySet", "ok") ∷
    ("v.rowMap", "{}") ∷
    ("let w = v.rowMap", "ok") ∷
    ("v.size", "0") ∷
    ("v.transformValues(len)", "{}") ∷
    ("let w = v.transformValues(len)", "ok") ∷
    ("v.transpose", "{}") ∷
    ("let w = v.transpose", "ok") ∷
    ("v.unmodifiable", "{}") ∷
    ("let w = v.unmodifiable", "ok") ∷
    ("v.values", "[]") ∷
    ("let w = v.values", "ok") ∷
    ("it w = v.values", "ok") ∷ [])
unfolding literally
turned_table = refl

groups : Runs (
    ("new b LinkedListMultimap", "ok") ∷
    ("b.put(a, 1)", "true") ∷
    ("let v = b.asMap", "ok") ∷
    ("v.clear", "ok") ∷
    ("v.containsKey(a)", "false") ∷
    ("v.entrySet", "[]") ∷
    ("let w = v.entrySet", "ok") ∷
    ("it w = v.entrySet", "ok") ∷
    ("v.filterKeys(any)", "{}") ∷
    ("let w = v.filterKeys(any)", "ok") ∷
    ("v.get(2)", "null") ∷
    ("let w = v.get(2)", "null") ∷
    ("it w = v.get(2)", "null") ∷
    ("v.get(0)", "null") ∷
    ("let w = v.get(0)", "null") ∷
    ("it w = v.get(0)", "null") ∷
    ("v.get(a)", "null") ∷
    ("let w = v.get(a)", "null") ∷
    ("it w = v.get(a)", "null") ∷
    ("v.isEmpty", "true") ∷
    ("v.keySet", "[]") ∷
    ("let w = v.keySet", "ok") ∷
    ("it w = v.keySet", "ok") ∷
    ("v.remove(a)", "null") ∷
    ("v.size", "0") ∷ [])
unfolding literally
groups = refl

rows_of_a_table : Runs (
    ("new b TreeBasedTable", "ok") ∷
    ("b.put(a, 1, x)", "null") ∷
    ("let v = b.rowMap", "ok") ∷
    ("v.clear", "ok") ∷
    ("v.containsKey(a)", "false") ∷
    ("v.entrySet", "[]") ∷
    ("let w = v.entrySet", "ok") ∷
    ("it w = v.entrySet", "ok") ∷
    ("v.filterKeys(any)", "{}") ∷
    ("let w = v.filterKeys(any)", "ok") ∷
    ("v.get(2)", "null") ∷
    ("let w = v.get(2)", "null") ∷
    ("v.get(0)", "null") ∷
    ("let w = v.get(0)", "null") ∷
    ("v.get(a)", "null") ∷
    ("let w = v.get(a)", "null") ∷
    ("v.isEmpty", "true") ∷
    ("v.keySet", "[]") ∷
    ("let w = v.keySet", "ok") ∷
    ("it w = v.keySet", "ok") ∷
    ("v.remove(a)", "null") ∷
    ("v.size", "0") ∷ [])
unfolding literally
rows_of_a_table = refl

columns_of_a_table : Runs (
    ("new b LinkedTable", "ok") ∷
    ("b.put(1, a, x)", "null") ∷
    ("let v = b.columnMap", "ok") ∷
    ("v.clear", "ok") ∷
    ("v.containsKey(a)", "false") ∷
    ("v.entrySet", "[]") ∷
    ("let w = v.entrySet", "ok") ∷
    ("it w = v.entrySet", "ok") ∷
    ("v.filterKeys(any)", "{}") ∷
    ("let w = v.filterKeys(any)", "ok") ∷
    ("v.get(2)", "null") ∷
    ("let w = v.get(2)", "null") ∷
    ("v.get(0)", "null") ∷
    ("let w = v.get(0)", "null") ∷
    ("v.get(a)", "null") ∷
    ("let w = v.get(a)", "null") ∷
    ("v.isEmpty", "true") ∷
    ("v.keySet", "[]") ∷
    ("let w = v.keySet", "ok") ∷
    ("it w = v.keySet", "ok") ∷
    ("v.remove(a)", "null") ∷
    ("v.size", "0") ∷ [])
unfolding literally
columns_of_a_table = refl

entries : Runs (
    ("new b LinkedHashMap", "ok") ∷
    ("b.put(a, 1)", "null") ∷
    ("let v = b.entrySet", "ok") ∷
    ("v.clear", "ok") ∷
    ("v.contains(a, 1)", "false") ∷
    ("v.contains(a, a)", "false") ∷
    ("v.isEmpty", "true") ∷
    ("v.remove(a, 1)", "false") ∷
    ("v.remove(a, a)", "false") ∷
    ("v.size", "0") ∷ [])
unfolding literally
entries = refl

pairs : Runs (
    ("new b LinkedListMultimap", "ok") ∷
    ("b.put(a, 1)", "true") ∷
    ("let v = b.entries", "ok") ∷
    ("v.clear", "ok") ∷
    ("v.contains(a, 1)", "false") ∷
    ("v.contains(a, a)", "false") ∷
    ("v.isEmpty", "true") ∷
    ("v.remove(a, 1)", "false") ∷
    ("v.remove(a, a)", "false") ∷
    ("v.size", "0") ∷ [])
unfolding literally
pairs = refl

group_rows : Runs (
    ("new b LinkedListMultimap", "ok") ∷
    ("b.put(a, 1)", "true") ∷
    ("let v = b.asMap.entrySet", "ok") ∷
    ("v.clear", "ok") ∷
    ("v.isEmpty", "true") ∷
    ("v.size", "0") ∷ [])
unfolding literally
group_rows = refl

counted_rows : Runs (
    ("new b LinkedHashMultiset", "ok") ∷
    ("b.add(a)", "true") ∷
    ("let v = b.entrySet", "ok") ∷
    ("v.clear", "ok") ∷
    ("v.contains(a, 1)", "false") ∷
    ("v.isEmpty", "true") ∷
    ("v.remove(a, 1)", "false") ∷
    ("v.size", "0") ∷ [])
unfolding literally
counted_rows = refl

cells : Runs (
    ("new b LinkedTable", "ok") ∷
    ("b.put(a, 1, x)", "null") ∷
    ("let v = b.cellSet", "ok") ∷
    ("v.clear", "ok") ∷
    ("v.contains(a, a, a)", "false") ∷
    ("v.isEmpty", "true") ∷
    ("v.remove(a, a, a)", "false") ∷
    ("v.size", "0") ∷ [])
unfolding literally
cells = refl

pieces : Runs (
    ("new b ArrayList", "ok") ∷
    ("b.add(a)", "true") ∷
    ("b.add(1)", "true") ∷
    ("let v = b.partition(1)", "ok") ∷
    ("v.get(2)", "IndexOutOfBoundsException") ∷
    ("let w = v.get(2)", "IndexOutOfBoundsException") ∷
    ("it w = v.get(2)", "IndexOutOfBoundsException") ∷
    ("v.get(0)", "[a]") ∷
    ("let w = v.get(0)", "ok") ∷
    ("it w = v.get(0)", "ok") ∷
    ("v.isEmpty", "false") ∷
    ("v.size", "2") ∷ [])
unfolding literally
pieces = refl

range_set : Runs (
    ("new v TreeRangeSet", "ok") ∷
    ("v.add([1..3])", "ok") ∷
    ("v.add([2..4])", "ok") ∷
    ("v.addAll(v)", "ok") ∷
    ("v.addAll(v)", "ok") ∷
    ("v.asRanges", "[[1..4]]") ∷
    ("let w = v.asRanges", "ok") ∷
    ("it w = v.asRanges", "ok") ∷
    ("v.clear", "ok") ∷
    ("v.complement", "[(-∞..+∞)]") ∷
    ("let w = v.complement", "ok") ∷
    ("v.contains(2)", "false") ∷
    ("v.encloses([2..4])", "false") ∷
    ("v.equals(v)", "true") ∷
    ("v.equals(v)", "true") ∷
    ("v.equals(v)", "true") ∷
    ("v.equals(v)", "true") ∷
    ("v.equals(v)", "true") ∷
    ("let w = v.immutable", "ok") ∷
    ("v.intersects([2..4])", "false") ∷
    ("v.isEmpty", "true") ∷
    ("v.rangeContaining(2)", "null") ∷
    ("v.remove([0..1])", "ok") ∷
    ("v.remove([2..4])", "ok") ∷
    ("v.removeAll(v)", "ok") ∷
    ("v.removeAll(v)", "ok") ∷
    ("v.removeAll(a)", "?name") ∷
    ("v.span", "NoSuchElementException") ∷
    ("v.subRangeSet([2..4])", "[]") ∷
    ("let w = v.subRangeSet([2..4])", "ok") ∷
    ("v.unmodifiable", "[]") ∷
    ("let w = v.unmodifiable", "ok") ∷ [])
unfolding literally
range_set = refl

range_map : Runs (
    ("new v TreeRangeMap", "ok") ∷
    ("v.put([1..3], a)", "ok") ∷
    ("v.asMapOfRanges", "[[1..3]=a]") ∷
    ("let w = v.asMapOfRanges", "ok") ∷
    ("it w = v.asMapOfRanges", "ok") ∷
    ("v.clear", "ok") ∷
    ("v.get(2)", "null") ∷
    ("v.get(0)", "null") ∷
    ("v.getEntry(2)", "null") ∷
    ("let w = v.immutable", "ok") ∷
    ("v.put([2..4], a)", "ok") ∷
    ("v.putCoalescing([2..4], a)", "ok") ∷
    ("v.remove([0..1])", "ok") ∷
    ("v.remove([2..4])", "ok") ∷
    ("v.span", "NoSuchElementException") ∷
    ("v.subRangeMap([2..4])", "{}") ∷
    ("let w = v.subRangeMap([2..4])", "ok") ∷
    ("v.unmodifiable", "{}") ∷
    ("let w = v.unmodifiable", "ok") ∷ [])
unfolding literally
range_map = refl

ranges : Runs (
    ("new b TreeRangeSet", "ok") ∷
    ("b.add([1..3])", "ok") ∷
    ("let v = b.asRanges", "ok") ∷
    ("v.clear", "UnsupportedOperationException") ∷
    ("v.contains([0..1])", "false") ∷
    ("v.isEmpty", "false") ∷
    ("v.remove([0..1])", "UnsupportedOperationException") ∷
    ("v.remove([2..4])", "UnsupportedOperationException") ∷
    ("v.size", "1") ∷ [])
unfolding literally
ranges = refl

range_entries : Runs (
    ("new b TreeRangeMap", "ok") ∷
    ("b.put([1..3], a)", "ok") ∷
    ("let v = b.asMapOfRanges", "ok") ∷
    ("v.clear", "UnsupportedOperationException") ∷
    ("v.contains([0..1], a)", "false") ∷
    ("v.isEmpty", "false") ∷
    ("v.remove([0..1], a)", "UnsupportedOperationException") ∷
    ("v.size", "1") ∷ [])
unfolding literally
range_entries = refl
