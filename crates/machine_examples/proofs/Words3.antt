-- Each word on a view of each shape, as an expression, behind a name and under an iterator, where it has a meaning.
use Rattle.std.specs.Prelude.{[], ◌∷◌}
use Rattle.std.proofs.Common.{refl}
use Rattle.machine_examples.specs.Scripts.{Runs, literally}

list_multimap : Runs (
    ("new v LinkedListMultimap", "ok") ∷
    ("v.put(a, 1)", "true") ∷
    ("v.put(a, 1)", "true") ∷
    ("v.asMap", "{a=[1, 1]}") ∷
    ("let w = v.asMap", "ok") ∷
    ("v.clear", "ok") ∷
    ("v.containsEntry(a, a)", "false") ∷
    ("v.containsKey(a)", "false") ∷
    ("v.containsValue(a)", "false") ∷
    ("v.entries", "[]") ∷
    ("let w = v.entries", "ok") ∷
    ("it w = v.entries", "ok") ∷
    ("v.filterEntries(key(any))", "{}") ∷
    ("let w = v.filterEntries(key(any))", "ok") ∷
    ("v.filterKeys(any)", "{}") ∷
    ("let w = v.filterKeys(any)", "ok") ∷
    ("v.filterValues(any)", "{}") ∷
    ("let w = v.filterValues(any)", "ok") ∷
    ("v.get(2)", "[]") ∷
    ("let w = v.get(2)", "ok") ∷
    ("it w = v.get(2)", "ok") ∷
    ("v.get(0)", "[]") ∷
    ("let w = v.get(0)", "ok") ∷
    ("it w = v.get(0)", "ok") ∷
    ("v.get(a)", "[]") ∷
    ("let w = v.get(a)", "ok") ∷
    ("it w = v.get(a)", "ok") ∷
    ("let w = v.immutable", "ok") ∷
    ("v.isEmpty", "true") ∷
    ("v.keySet", "[]") ∷
    ("let w = v.keySet", "ok") ∷
    ("it w = v.keySet", "ok") ∷
    ("v.keys", "[]") ∷
    ("let w = v.keys", "ok") ∷
    ("it w = v.keys", "ok") ∷
    ("v.put(a, a)", "true") ∷
    ("v.remove(a, 1)", "false") ∷
    ("v.remove(a, a)", "true") ∷
    ("v.removeAll(v)", "[]") ∷
    ("v.removeAll(v)", "[]") ∷
    ("v.removeAll(a)", "[]") ∷
    ("v.size", "0") ∷
    ("v.transformValues(len)", "{}") ∷
    ("let w = v.transformValues(len)", "ok") ∷
    ("v.unmodifiable", "{}") ∷
    ("let w = v.unmodifiable", "ok") ∷
    ("v.values", "[]") ∷
    ("let w = v.values", "ok") ∷
    ("it w = v.values", "ok") ∷ [])
unfolding literally
list_multimap = refl

grouped_multimap : Runs (
    ("new v LinkedArrayListMultimap", "ok") ∷
    ("v.put(a, 1)", "true") ∷
    ("v.put(a, 1)", "true") ∷
    ("v.asMap", "{a=[1, 1]}") ∷
    ("let w = v.asMap", "ok") ∷
    ("v.clear", "ok") ∷
    ("v.containsEntry(a, a)", "false") ∷
    ("v.containsKey(a)", "false") ∷
    ("v.containsValue(a)", "false") ∷
    ("v.entries", "[]") ∷
    ("let w = v.entries", "ok") ∷
    ("it w = v.entries", "ok") ∷
    ("v.filterEntries(key(any))", "{}") ∷
    ("let w = v.filterEntries(key(any))", "ok") ∷
    ("v.filterKeys(any)", "{}") ∷
    ("let w = v.filterKeys(any)", "ok") ∷
    ("v.filterValues(any)", "{}") ∷
    ("let w = v.filterValues(any)", "ok") ∷
    ("v.get(2)", "[]") ∷
    ("let w = v.get(2)", "ok") ∷
    ("it w = v.get(2)", "ok") ∷
    ("v.get(0)", "[]") ∷
    ("let w = v.get(0)", "ok") ∷
    ("it w = v.get(0)", "ok") ∷
    ("v.get(a)", "[]") ∷
    ("let w = v.get(a)", "ok") ∷
    ("it w = v.get(a)", "ok") ∷
    ("let w = v.immutable", "ok") ∷
    ("v.isEmpty", "true") ∷
    ("v.keySet", "[]") ∷
    ("let w = v.keySet", "ok") ∷
    ("it w = v.keySet", "ok") ∷
    ("v.keys", "[]") ∷
    ("let w = v.keys", "ok") ∷
    ("it w = v.keys", "ok") ∷
    ("v.put(a, a)", "true") ∷
    ("v.remove(a, 1)", "false") ∷
    ("v.remove(a, a)", "true") ∷
    ("v.removeAll(v)", "[]") ∷
    ("v.removeAll(v)", "[]") ∷
    ("v.removeAll(a)", "[]") ∷
    ("v.size", "0") ∷
    ("v.transformValues(len)", "{}") ∷
    ("let w = v.transformValues(len)", "ok") ∷
    ("v.unmodifiable", "{}") ∷
    ("let w = v.unmodifiable", "ok") ∷
    ("v.values", "[]") ∷
    ("let w = v.values", "ok") ∷
    ("it w = v.values", "ok") ∷ [])
unfolding literally
grouped_multimap = refl

set_multimap : Runs (
    ("new v LinkedHashMultimap", "ok") ∷
    ("v.put(a, 1)", "true") ∷
    ("v.put(a, 2)", "true") ∷
    ("v.asMap", "{a=[1, 2]}") ∷
    ("let w = v.asMap", "ok") ∷
    ("v.clear", "ok") ∷
    ("v.containsEntry(a, a)", "false") ∷
    ("v.containsKey(a)", "false") ∷
    ("v.containsValue(a)", "false") ∷
    ("v.entries", "[]") ∷
    ("let w = v.entries", "ok") ∷
    ("it w = v.entries", "ok") ∷
    ("v.filterEntries(key(any))", "{}") ∷
    ("let w = v.filterEntries(key(any))", "ok") ∷
    ("v.filterKeys(any)", "{}") ∷
    ("let w = v.filterKeys(any)", "ok") ∷
    ("v.filterValues(any)", "{}") ∷
    ("let w = v.filterValues(any)", "ok") ∷
    ("v.get(2)", "[]") ∷
    ("let w = v.get(2)", "ok") ∷
    ("it w = v.get(2)", "ok") ∷
    ("v.get(0)", "[]") ∷
    ("let w = v.get(0)", "ok") ∷
    ("it w = v.get(0)", "ok") ∷
    ("v.get(a)", "[]") ∷
    ("let w = v.get(a)", "ok") ∷
    ("it w = v.get(a)", "ok") ∷
    ("let w = v.immutable", "ok") ∷
    ("v.isEmpty", "true") ∷
    ("v.keySet", "[]") ∷
    ("let w = v.keySet", "ok") ∷
    ("it w = v.keySet", "ok") ∷
    ("v.keys", "[]") ∷
    ("let w = v.keys", "ok") ∷
    ("it w = v.keys", "ok") ∷
    ("v.put(a, a)", "true") ∷
    ("v.remove(a, 1)", "false") ∷
    ("v.remove(a, a)", "true") ∷
    ("v.removeAll(v)", "[]") ∷
    ("v.removeAll(v)", "[]") ∷
    ("v.removeAll(a)", "[]") ∷
    ("v.size", "0") ∷
    ("v.transformValues(len)", "{}") ∷
    ("let w = v.transformValues(len)", "ok") ∷
    ("v.unmodifiable", "{}") ∷
    ("let w = v.unmodifiable", "ok") ∷
    ("v.values", "[]") ∷
    ("let w = v.values", "ok") ∷
    ("it w = v.values", "ok") ∷ [])
unfolding literally
set_multimap = refl

sorted_multimap : Runs (
    ("new v TreeMultimap", "ok") ∷
    ("v.put(a, 1)", "true") ∷
    ("v.put(a, 0)", "true") ∷
    ("v.asMap", "{a=[0, 1]}") ∷
    ("let w = v.asMap", "ok") ∷
    ("v.clear", "ok") ∷
    ("v.containsEntry(a, a)", "false") ∷
    ("v.containsKey(a)", "false") ∷
    ("v.containsValue(a)", "false") ∷
    ("v.entries", "[]") ∷
    ("let w = v.entries", "ok") ∷
    ("it w = v.entries", "ok") ∷
    ("v.filterEntries(key(any))", "{}") ∷
    ("let w = v.filterEntries(key(any))", "ok") ∷
    ("v.filterKeys(any)", "{}") ∷
    ("let w = v.filterKeys(any)", "ok") ∷
    ("v.filterValues(any)", "{}") ∷
    ("let w = v.filterValues(any)", "ok") ∷
    ("v.get(2)", "[]") ∷
    ("let w = v.get(2)", "ok") ∷
    ("it w = v.get(2)", "ok") ∷
    ("v.get(0)", "[]") ∷
    ("let w = v.get(0)", "ok") ∷
    ("it w = v.get(0)", "ok") ∷
    ("v.get(a)", "[]") ∷
    ("let w = v.get(a)", "ok") ∷
    ("it w = v.get(a)", "ok") ∷
    ("let w = v.immutable", "ok") ∷
    ("v.isEmpty", "true") ∷
    ("v.keySet", "[]") ∷
    ("let w = v.keySet", "ok") ∷
    ("it w = v.keySet", "ok") ∷
    ("v.keys", "[]") ∷
    ("let w = v.keys", "ok") ∷
    ("it w = v.keys", "ok") ∷
    ("v.put(a, a)", "true") ∷
    ("v.remove(a, 1)", "false") ∷
    ("v.remove(a, a)", "true") ∷
    ("v.removeAll(v)", "[]") ∷
    ("v.removeAll(v)", "[]") ∷
    ("v.removeAll(a)", "[]") ∷
    ("v.size", "0") ∷
    ("v.transformValues(len)", "{}") ∷
    ("let w = v.transformValues(len)", "ok") ∷
    ("v.unmodifiable", "{}") ∷
    ("let w = v.unmodifiable", "ok") ∷
    ("v.values", "[]") ∷
    ("let w = v.values", "ok") ∷
    ("it w = v.values", "ok") ∷ [])
unfolding literally
sorted_multimap = refl

filtered_multimap : Runs (
    ("new b LinkedListMultimap", "ok") ∷
    ("b.put(a, 1)", "true") ∷
    ("b.put(a, 1)", "true") ∷
    ("let v = b.filterValues(any)", "ok") ∷
    ("v.asMap", "{a=[1, 1]}") ∷
    ("let w = v.asMap", "ok") ∷
    ("v.clear", "ok") ∷
    ("v.containsEntry(a, a)", "false") ∷
    ("v.containsKey(a)", "false") ∷
    ("v.containsValue(a)", "false") ∷
    ("v.entries", "[]") ∷
    ("let w = v.entries", "ok") ∷
    ("it w = v.entries", "ok") ∷
    ("v.filterEntries(key(any))", "{}") ∷
    ("let w = v.filterEntries(key(any))", "ok") ∷
    ("v.filterKeys(any)", "{}") ∷
    ("let w = v.filterKeys(any)", "ok") ∷
    ("v.filterValues(any)", "{}") ∷
    ("let w = v.filterValues(any)", "ok") ∷
    ("v.get(2)", "[]") ∷
    ("let w = v.get(2)", "ok") ∷
    ("it w = v.get(2)", "ok") ∷
    ("v.get(0)", "[]") ∷
    ("let w = v.get(0)", "ok") ∷
    ("it w = v.get(0)", "ok") ∷
    ("v.get(a)", "[]") ∷
    ("let w = v.get(a)", "ok") ∷
    ("it w = v.get(a)", "ok") ∷
    ("let w = v.immutable", "ok") ∷
    ("v.isEmpty", "true") ∷
    ("v.keySet", "[]") ∷
    ("let w = v.keySet", "ok") ∷
    ("it w = v.keySet", "ok") ∷
    ("v.keys", "[]") ∷
    ("let w = v.keys", "ok") ∷
    ("it w = v.keys", "ok") ∷
    ("v.put(a, a)", "true") ∷
    ("v.remove(a, 1)", "false") ∷
    ("v.remove(a, a)", "true") ∷
    ("v.removeAll(v)", "[]") ∷
    ("v.removeAll(v)", "[]") ∷
    ("v.removeAll(a)", "[]") ∷
    ("v.size", "0") ∷
    ("v.transformValues(len)", "{}") ∷
    ("let w = v.transformValues(len)", "ok") ∷
    ("v.unmodifiable", "{}") ∷
    ("let w = v.unmodifiable", "ok") ∷
    ("v.values", "[]") ∷
    ("let w = v.values", "ok") ∷
    ("it w = v.values", "ok") ∷ [])
unfolding literally
filtered_multimap = refl

table : Runs (
    ("new v LinkedTable", "ok") ∷
    ("v.put(a, 1, x)", "null") ∷
    ("v.put(b, 0, y)", "null") ∷
    ("v.cellSet", "[(a,1)=x, (b,0)=y]") ∷
    ("let w = v.cellSet", "ok") ∷
    ("it w = v.cellSet", "ok") ∷
    ("v.clear", "ok") ∷
    ("v.column(a)", "{}") ∷
    ("let w = v.column(a)", "ok") ∷
    ("v.columnKeySet", "[]") ∷
    ("let w = v.columnKeySet", "ok") ∷
    ("it w = v.columnKeySet", "ok") ∷
    ("v.columnMap", "{}") ∷
    ("let w = v.columnMap", "ok") ∷
    ("v.contains(a, 1)", "false") ∷
    ("v.contains(a, a)", "false") ∷
    ("v.containsColumn(a)", "false") ∷
    ("v.containsRow(a)", "false") ∷
    ("v.containsValue(a)", "false") ∷
    ("v.get(a, a)", "null") ∷
    ("let w = v.immutable", "ok") ∷
    ("v.isEmpty", "true") ∷
    ("v.put(a, a, a)", "null") ∷
    ("v.remove(a, 1)", "null") ∷
    ("v.remove(a, a)", "a") ∷
    ("v.row(a)", "{}") ∷
    ("let w = v.row(a)", "ok") ∷
    ("v.rowKeySet", "[]") ∷
    ("let w = v.rowKeySet", "ok") ∷
    ("it w = v.rowKeySet", "ok") ∷
    ("v.rowMap", "{}") ∷
    ("let w = v.rowMap", "ok") ∷
    ("v.size", "0") ∷
    ("v.transformValues(len)", "{}") ∷
    ("let w = v.transformValues(len)", "ok") ∷
    ("v.transpose", "{}") ∷
    ("let w = v.transpose", "ok") ∷
    ("v.unmodifiable", "{}") ∷
    ("let w = v.unmodifiable", "ok") ∷
    ("v.values", "[]") ∷
    ("let w = v.values", "ok") ∷
    ("it w = v.values", "ok") ∷ [])
unfolding literally
table = refl
