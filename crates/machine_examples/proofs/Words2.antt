-- Each word on a view of each shape, as an expression, behind a name and under an iterator, where it has a meaning.
use Rattle.std.specs.Prelude.{[], ◌∷◌}
use Rattle.std.proofs.Common.{refl}
use Rattle.machine_examples.specs.Scripts.{Runs, literally}

map : Runs (
    ("new v LinkedHashMap", "ok") ∷
    ("v.put(a, 1)", "null") ∷
    ("v.clear", "ok") ∷
    ("v.containsKey(a)", "false") ∷
    ("v.containsValue(a)", "false") ∷
    ("v.entrySet", "[]") ∷
    ("let w = v.entrySet", "ok") ∷
    ("it w = v.entrySet", "ok") ∷
    ("v.equals(v)", "true") ∷
    ("v.equals(v)", "true") ∷
    ("v.equals(v)", "true") ∷
    ("v.equals(v)", "true") ∷
    ("v.equals(v)", "true") ∷
    ("v.filterEntries(key(any))", "{}") ∷
    ("let w = v.filterEntries(key(any))", "ok") ∷
    ("v.filterKeys(any)", "{}") ∷
    ("let w = v.filterKeys(any)", "ok") ∷
    ("v.filterValues(any)", "{}") ∷
    ("let w = v.filterValues(any)", "ok") ∷
    ("v.forMap", "{}") ∷
    ("let w = v.forMap", "ok") ∷
    ("v.get(2)", "null") ∷
    ("v.get(0)", "null") ∷
    ("v.get(a)", "null") ∷
    ("let w = v.immutable", "ok") ∷
    ("v.isEmpty", "true") ∷
    ("v.keySet", "[]") ∷
    ("let w = v.keySet", "ok") ∷
    ("it w = v.keySet", "ok") ∷
    ("v.put(a, a)", "null") ∷
    ("v.putAll(v)", "ok") ∷
    ("v.remove(a)", "a") ∷
    ("v.size", "0") ∷
    ("v.transformValues(len)", "{}") ∷
    ("let w = v.transformValues(len)", "ok") ∷
    ("v.unmodifiable", "{}") ∷
    ("let w = v.unmodifiable", "ok") ∷
    ("v.values", "[]") ∷
    ("let w = v.values", "ok") ∷
    ("it w = v.values", "ok") ∷ [])
unfolding literally
map = refl

sorted_map : Runs (
    ("new v TreeMap", "ok") ∷
    ("v.put(a, 1)", "null") ∷
    ("v.clear", "ok") ∷
    ("v.containsKey(a)", "false") ∷
    ("v.containsValue(a)", "false") ∷
    ("v.descending", "{}") ∷
    ("let w = v.descending", "ok") ∷
    ("v.entrySet", "[]") ∷
    ("let w = v.entrySet", "ok") ∷
    ("it w = v.entrySet", "ok") ∷
    ("v.equals(v)", "true") ∷
    ("v.equals(v)", "true") ∷
    ("v.equals(v)", "true") ∷
    ("v.equals(v)", "true") ∷
    ("v.equals(v)", "true") ∷
    ("v.filterEntries(key(any))", "{}") ∷
    ("let w = v.filterEntries(key(any))", "ok") ∷
    ("v.filterKeys(any)", "{}") ∷
    ("let w = v.filterKeys(any)", "ok") ∷
    ("v.filterValues(any)", "{}") ∷
    ("let w = v.filterValues(any)", "ok") ∷
    ("v.firstKey", "NoSuchElementException") ∷
    ("v.forMap", "{}") ∷
    ("let w = v.forMap", "ok") ∷
    ("v.get(2)", "null") ∷
    ("v.get(0)", "null") ∷
    ("v.get(a)", "null") ∷
    ("let w = v.immutable", "ok") ∷
    ("v.isEmpty", "true") ∷
    ("v.keySet", "[]") ∷
    ("let w = v.keySet", "ok") ∷
    ("it w = v.keySet", "ok") ∷
    ("v.lastKey", "NoSuchElementException") ∷
    ("v.put(a, a)", "null") ∷
    ("v.putAll(v)", "ok") ∷
    ("v.remove(a)", "a") ∷
    ("v.size", "0") ∷
    ("v.transformValues(len)", "{}") ∷
    ("let w = v.transformValues(len)", "ok") ∷
    ("v.unmodifiable", "{}") ∷
    ("let w = v.unmodifiable", "ok") ∷
    ("v.values", "[]") ∷
    ("let w = v.values", "ok") ∷
    ("it w = v.values", "ok") ∷
    ("v.within([0..1])", "{}") ∷
    ("let w = v.within([0..1])", "ok") ∷
    ("v.within([2..4])", "{}") ∷
    ("let w = v.within([2..4])", "ok") ∷ [])
unfolding literally
sorted_map = refl

bimap : Runs (
    ("new v HashBiMap", "ok") ∷
    ("v.put(a, 1)", "null") ∷
    ("v.clear", "ok") ∷
    ("v.containsKey(a)", "false") ∷
    ("v.containsValue(a)", "false") ∷
    ("v.entrySet", "[]") ∷
    ("let w = v.entrySet", "ok") ∷
    ("it w = v.entrySet", "ok") ∷
    ("v.equals(v)", "true") ∷
    ("v.equals(v)", "true") ∷
    ("v.equals(v)", "true") ∷
    ("v.equals(v)", "true") ∷
    ("v.equals(v)", "true") ∷
    ("v.filterEntries(key(any))", "{}") ∷
    ("let w = v.filterEntries(key(any))", "ok") ∷
    ("v.filterKeys(any)", "{}") ∷
    ("let w = v.filterKeys(any)", "ok") ∷
    ("v.filterValues(any)", "{}") ∷
    ("let w = v.filterValues(any)", "ok") ∷
    ("v.forMap", "{}") ∷
    ("let w = v.forMap", "ok") ∷
    ("v.forcePut(a, a)", "null") ∷
    ("v.get(2)", "null") ∷
    ("v.get(0)", "null") ∷
    ("v.get(a)", "a") ∷
    ("let w = v.immutable", "ok") ∷
    ("v.inverse", "{a=a}") ∷
    ("let w = v.inverse", "ok") ∷
    ("v.isEmpty", "false") ∷
    ("v.keySet", "[a]") ∷
    ("let w = v.keySet", "ok") ∷
    ("it w = v.keySet", "ok") ∷
    ("v.put(a, a)", "a") ∷
    ("v.remove(a)", "a") ∷
    ("v.size", "0") ∷
    ("v.transformValues(len)", "{}") ∷
    ("let w = v.transformValues(len)", "ok") ∷
    ("v.unmodifiable", "{}") ∷
    ("let w = v.unmodifiable", "ok") ∷
    ("v.values", "[]") ∷
    ("let w = v.values", "ok") ∷
    ("it w = v.values", "ok") ∷ [])
unfolding literally
bimap = refl

bag : Runs (
    ("new v LinkedHashMultiset", "ok") ∷
    ("v.add(a)", "true") ∷
    ("v.add(a)", "true") ∷
    ("v.add(a)", "true") ∷
    ("v.add(a, 1)", "3") ∷
    ("v.addAll(v)", "true") ∷
    ("v.addAll(v)", "true") ∷
    ("v.clear", "ok") ∷
    ("v.contains(2)", "false") ∷
    ("v.contains(a)", "false") ∷
    ("v.containsAll(v)", "true") ∷
    ("v.count(a)", "0") ∷
    ("v.difference(v)", "[]") ∷
    ("let w = v.difference(v)", "ok") ∷
    ("it w = v.difference(v)", "ok") ∷
    ("v.difference(v)", "[]") ∷
    ("let w = v.difference(v)", "ok") ∷
    ("it w = v.difference(v)", "ok") ∷
    ("v.elementSet", "[]") ∷
    ("let w = v.elementSet", "ok") ∷
    ("it w = v.elementSet", "ok") ∷
    ("v.entrySet", "[]") ∷
    ("let w = v.entrySet", "ok") ∷
    ("it w = v.entrySet", "ok") ∷
    ("v.equals(v)", "true") ∷
    ("v.equals(v)", "true") ∷
    ("v.equals(v)", "true") ∷
    ("v.equals(v)", "true") ∷
    ("v.equals(v)", "true") ∷
    ("v.filter(any)", "[]") ∷
    ("let w = v.filter(any)", "ok") ∷
    ("it w = v.filter(any)", "ok") ∷
    ("let w = v.immutable", "ok") ∷
    ("v.intersection(v)", "[]") ∷
    ("let w = v.intersection(v)", "ok") ∷
    ("it w = v.intersection(v)", "ok") ∷
    ("v.intersection(v)", "[]") ∷
    ("let w = v.intersection(v)", "ok") ∷
    ("it w = v.intersection(v)", "ok") ∷
    ("v.intersection(v)", "[]") ∷
    ("let w = v.intersection(v)", "ok") ∷
    ("it w = v.intersection(v)", "ok") ∷
    ("v.isEmpty", "true") ∷
    ("v.remove(a)", "false") ∷
    ("v.remove(a, 1)", "0") ∷
    ("v.removeAll(v)", "false") ∷
    ("v.removeAll(v)", "false") ∷
    ("v.removeAll(a)", "?name") ∷
    ("v.retainAll(v)", "false") ∷
    ("v.setCount(a, 1)", "0") ∷
    ("v.size", "1") ∷
    ("v.sum(v)", "[a x 2]") ∷
    ("let w = v.sum(v)", "ok") ∷
    ("it w = v.sum(v)", "ok") ∷
    ("v.union(v)", "[a]") ∷
    ("let w = v.union(v)", "ok") ∷
    ("it w = v.union(v)", "ok") ∷
    ("v.union(v)", "[a]") ∷
    ("let w = v.union(v)", "ok") ∷
    ("it w = v.union(v)", "ok") ∷
    ("v.unmodifiable", "[a]") ∷
    ("let w = v.unmodifiable", "ok") ∷
    ("it w = v.unmodifiable", "ok") ∷ [])
unfolding literally
bag = refl

sorted_bag : Runs (
    ("new v TreeMultiset", "ok") ∷
    ("v.add(a)", "true") ∷
    ("v.add(a)", "true") ∷
    ("v.add(a)", "true") ∷
    ("v.add(a, 1)", "3") ∷
    ("v.addAll(v)", "true") ∷
    ("v.addAll(v)", "true") ∷
    ("v.clear", "ok") ∷
    ("v.contains(2)", "false") ∷
    ("v.contains(a)", "false") ∷
    ("v.containsAll(v)", "true") ∷
    ("v.count(a)", "0") ∷
    ("v.descending", "[]") ∷
    ("let w = v.descending", "ok") ∷
    ("it w = v.descending", "ok") ∷
    ("v.difference(v)", "[]") ∷
    ("let w = v.difference(v)", "ok") ∷
    ("it w = v.difference(v)", "ok") ∷
    ("v.difference(v)", "[]") ∷
    ("let w = v.difference(v)", "ok") ∷
    ("it w = v.difference(v)", "ok") ∷
    ("v.elementSet", "[]") ∷
    ("let w = v.elementSet", "ok") ∷
    ("it w = v.elementSet", "ok") ∷
    ("v.entrySet", "[]") ∷
    ("let w = v.entrySet", "ok") ∷
    ("it w = v.entrySet", "ok") ∷
    ("v.equals(v)", "true") ∷
    ("v.equals(v)", "true") ∷
    ("v.equals(v)", "true") ∷
    ("v.equals(v)", "true") ∷
    ("v.equals(v)", "true") ∷
    ("v.filter(any)", "[]") ∷
    ("let w = v.filter(any)", "ok") ∷
    ("it w = v.filter(any)", "ok") ∷
    ("v.firstEntry", "null") ∷
    ("let w = v.immutable", "ok") ∷
    ("v.intersection(v)", "[]") ∷
    ("let w = v.intersection(v)", "ok") ∷
    ("it w = v.intersection(v)", "ok") ∷
    ("v.intersection(v)", "[]") ∷
    ("let w = v.intersection(v)", "ok") ∷
    ("it w = v.intersection(v)", "ok") ∷
    ("v.intersection(v)", "[]") ∷
    ("let w = v.intersection(v)", "ok") ∷
    ("it w = v.intersection(v)", "ok") ∷
    ("v.isEmpty", "true") ∷
    ("v.lastEntry", "null") ∷
    ("v.remove(a)", "false") ∷
    ("v.remove(a, 1)", "0") ∷
    ("v.removeAll(v)", "false") ∷
    ("v.removeAll(v)", "false") ∷
    ("v.removeAll(a)", "?name") ∷
    ("v.retainAll(v)", "false") ∷
    ("v.setCount(a, 1)", "0") ∷
    ("v.size", "1") ∷
    ("v.sum(v)", "[a x 2]") ∷
    ("let w = v.sum(v)", "ok") ∷
    ("it w = v.sum(v)", "ok") ∷
    ("v.union(v)", "[a]") ∷
    ("let w = v.union(v)", "ok") ∷
    ("it w = v.union(v)", "ok") ∷
    ("v.union(v)", "[a]") ∷
    ("let w = v.union(v)", "ok") ∷
    ("it w = v.union(v)", "ok") ∷
    ("v.unmodifiable", "[a]") ∷
    ("let w = v.unmodifiable", "ok") ∷
    ("it w = v.unmodifiable", "ok") ∷
    ("v.within([0..1])", "[]") ∷
    ("let w = v.within([0..1])", "ok") ∷
    ("it w = v.within([0..1])", "ok") ∷
    ("v.within([2..4])", "[]") ∷
    ("let w = v.within([2..4])", "ok") ∷
    ("it w = v.within([2..4])", "ok") ∷ [])
unfolding literally
sorted_bag = refl
