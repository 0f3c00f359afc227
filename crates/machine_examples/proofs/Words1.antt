-- Each word on a view of each shape, as an expression, behind a name and under an iterator, where it has a meaning.
use Rattle.std.specs.Prelude.{[], ◌∷◌}
use Rattle.std.proofs.Common.{refl}
use Rattle.machine_examples.specs.Scripts.{Runs, literally}

list : Runs (
    ("new v ArrayList", "ok") ∷
    ("v.add(a)", "true") ∷
    ("v.add(1)", "true") ∷
    ("v.add(0, a)", "ok") ∷
    ("v.add(a)", "true") ∷
    ("v.addAll(v)", "true") ∷
    ("v.addAll(v)", "true") ∷
    ("v.clear", "ok") ∷
    ("v.contains(2)", "false") ∷
    ("v.contains(a)", "false") ∷
    ("v.containsAll(v)", "true") ∷
    ("v.equals(v)", "true") ∷
    ("v.equals(v)", "true") ∷
    ("v.equals(v)", "true") ∷
    ("v.equals(v)", "true") ∷
    ("v.equals(v)", "true") ∷
    ("v.filter(any)", "[]") ∷
    ("let w = v.filter(any)", "ok") ∷
    ("it w = v.filter(any)", "ok") ∷
    ("v.get(2)", "IndexOutOfBoundsException") ∷
    ("v.get(0)", "IndexOutOfBoundsException") ∷
    ("let w = v.immutable", "ok") ∷
    ("v.indexOf(a)", "-1") ∷
    ("v.isEmpty", "true") ∷
    ("v.partition(1)", "[]") ∷
    ("let w = v.partition(1)", "ok") ∷
    ("it w = v.partition(1)", "ok") ∷
    ("v.remove(a)", "false") ∷
    ("v.removeAll(v)", "false") ∷
    ("v.removeAll(v)", "false") ∷
    ("v.removeAll(a)", "?name") ∷
    ("v.removeAt(0)", "IndexOutOfBoundsException") ∷
    ("v.retainAll(v)", "false") ∷
    ("v.reverse", "[]") ∷
    ("let w = v.reverse", "ok") ∷
    ("it w = v.reverse", "ok") ∷
    ("v.set(0, a)", "IndexOutOfBoundsException") ∷
    ("v.size", "0") ∷
    ("v.sub(0, 0)", "[]") ∷
    ("let w = v.sub(0, 0)", "ok") ∷
    ("it w = v.sub(0, 0)", "ok") ∷
    ("v.transform(len)", "[]") ∷
    ("let w = v.transform(len)", "ok") ∷
    ("it w = v.transform(len)", "ok") ∷
    ("v.unmodifiable", "[]") ∷
    ("let w = v.unmodifiable", "ok") ∷
    ("it w = v.unmodifiable", "ok") ∷ [])
unfolding literally
list = refl

set : Runs (
    ("new v LinkedHashSet", "ok") ∷
    ("v.add(a)", "true") ∷
    ("v.add(1)", "true") ∷
    ("v.add(a)", "false") ∷
    ("v.addAll(v)", "false") ∷
    ("v.addAll(v)", "false") ∷
    ("v.asMap(len)", "{a=1, 1=1}") ∷
    ("let w = v.asMap(len)", "ok") ∷
    ("v.clear", "ok") ∷
    ("v.contains(2)", "false") ∷
    ("v.contains(a)", "false") ∷
    ("v.containsAll(v)", "true") ∷
    ("v.difference(v)", "[]") ∷
    ("let w = v.difference(v)", "ok") ∷
    ("it w = v.difference(v)", "ok") ∷
    ("v.difference(v)", "[]") ∷
    ("let w = v.difference(v)", "ok") ∷
    ("it w = v.difference(v)", "ok") ∷
    ("v.equals(v)", "true") ∷
    ("v.equals(v)", "true") ∷
    ("v.equals(v)", "true") ∷
    ("v.equals(v)", "true") ∷
    ("v.equals(v)", "true") ∷
    ("v.filter(any)", "[]") ∷
    ("let w = v.filter(any)", "ok") ∷
    ("it w = v.filter(any)", "ok") ∷
    ("let w = v.immutable", "ok") ∷
    ("v.intersection(v)", "[]") ∷
    ("let w = v.intersection(v)", "ok") ∷
    ("it w = v.intersection(v)", "ok") ∷
    ("v.intersection(v)", "[]") ∷
    ("let w = v.intersection(v)", "ok") ∷
    ("it w = v.intersection(v)", "ok") ∷
    ("v.intersection(v)", "[]") ∷
    ("let w = v.intersection(v)", "ok") ∷
    ("it w = v.intersection(v)", "ok") ∷
    ("v.isEmpty", "true") ∷
    ("v.remove(a)", "false") ∷
    ("v.removeAll(v)", "false") ∷
    ("v.removeAll(v)", "false") ∷
    ("v.removeAll(a)", "?name") ∷
    ("v.retainAll(v)", "false") ∷
    ("v.size", "0") ∷
    ("v.symmetricDifference(v)", "[]") ∷
    ("let w = v.symmetricDifference(v)", "ok") ∷
    ("it w = v.symmetricDifference(v)", "ok") ∷
    ("v.transform(len)", "[]") ∷
    ("let w = v.transform(len)", "ok") ∷
    ("it w = v.transform(len)", "ok") ∷
    ("v.union(v)", "[]") ∷
    ("let w = v.union(v)", "ok") ∷
    ("it w = v.union(v)", "ok") ∷
    ("v.union(v)", "[]") ∷
    ("let w = v.union(v)", "ok") ∷
    ("it w = v.union(v)", "ok") ∷
    ("v.unmodifiable", "[]") ∷
    ("let w = v.unmodifiable", "ok") ∷
    ("it w = v.unmodifiable", "ok") ∷ [])
unfolding literally
set = refl

sorted_set : Runs (
    ("new v TreeSet", "ok") ∷
    ("v.add(a)", "true") ∷
    ("v.add(1)", "true") ∷
    ("v.add(a)", "false") ∷
    ("v.addAll(v)", "false") ∷
    ("v.addAll(v)", "false") ∷
    ("v.asMap(len)", "{1=1, a=1}") ∷
    ("let w = v.asMap(len)", "ok") ∷
    ("v.clear", "ok") ∷
    ("v.contains(2)", "false") ∷
    ("v.contains(a)", "false") ∷
    ("v.containsAll(v)", "true") ∷
    ("v.descending", "[]") ∷
    ("let w = v.descending", "ok") ∷
    ("it w = v.descending", "ok") ∷
    ("v.difference(v)", "[]") ∷
    ("let w = v.difference(v)", "ok") ∷
    ("it w = v.difference(v)", "ok") ∷
    ("v.difference(v)", "[]") ∷
    ("let w = v.difference(v)", "ok") ∷
    ("it w = v.difference(v)", "ok") ∷
    ("v.equals(v)", "true") ∷
    ("v.equals(v)", "true") ∷
    ("v.equals(v)", "true") ∷
    ("v.equals(v)", "true") ∷
    ("v.equals(v)", "true") ∷
    ("v.filter(any)", "[]") ∷
    ("let w = v.filter(any)", "ok") ∷
    ("it w = v.filter(any)", "ok") ∷
    ("v.first", "NoSuchElementException") ∷
    ("let w = v.immutable", "ok") ∷
    ("v.intersection(v)", "[]") ∷
    ("let w = v.intersection(v)", "ok") ∷
    ("it w = v.intersection(v)", "ok") ∷
    ("v.intersection(v)", "[]") ∷
    ("let w = v.intersection(v)", "ok") ∷
    ("it w = v.intersection(v)", "ok") ∷
    ("v.intersection(v)", "[]") ∷
    ("let w = v.intersection(v)", "ok") ∷
    ("it w = v.intersection(v)", "ok") ∷
    ("v.isEmpty", "true") ∷
    ("v.last", "NoSuchElementException") ∷
    ("v.remove(a)", "false") ∷
    ("v.removeAll(v)", "false") ∷
    ("v.removeAll(v)", "false") ∷
    ("v.removeAll(a)", "?name") ∷
    ("v.retainAll(v)", "false") ∷
    ("v.size", "0") ∷
    ("v.symmetricDifference(v)", "[]") ∷
    ("let w = v.symmetricDifference(v)", "ok") ∷
    ("it w = v.symmetricDifference(v)", "ok") ∷
    ("v.transform(len)", "[]") ∷
    ("let w = v.transform(len)", "ok") ∷
    ("it w = v.transform(len)", "ok") ∷
    ("v.union(v)", "[]") ∷
    ("let w = v.union(v)", "ok") ∷
    ("it w = v.union(v)", "ok") ∷
    ("v.union(v)", "[]") ∷
    ("let w = v.union(v)", "ok") ∷
    ("it w = v.union(v)", "ok") ∷
    ("v.unmodifiable", "[]") ∷
    ("let w = v.unmodifiable", "ok") ∷
    ("it w = v.unmodifiable", "ok") ∷
    ("v.within([0..1])", "[]") ∷
    ("let w = v.within([0..1])", "ok") ∷
    ("it w = v.within([0..1])", "ok") ∷
    ("v.within([2..4])", "[]") ∷
    ("let w = v.within([2..4])", "ok") ∷
    ("it w = v.within([2..4])", "ok") ∷ [])
unfolding literally
sorted_set = refl

reversed_set : Runs (
    ("new v TreeSetReverse", "ok") ∷
    ("v.add(a)", "true") ∷
    ("v.add(1)", "true") ∷
    ("v.add(a)", "false") ∷
    ("v.addAll(v)", "false") ∷
    ("v.addAll(v)", "false") ∷
    ("v.asMap(len)", "{a=1, 1=1}") ∷
    ("let w = v.asMap(len)", "ok") ∷
    ("v.clear", "ok") ∷
    ("v.contains(2)", "false") ∷
    ("v.contains(a)", "false") ∷
    ("v.containsAll(v)", "true") ∷
    ("v.descending", "[]") ∷
    ("let w = v.descending", "ok") ∷
    ("it w = v.descending", "ok") ∷
    ("v.difference(v)", "[]") ∷
    ("let w = v.difference(v)", "ok") ∷
    ("it w = v.difference(v)", "ok") ∷
    ("v.difference(v)", "[]") ∷
    ("let w = v.difference(v)", "ok") ∷
    ("it w = v.difference(v)", "ok") ∷
    ("v.equals(v)", "true") ∷
    ("v.equals(v)", "true") ∷
    ("v.equals(v)", "true") ∷
    ("v.equals(v)", "true") ∷
    ("v.equals(v)", "true") ∷
    ("v.filter(any)", "[]") ∷
    ("let w = v.filter(any)", "ok") ∷
    ("it w = v.filter(any)", "ok") ∷
    ("v.first", "NoSuchElementException") ∷
    ("let w = v.immutable", "ok") ∷
    ("v.intersection(v)", "[]") ∷
    ("let w = v.intersection(v)", "ok") ∷
    ("it w = v.intersection(v)", "ok") ∷
    ("v.intersection(v)", "[]") ∷
    ("let w = v.intersection(v)", "ok") ∷
    ("it w = v.intersection(v)", "ok") ∷
    ("v.intersection(v)", "[]") ∷
    ("let w = v.intersection(v)", "ok") ∷
    ("it w = v.intersection(v)", "ok") ∷
    ("v.isEmpty", "true") ∷
    ("v.last", "NoSuchElementException") ∷
    ("v.remove(a)", "false") ∷
    ("v.removeAll(v)", "false") ∷
    ("v.removeAll(v)", "false") ∷
    ("v.removeAll(a)", "?name") ∷
    ("v.retainAll(v)", "false") ∷
    ("v.size", "0") ∷
    ("v.symmetricDifference(v)", "[]") ∷
    ("let w = v.symmetricDifference(v)", "ok") ∷
    ("it w = v.symmetricDifference(v)", "ok") ∷
    ("v.transform(len)", "[]") ∷
    ("let w = v.transform(len)", "ok") ∷
    ("it w = v.transform(len)", "ok") ∷
    ("v.union(v)", "[]") ∷
    ("let w = v.union(v)", "ok") ∷
    ("it w = v.union(v)", "ok") ∷
    ("v.union(v)", "[]") ∷
    ("let w = v.union(v)", "ok") ∷
    ("it w = v.union(v)", "ok") ∷
    ("v.unmodifiable", "[]") ∷
    ("let w = v.unmodifiable", "ok") ∷
    ("it w = v.unmodifiable", "ok") ∷
    ("v.within([0..1])", "IllegalArgumentException") ∷
    ("let w = v.within([0..1])", "IllegalArgumentException") ∷
    ("it w = v.within([0..1])", "IllegalArgumentException") ∷
    ("v.within([2..4])", "IllegalArgumentException") ∷
    ("let w = v.within([2..4])", "IllegalArgumentException") ∷
    ("it w = v.within([2..4])", "IllegalArgumentException") ∷ [])
unfolding literally
reversed_set = refl

collection : Runs (
    ("new b ArrayList", "ok") ∷
    ("b.add(a)", "true") ∷
    ("b.add(1)", "true") ∷
    ("let v = b.filter(any)", "ok") ∷
    ("v.add(a)", "true") ∷
    ("v.addAll(v)", "true") ∷
    ("v.addAll(v)", "true") ∷
    ("v.clear", "ok") ∷
    ("v.contains(2)", "false") ∷
    ("v.contains(a)", "false") ∷
    ("v.containsAll(v)", "true") ∷
    ("v.filter(any)", "[]") ∷
    ("let w = v.filter(any)", "ok") ∷
    ("it w = v.filter(any)", "ok") ∷
    ("let w = v.immutable", "ok") ∷
    ("v.isEmpty", "true") ∷
    ("v.remove(a)", "false") ∷
    ("v.removeAll(v)", "false") ∷
    ("v.removeAll(v)", "false") ∷
    ("v.removeAll(a)", "?name") ∷
    ("v.retainAll(v)", "false") ∷
    ("v.size", "0") ∷
    ("v.transform(len)", "[]") ∷
    ("let w = v.transform(len)", "ok") ∷
    ("it w = v.transform(len)", "ok") ∷
    ("v.unmodifiable", "[]") ∷
    ("let w = v.unmodifiable", "ok") ∷
    ("it w = v.unmodifiable", "ok") ∷ [])
unfolding literally
collection = refl
