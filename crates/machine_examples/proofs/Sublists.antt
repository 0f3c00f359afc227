-- Scripts on sublists and pieces.
use Rattle.std.specs.Prelude.{[], ◌∷◌}
use Rattle.std.proofs.Common.{refl}
use Rattle.machine_examples.specs.Scripts.{Runs, literally}

a_piece_of_a_sublist_refreshes_both : Runs (
    ("new l ArrayList", "ok") ∷
    ("l.add(1)", "true") ∷
    ("l.add(2)", "true") ∷
    ("l.add(3)", "true") ∷
    ("l.add(4)", "true") ∷
    ("let u = l.sub(1, 4)", "ok") ∷
    ("let q = u.partition(2).get(1)", "ok") ∷
    ("q", "[4]") ∷
    ("q.add(5)", "true") ∷
    ("q", "[4, 5]") ∷
    ("u", "[2, 3, 4, 5]") ∷
    ("l", "[1, 2, 3, 4, 5]") ∷
    ("u.removeAt(0)", "2") ∷
    ("q", "ConcurrentModificationException") ∷
    ("u", "[3, 4, 5]") ∷ [])
unfolding literally
a_piece_of_a_sublist_refreshes_both = refl

a_temporary_sublist : Runs (
    ("new l ArrayList", "ok") ∷
    ("l.add(1)", "true") ∷
    ("l.add(2)", "true") ∷
    ("l.add(3)", "true") ∷
    ("let u = l.sub(0, 2)", "ok") ∷
    ("l.sub(0, 2).add(9)", "true") ∷
    ("l", "[1, 2, 9, 3]") ∷
    ("u", "ConcurrentModificationException") ∷
    ("l.sub(1, 3).clear", "ok") ∷
    ("l", "[1, 3]") ∷
    ("l.sub(0, 1).reverse.add(5)", "true") ∷
    ("l", "[5, 1, 3]") ∷
    ("l.sub(0, 2).sub(1, 2).remove(1)", "true") ∷
    ("l", "[5, 3]") ∷ [])
unfolding literally
a_temporary_sublist = refl

add_all_at_the_end_of_a_sublist : Runs (
    ("new l ArrayList", "ok") ∷
    ("l.add(1)", "true") ∷
    ("l.add(2)", "true") ∷
    ("l.add(3)", "true") ∷
    ("let u = l.sub(0, 2)", "ok") ∷
    ("u.addAll(l)", "true") ∷
    ("l", "[1, 2, 1, 2, 3, 3]") ∷
    ("u", "[1, 2, 1, 2, 3]") ∷
    ("u.reverse.addAll(u)", "true") ∷
    ("l", "[3, 2, 1, 2, 1, 1, 2, 1, 2, 3, 3]") ∷
    ("u", "[3, 2, 1, 2, 1, 1, 2, 1, 2, 3]") ∷
    ("let f = u.filter(odd)", "ok") ∷
    ("f.addAll(f)", "true") ∷
    ("l", "[3, 2, 1, 2, 1, 1, 2, 1, 2, 3, 3, 1, 1, 1, 1, 3, 3]") ∷
    ("f", "[3, 1, 1, 1, 1, 3, 3, 1, 1, 1, 1, 3]") ∷ [])
unfolding literally
add_all_at_the_end_of_a_sublist = refl

an_equal_sublist_is_another : Runs (
    ("new l ArrayList", "ok") ∷
    ("l.add(1)", "true") ∷
    ("l.add(2)", "true") ∷
    ("let u = l.sub(0, 2)", "ok") ∷
    ("let w = u.sub(0, 2)", "ok") ∷
    ("let v = u.sub(0, 2)", "ok") ∷
    ("w.add(3)", "true") ∷
    ("v", "ConcurrentModificationException") ∷
    ("u", "[1, 2, 3]") ∷
    ("w", "[1, 2, 3]") ∷
    ("u.removeAt(0)", "1") ∷
    ("w", "ConcurrentModificationException") ∷
    ("u", "[2, 3]") ∷ [])
unfolding literally
an_equal_sublist_is_another = refl

an_iterator_of_a_sublist_removes : Runs (
    ("new l ArrayList", "ok") ∷
    ("l.add(1)", "true") ∷
    ("l.add(2)", "true") ∷
    ("l.add(3)", "true") ∷
    ("l.add(4)", "true") ∷
    ("let u = l.sub(1, 3)", "ok") ∷
    ("let w = l.sub(0, 1)", "ok") ∷
    ("it i = u", "ok") ∷
    ("i.next", "2") ∷
    ("i.remove", "ok") ∷
    ("u", "[3]") ∷
    ("w", "ConcurrentModificationException") ∷
    ("i.next", "3") ∷
    ("i.hasNext", "false") ∷
    ("i.remove", "ok") ∷
    ("u", "[]") ∷
    ("l", "[1, 4]") ∷ [])
unfolding literally
an_iterator_of_a_sublist_removes = refl

an_iterator_over_a_stale_sublist : Runs (
    ("new l ArrayList", "ok") ∷
    ("l.add(1)", "true") ∷
    ("let u = l.sub(0, 1)", "ok") ∷
    ("l.add(2)", "true") ∷
    ("it i = u", "ConcurrentModificationException") ∷
    ("it i = u.reverse", "ConcurrentModificationException") ∷
    ("u.sub(5, 9)", "ConcurrentModificationException") ∷
    ("u.partition(0)", "IllegalArgumentException") ∷
    ("u.partition(1)", "ConcurrentModificationException") ∷
    ("let v = u.reverse", "ok") ∷
    ("v.add(1)", "ConcurrentModificationException") ∷
    ("v.unmodifiable.add(1)", "UnsupportedOperationException") ∷
    ("l.addAll(v)", "ConcurrentModificationException") ∷
    ("l.containsAll(u)", "ConcurrentModificationException") ∷
    ("u.addAll(l)", "ConcurrentModificationException") ∷ [])
unfolding literally
an_iterator_over_a_stale_sublist = refl

an_iterator_over_pieces : Runs (
    ("new l ArrayList", "ok") ∷
    ("l.add(1)", "true") ∷
    ("l.add(2)", "true") ∷
    ("l.add(3)", "true") ∷
    ("it i = l.reverse.partition(2)", "ok") ∷
    ("i.next", "[3, 2]") ∷
    ("i.remove", "UnsupportedOperationException") ∷
    ("l.set(0, 7)", "1") ∷
    ("i.hasNext", "true") ∷
    ("i.next", "[7]") ∷
    ("i.next", "NoSuchElementException") ∷
    ("l.add(4)", "true") ∷
    ("i.hasNext", "ConcurrentModificationException") ∷ [])
unfolding literally
an_iterator_over_pieces = refl

empty_sublists : Runs (
    ("new l ArrayList", "ok") ∷
    ("let u = l.sub(0, 0)", "ok") ∷
    ("u", "[]") ∷
    ("it i = u", "ok") ∷
    ("i.next", "NoSuchElementException") ∷
    ("u.add(1)", "true") ∷
    ("u", "[1]") ∷
    ("l", "[1]") ∷
    ("i.hasNext", "ConcurrentModificationException") ∷
    ("let w = u.sub(1, 1)", "ok") ∷
    ("w.addAll(u)", "true") ∷
    ("w", "[1]") ∷
    ("u", "[1, 1]") ∷
    ("l", "[1, 1]") ∷
    ("l.sub(1, 0)", "IndexOutOfBoundsException") ∷
    ("l.sub(2, 3)", "IndexOutOfBoundsException") ∷ [])
unfolding literally
empty_sublists = refl

pieces_of_a_partition : Runs (
    ("new l ArrayList", "ok") ∷
    ("l.add(1)", "true") ∷
    ("l.add(2)", "true") ∷
    ("l.add(3)", "true") ∷
    ("l.add(4)", "true") ∷
    ("l.add(5)", "true") ∷
    ("let p = l.partition(2)", "ok") ∷
    ("p", "[[1, 2], [3, 4], [5]]") ∷
    ("p.size", "3") ∷
    ("p.get(2)", "[5]") ∷
    ("let q = p.get(1)", "ok") ∷
    ("q.add(9)", "true") ∷
    ("l", "[1, 2, 3, 4, 9, 5]") ∷
    ("p", "[[1, 2], [3, 4], [9, 5]]") ∷
    ("q", "[3, 4, 9]") ∷
    ("p.get(3)", "IndexOutOfBoundsException") ∷
    ("p.get(-1)", "IndexOutOfBoundsException") ∷
    ("l.clear", "ok") ∷
    ("p", "[]") ∷
    ("p.isEmpty", "true") ∷
    ("p.get(0)", "IndexOutOfBoundsException") ∷
    ("q", "ConcurrentModificationException") ∷ [])
unfolding literally
pieces_of_a_partition = refl

remove_all_through_a_sublist : Runs (
    ("new l ArrayList", "ok") ∷
    ("l.add(1)", "true") ∷
    ("l.add(2)", "true") ∷
    ("l.add(1)", "true") ∷
    ("l.add(2)", "true") ∷
    ("l.add(1)", "true") ∷
    ("let u = l.sub(1, 4)", "ok") ∷
    ("u.removeAll(u)", "true") ∷
    ("u", "[]") ∷
    ("l", "[1, 1]") ∷
    ("l.add(3)", "true") ∷
    ("u.add(1)", "ConcurrentModificationException") ∷
    ("let u = l.sub(0, 2)", "ok") ∷
    ("u.retainAll(l)", "false") ∷
    ("u.filter(odd).clear", "ok") ∷
    ("u", "[]") ∷
    ("l", "[3]") ∷ [])
unfolding literally
remove_all_through_a_sublist = refl

reverse_of_sub_and_sub_of_reverse : Runs (
    ("new l ArrayList", "ok") ∷
    ("l.add(1)", "true") ∷
    ("l.add(2)", "true") ∷
    ("l.add(3)", "true") ∷
    ("l.add(4)", "true") ∷
    ("let r = l.reverse", "ok") ∷
    ("let u = r.sub(1, 3)", "ok") ∷
    ("u", "[3, 2]") ∷
    ("u.add(8)", "true") ∷
    ("u", "[3, 2, 8]") ∷
    ("l", "[1, 8, 2, 3, 4]") ∷
    ("u.reverse.add(0, 7)", "ok") ∷
    ("u", "[3, 2, 8, 7]") ∷
    ("l", "[1, 7, 8, 2, 3, 4]") ∷
    ("u.reverse.add(6)", "true") ∷
    ("u", "[6, 3, 2, 8, 7]") ∷
    ("l", "[1, 7, 8, 2, 3, 6, 4]") ∷ [])
unfolding literally
reverse_of_sub_and_sub_of_reverse = refl

an_iterator_over_equal_items : Runs (
    ("new l ArrayList", "ok") ∷
    ("l.add(b)", "true") ∷
    ("l.add(a)", "true") ∷
    ("l.add(b)", "true") ∷
    ("it i = l", "ok") ∷
    ("i.next", "b") ∷
    ("i.next", "a") ∷
    ("i.next", "b") ∷
    ("i.next", "NoSuchElementException") ∷
    ("i.hasNext", "false") ∷ [])
unfolding literally
an_iterator_over_equal_items = refl

set_through_a_sublist_is_not_structural : Runs (
    ("new l ArrayList", "ok") ∷
    ("l.add(1)", "true") ∷
    ("l.add(2)", "true") ∷
    ("l.add(3)", "true") ∷
    ("let u = l.sub(0, 2)", "ok") ∷
    ("let w = l.sub(1, 3)", "ok") ∷
    ("it i = w", "ok") ∷
    ("i.next", "2") ∷
    ("u.set(1, 7)", "2") ∷
    ("w", "[7, 3]") ∷
    ("i.next", "3") ∷
    ("i.hasNext", "false") ∷
    ("l", "[1, 7, 3]") ∷
    ("u.set(2, 0)", "IndexOutOfBoundsException") ∷ [])
unfolding literally
set_through_a_sublist_is_not_structural = refl

sub_of_sub : Runs (
    ("new l ArrayList", "ok") ∷
    ("l.add(1)", "true") ∷
    ("l.add(2)", "true") ∷
    ("l.add(3)", "true") ∷
    ("l.add(4)", "true") ∷
    ("l.add(5)", "true") ∷
    ("let u = l.sub(1, 5)", "ok") ∷
    ("let w = u.sub(1, 3)", "ok") ∷
    ("w", "[3, 4]") ∷
    ("w.removeAt(0)", "3") ∷
    ("w", "[4]") ∷
    ("u", "[2, 4, 5]") ∷
    ("l", "[1, 2, 4, 5]") ∷
    ("w.add(0, 9)", "ok") ∷
    ("l", "[1, 2, 9, 4, 5]") ∷
    ("u.sub(1, 3).clear", "ok") ∷
    ("u", "[2, 5]") ∷
    ("w", "ConcurrentModificationException") ∷ [])
unfolding literally
sub_of_sub = refl

two_names_for_one_sublist : Runs (
    ("new l ArrayList", "ok") ∷
    ("l.add(1)", "true") ∷
    ("l.add(2)", "true") ∷
    ("let u = l.sub(0, 2)", "ok") ∷
    ("let v = u", "ok") ∷
    ("let w = l.sub(0, 2)", "ok") ∷
    ("u.add(3)", "true") ∷
    ("v", "[1, 2, 3]") ∷
    ("v.add(4)", "true") ∷
    ("u", "[1, 2, 3, 4]") ∷
    ("w", "ConcurrentModificationException") ∷
    ("l", "[1, 2, 3, 4]") ∷ [])
unfolding literally
two_names_for_one_sublist = refl
