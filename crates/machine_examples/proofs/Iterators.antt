-- Scripts on iterators.
use Rattle.std.specs.Prelude.{[], ◌∷◌}
use Rattle.std.proofs.Common.{refl}
use Rattle.machine_examples.specs.Scripts.{Runs, literally}

a_hidden_item_ahead_becomes_shown : Runs (
    ("new m LinkedHashMap", "ok") ∷
    ("m.put(a, 1)", "null") ∷
    ("m.put(b, 2)", "null") ∷
    ("m.put(c, 4)", "null") ∷
    ("it i = m.filterValues(odd).entrySet", "ok") ∷
    ("i.next", "a=1") ∷
    ("i.hasNext", "false") ∷
    ("m.put(c, 5)", "4") ∷
    ("i.hasNext", "true") ∷
    ("m.put(b, 3)", "2") ∷
    ("m.put(a, 2)", "1") ∷
    ("i.next", "b=3") ∷
    ("i.next", "c=5") ∷
    ("i.next", "NoSuchElementException") ∷ [])
unfolding literally
a_hidden_item_ahead_becomes_shown = refl

a_new_value_shows_an_item_under_an_iterator_of_a_map : Runs (
    ("new m TreeMap", "ok") ∷
    ("m.put(2, b)", "null") ∷
    ("m.put(1, a)", "null") ∷
    ("it i = m.keySet", "ok") ∷
    ("it j = m.descending.values", "ok") ∷
    ("i.next", "1") ∷
    ("j.next", "b") ∷
    ("m.put(1, c)", "a") ∷
    ("j.next", "c") ∷
    ("i.remove", "ok") ∷
    ("m", "{2=b}") ∷
    ("j.hasNext", "ConcurrentModificationException") ∷
    ("i.next", "2") ∷ [])
unfolding literally
a_new_value_shows_an_item_under_an_iterator_of_a_map = refl

a_shown_item_behind_does_not_come_again : Runs (
    ("new m LinkedHashMap", "ok") ∷
    ("m.put(a, 2)", "null") ∷
    ("m.put(b, 1)", "null") ∷
    ("it i = m.filterValues(odd).values", "ok") ∷
    ("i.next", "1") ∷
    ("m.put(a, 3)", "2") ∷
    ("i.hasNext", "false") ∷
    ("m.filterValues(odd)", "{a=3, b=1}") ∷ [])
unfolding literally
a_shown_item_behind_does_not_come_again = refl

a_window_of_a_sorted_set : Runs (
    ("new s TreeSet", "ok") ∷
    ("s.add(1)", "true") ∷
    ("s.add(3)", "true") ∷
    ("s.add(5)", "true") ∷
    ("s.add(7)", "true") ∷
    ("it i = s.within([2..6]).descending", "ok") ∷
    ("i.next", "5") ∷
    ("i.remove", "ok") ∷
    ("i.next", "3") ∷
    ("i.hasNext", "false") ∷
    ("s", "[1, 3, 7]") ∷
    ("s.add(4)", "true") ∷
    ("i.next", "ConcurrentModificationException") ∷ [])
unfolding literally
a_window_of_a_sorted_set = refl

an_iterator_is_bound_again : Runs (
    ("new l ArrayList", "ok") ∷
    ("l.add(1)", "true") ∷
    ("it i = l", "ok") ∷
    ("i.next", "1") ∷
    ("it i = l", "ok") ∷
    ("i.next", "1") ∷
    ("new m LinkedHashMap", "ok") ∷
    ("it i = m", "?call") ∷
    ("i.hasNext", "false") ∷
    ("it i = m.entrySet", "ok") ∷
    ("i.hasNext", "false") ∷
    ("let i = l", "ok") ∷
    ("i", "[1]") ∷
    ("i.next", "?call") ∷ [])
unfolding literally
an_iterator_is_bound_again = refl

an_iterator_of_a_filter_does_not_remove : Runs (
    ("new s LinkedHashSet", "ok") ∷
    ("s.add(1)", "true") ∷
    ("s.add(2)", "true") ∷
    ("s.add(3)", "true") ∷
    ("it i = s.filter(odd)", "ok") ∷
    ("i.remove", "UnsupportedOperationException") ∷
    ("i.next", "1") ∷
    ("i.remove", "UnsupportedOperationException") ∷
    ("s.add(5)", "true") ∷
    ("i.remove", "UnsupportedOperationException") ∷
    ("i.next", "ConcurrentModificationException") ∷
    ("s", "[1, 2, 3, 5]") ∷ [])
unfolding literally
an_iterator_of_a_filter_does_not_remove = refl

another_iterator_removes : Runs (
    ("new l ArrayList", "ok") ∷
    ("l.add(1)", "true") ∷
    ("l.add(2)", "true") ∷
    ("it i = l", "ok") ∷
    ("it j = l.reverse", "ok") ∷
    ("i.next", "1") ∷
    ("j.next", "2") ∷
    ("j.remove", "ok") ∷
    ("i.hasNext", "ConcurrentModificationException") ∷
    ("i.next", "ConcurrentModificationException") ∷
    ("i.remove", "ConcurrentModificationException") ∷
    ("j.hasNext", "true") ∷
    ("j.next", "1") ∷
    ("l", "[1]") ∷ [])
unfolding literally
another_iterator_removes = refl

handles_and_limits_of_it : Runs (
    ("new l ArrayList", "ok") ∷
    ("it i = l.reverse.reverse.reverse.reverse.reverse.reverse.reverse.reverse.reverse.reverse.reverse.reverse.reverse.reverse.reverse.reverse", "ok") ∷
    ("let a = l.reverse.reverse.reverse.reverse.reverse.reverse.reverse.reverse.reverse.reverse.reverse.reverse.reverse.reverse.reverse.reverse", "ok") ∷
    ("it j = a.reverse.reverse.reverse.reverse.reverse.reverse.reverse.reverse.reverse.reverse.reverse.reverse.reverse.reverse.reverse.reverse", "ok") ∷
    ("it j = a.reverse.reverse.reverse.reverse.reverse.reverse.reverse.reverse.reverse.reverse.reverse.reverse.reverse.reverse.reverse.reverse.reverse", "?limit") ∷
    ("new s TreeSet", "ok") ∷
    ("s.add(3)", "true") ∷
    ("it j = s.within([4..1])", "IllegalArgumentException") ∷
    ("it j = s.within([1..4]).within([0..2])", "IllegalArgumentException") ∷
    ("j.next", "NoSuchElementException") ∷
    ("it j = s.within([1..4]).within([2..3]).descending.filter(odd)", "ok") ∷
    ("j.next", "3") ∷
    ("j.remove", "UnsupportedOperationException") ∷ [])
unfolding literally
handles_and_limits_of_it = refl

has_next_after_a_structural_change : Runs (
    ("new l ArrayList", "ok") ∷
    ("l.add(1)", "true") ∷
    ("it i = l", "ok") ∷
    ("i.next", "1") ∷
    ("l.add(2)", "true") ∷
    ("i.hasNext", "ConcurrentModificationException") ∷
    ("i.next", "ConcurrentModificationException") ∷
    ("i.remove", "ConcurrentModificationException") ∷
    ("l.remove(2)", "true") ∷
    ("i.hasNext", "ConcurrentModificationException") ∷ [])
unfolding literally
has_next_after_a_structural_change = refl

one_item : Runs (
    ("new l ArrayList", "ok") ∷
    ("l.add(b)", "true") ∷
    ("it i = l", "ok") ∷
    ("i.next", "b") ∷
    ("i.hasNext", "false") ∷ [])
unfolding literally
one_item = refl

remove_after_remove : Runs (
    ("new l ArrayList", "ok") ∷
    ("l.add(1)", "true") ∷
    ("l.add(2)", "true") ∷
    ("l.add(3)", "true") ∷
    ("it i = l", "ok") ∷
    ("i.remove", "IllegalStateException") ∷
    ("i.next", "1") ∷
    ("i.remove", "ok") ∷
    ("i.remove", "IllegalStateException") ∷
    ("i.next", "2") ∷
    ("i.next", "3") ∷
    ("i.remove", "ok") ∷
    ("l", "[2]") ∷
    ("i.next", "NoSuchElementException") ∷
    ("i.hasNext", "false") ∷ [])
unfolding literally
remove_after_remove = refl

a_size_that_is_as_before : Runs (
    ("new s LinkedHashSet", "ok") ∷
    ("s.add(1)", "true") ∷
    ("it i = s.filter(odd)", "ok") ∷
    ("s.add(2)", "true") ∷
    ("s.remove(2)", "true") ∷
    ("s.size", "1") ∷
    ("i.hasNext", "ConcurrentModificationException") ∷ [])
unfolding literally
a_size_that_is_as_before = refl

the_order_of_refusals_of_an_iterator : Runs (
    ("new l ArrayList", "ok") ∷
    ("l.add(1)", "true") ∷
    ("it i = l.unmodifiable", "ok") ∷
    ("it j = l", "ok") ∷
    ("l.add(2)", "true") ∷
    ("i.remove", "UnsupportedOperationException") ∷
    ("j.remove", "IllegalStateException") ∷
    ("j.next", "ConcurrentModificationException") ∷
    ("it j = l", "ok") ∷
    ("j.next", "1") ∷
    ("l.add(3)", "true") ∷
    ("j.remove", "ConcurrentModificationException") ∷ [])
unfolding literally
the_order_of_refusals_of_an_iterator = refl

what_an_iterator_is_not : Runs (
    ("new l ArrayList", "ok") ∷
    ("l.add(1)", "true") ∷
    ("new m LinkedHashMap", "ok") ∷
    ("it i = l", "ok") ∷
    ("i", "?call") ∷
    ("i.size", "?call") ∷
    ("i.next(1)", "?call") ∷
    ("i.remove(1)", "?call") ∷
    ("i.next.first", "?call") ∷
    ("i.next.next", "?call") ∷
    ("i.add(1)", "?call") ∷
    ("let x = i", "?call") ∷
    ("let x = i.next", "?call") ∷
    ("it x = i", "?call") ∷
    ("it x = m", "?call") ∷
    ("it x = m.keySet", "ok") ∷
    ("it y = l.size", "?call") ∷
    ("it y = l.next", "?call") ∷
    ("it y = z", "?name") ∷
    ("l.next", "?call") ∷
    ("l.hasNext", "?call") ∷
    ("l.addAll(i)", "?call") ∷
    ("l.addAll(q)", "?name") ∷
    ("l.addAll(l)", "true") ∷
    ("i.next", "ConcurrentModificationException") ∷
    ("it  i  =  l . reverse", "ok") ∷
    ("i . next ( )", "1") ∷
    ("it i= m.within([1..2])", "?call") ∷
    ("it i = m.filterKeys(odd)", "?call") ∷
    ("it i = m.filterKeys(odd).values.transform(neg)", "ok") ∷
    ("i.next", "NoSuchElementException") ∷ [])
unfolding literally
what_an_iterator_is_not = refl
