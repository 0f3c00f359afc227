-- Scripts on ranges.
use Rattle.std.specs.Prelude.{[], ◌∷◌}
use Rattle.std.proofs.Common.{refl}
use Rattle.machine_examples.specs.Scripts.{Runs, literally}

a_complement_through_a_window : Runs (
    ("new r TreeRangeSet", "ok") ∷
    ("let c = r.complement.subRangeSet([0..10])", "ok") ∷
    ("c", "[[0..10]]") ∷
    ("c.remove([2..3])", "ok") ∷
    ("r", "[[2..3]]") ∷
    ("c", "[[0..2), (3..10]]") ∷
    ("c.add([9..11])", "IllegalArgumentException") ∷
    ("c.add([2..2])", "ok") ∷
    ("r", "[(2..3]]") ∷
    ("r.span", "(2..3]") ∷ [])
unfolding literally
a_complement_through_a_window = refl

a_range_set_as_an_argument : Runs (
    ("new r TreeRangeSet", "ok") ∷
    ("r.add([1..2])", "ok") ∷
    ("new s TreeRangeSet", "ok") ∷
    ("s.addAll(r)", "ok") ∷
    ("s", "[[1..2]]") ∷
    ("s.removeAll(r)", "ok") ∷
    ("s", "[]") ∷ [])
unfolding literally
a_range_set_as_an_argument = refl

ranges_at_the_ends_of_the_numbers : Runs (
    ("new r TreeRangeSet", "ok") ∷
    ("r.add([9223372036854775807..+∞))", "ok") ∷
    ("r.complement", "[(-∞..9223372036854775807)]") ∷
    ("r.add([-9223372036854775808..-9223372036854775808])", "ok") ∷
    ("r.complement", "[(-∞..-9223372036854775808), (-9223372036854775808..9223372036854775807)]") ∷ [])
unfolding literally
ranges_at_the_ends_of_the_numbers = refl

a_complement_filled_in_two_places : Runs (
    ("new r TreeRangeSet", "ok") ∷
    ("let c = r.complement", "ok") ∷
    ("c.add([474..476))", "ok") ∷
    ("r.add([334..343))", "ok") ∷
    ("r", "[[334..343)]") ∷ [])
unfolding literally
a_complement_filled_in_two_places = refl

touching_ranges_join : Runs (
    ("new r TreeRangeSet", "ok") ∷
    ("r.add([1..2))", "ok") ∷
    ("r.add([2..3))", "ok") ∷
    ("r", "[[1..3)]") ∷
    ("r.add((5..6))", "ok") ∷
    ("r.add([6..6])", "ok") ∷
    ("r", "[[1..3), (5..6]]") ∷
    ("r.add((3..4])", "ok") ∷
    ("r", "[[1..3), (3..4], (5..6]]") ∷
    ("r.add([3..3])", "ok") ∷
    ("r", "[[1..4], (5..6]]") ∷ [])
unfolding literally
touching_ranges_join = refl

an_empty_range_changes_nothing : Runs (
    ("new r TreeRangeSet", "ok") ∷
    ("r.add([4..4))", "ok") ∷
    ("r", "[]") ∷
    ("r.isEmpty", "true") ∷
    ("r.add([1..9])", "ok") ∷
    ("r.remove([4..4))", "ok") ∷
    ("r.remove((4..4])", "ok") ∷
    ("r", "[[1..9]]") ∷ [])
unfolding literally
an_empty_range_changes_nothing = refl

an_empty_set : Runs (
    ("new r TreeRangeSet", "ok") ∷
    ("r.span", "NoSuchElementException") ∷
    ("r.isEmpty", "true") ∷
    ("r.complement", "[(-∞..+∞)]") ∷
    ("r.complement.isEmpty", "false") ∷
    ("r.complement.span", "(-∞..+∞)") ∷
    ("r.encloses([4..4))", "false") ∷
    ("r.complement.encloses([4..4))", "true") ∷ [])
unfolding literally
an_empty_set = refl

everything : Runs (
    ("new r TreeRangeSet", "ok") ∷
    ("r.add((-∞..+∞))", "ok") ∷
    ("r", "[(-∞..+∞)]") ∷
    ("r.span", "(-∞..+∞)") ∷
    ("r.complement", "[]") ∷
    ("r.complement.isEmpty", "true") ∷
    ("r.complement.span", "NoSuchElementException") ∷
    ("r.encloses((-∞..+∞))", "true") ∷
    ("r.encloses((4..4])", "true") ∷
    ("r.intersects([4..4))", "false") ∷
    ("r.remove([0..0])", "ok") ∷
    ("r", "[(-∞..0), (0..+∞)]") ∷ [])
unfolding literally
everything = refl

encloses_asks_one_range : Runs (
    ("new r TreeRangeSet", "ok") ∷
    ("r.add([1..3])", "ok") ∷
    ("r.add([4..6])", "ok") ∷
    ("r.encloses([1..6])", "false") ∷
    ("r.encloses([1..3])", "true") ∷
    ("r.encloses([1..3))", "true") ∷
    ("r.encloses([4..4))", "true") ∷
    ("r.encloses((3..3])", "true") ∷
    ("r.encloses((3..4))", "false") ∷
    ("r.intersects((3..4))", "false") ∷
    ("r.intersects([3..4))", "true") ∷
    ("r.intersects((3..4])", "true") ∷
    ("r.intersects((6..9])", "false") ∷
    ("r.contains(3)", "true") ∷
    ("r.contains(0)", "false") ∷
    ("r.rangeContaining(5)", "[4..6]") ∷
    ("r.rangeContaining(7)", "null") ∷ [])
unfolding literally
encloses_asks_one_range = refl

complement_of_a_window : Runs (
    ("new r TreeRangeSet", "ok") ∷
    ("r.add([3..8])", "ok") ∷
    ("let c = r.subRangeSet([1..5]).complement", "ok") ∷
    ("c", "[(-∞..3), (5..+∞)]") ∷
    ("c.contains(9)", "true") ∷
    ("c.remove([2..2])", "ok") ∷
    ("r", "[[2..2], [3..8]]") ∷
    ("c.remove([0..2])", "IllegalArgumentException") ∷
    ("c.remove([9..9))", "IllegalArgumentException") ∷
    ("c.add([0..4])", "ok") ∷
    ("r", "[(4..8]]") ∷
    ("c", "[(-∞..4], (5..+∞)]") ∷ [])
unfolding literally
complement_of_a_window = refl

window_of_a_complement_of_a_window : Runs (
    ("new r TreeRangeSet", "ok") ∷
    ("r.add([3..8])", "ok") ∷
    ("let w = r.subRangeSet([1..5]).complement.subRangeSet([0..20])", "ok") ∷
    ("w", "[[0..3), (5..20]]") ∷
    ("w.add([2..2])", "ok") ∷
    ("w.remove([6..9])", "IllegalArgumentException") ∷
    ("w.add([4..9])", "ok") ∷
    ("r", "[[3..4), (5..8]]") ∷
    ("w", "[[0..3), [4..20]]") ∷
    ("w.rangeContaining(9)", "[4..20]") ∷
    ("w.rangeContaining(4)", "[4..20]") ∷
    ("w.span", "[0..20]") ∷
    ("w.clear", "IllegalArgumentException") ∷ [])
unfolding literally
window_of_a_complement_of_a_window = refl

complement_of_a_window_of_a_complement : Runs (
    ("new r TreeRangeSet", "ok") ∷
    ("r.add([3..8])", "ok") ∷
    ("let c = r.complement.subRangeSet([0..10]).complement", "ok") ∷
    ("c", "[(-∞..0), [3..8], (10..+∞)]") ∷
    ("c.add([9..9])", "ok") ∷
    ("r", "[[3..8], [9..9]]") ∷
    ("c.remove([4..4])", "ok") ∷
    ("r", "[[3..4), (4..8], [9..9]]") ∷
    ("c", "[(-∞..0), [3..4), (4..8], [9..9], (10..+∞)]") ∷
    ("c.add([11..12])", "ok") ∷
    ("c.remove([11..12])", "IllegalArgumentException") ∷ [])
unfolding literally
complement_of_a_window_of_a_complement = refl

a_complement_twice : Runs (
    ("new r TreeRangeSet", "ok") ∷
    ("let d = r.complement.complement", "ok") ∷
    ("d.add([1..3])", "ok") ∷
    ("r", "[[1..3]]") ∷
    ("d", "[[1..3]]") ∷
    ("d.remove((1..3))", "ok") ∷
    ("r", "[[1..1], [3..3]]") ∷
    ("d.equals(r)", "true") ∷
    ("d.complement.equals(r)", "false") ∷ [])
unfolding literally
a_complement_twice = refl

nested_windows : Runs (
    ("new r TreeRangeSet", "ok") ∷
    ("r.add([0..100])", "ok") ∷
    ("let w = r.subRangeSet([10..50]).subRangeSet([40..60])", "ok") ∷
    ("w", "[[40..50]]") ∷
    ("w.add([55..56])", "IllegalArgumentException") ∷
    ("w.add([45..55])", "IllegalArgumentException") ∷
    ("w.add([45..46])", "ok") ∷
    ("w.remove([30..45])", "ok") ∷
    ("r", "[[0..40), (45..100]]") ∷
    ("w", "[(45..50]]") ∷
    ("w.clear", "ok") ∷
    ("r", "[[0..40), (50..100]]") ∷ [])
unfolding literally
nested_windows = refl

an_empty_window : Runs (
    ("new r TreeRangeSet", "ok") ∷
    ("r.add([0..9])", "ok") ∷
    ("let w = r.subRangeSet([3..3))", "ok") ∷
    ("w", "[]") ∷
    ("w.isEmpty", "true") ∷
    ("w.add([3..3))", "ok") ∷
    ("w.add([3..3])", "IllegalArgumentException") ∷
    ("w.add([4..4))", "IllegalArgumentException") ∷
    ("w.remove([0..9])", "ok") ∷
    ("r", "[[0..9]]") ∷
    ("w.complement", "[(-∞..+∞)]") ∷ [])
unfolding literally
an_empty_window = refl

unbounded_windows : Runs (
    ("new r TreeRangeSet", "ok") ∷
    ("r.add([1..3])", "ok") ∷
    ("r.add([7..9])", "ok") ∷
    ("let lower = r.subRangeSet((-∞..8))", "ok") ∷
    ("lower", "[[1..3], [7..8)]") ∷
    ("let upper = r.subRangeSet([8..+∞))", "ok") ∷
    ("upper", "[[8..9]]") ∷
    ("let all = r.subRangeSet((-∞..+∞))", "ok") ∷
    ("all", "[[1..3], [7..9]]") ∷
    ("all.equals(r)", "true") ∷
    ("lower.add((-∞..0))", "ok") ∷
    ("lower.add((-∞..8])", "IllegalArgumentException") ∷
    ("upper.remove((-∞..+∞))", "ok") ∷
    ("r", "[(-∞..0), [1..3], [7..8)]") ∷ [])
unfolding literally
unbounded_windows = refl

rows_of_ranges : Runs (
    ("new r TreeRangeSet", "ok") ∷
    ("r.add([1..3])", "ok") ∷
    ("r.add([5..6))", "ok") ∷
    ("let a = r.asRanges", "ok") ∷
    ("a", "[[1..3], [5..6)]") ∷
    ("a.size", "2") ∷
    ("a.contains([1..3])", "true") ∷
    ("a.contains([1..3))", "false") ∷
    ("a.contains([5..6))", "true") ∷
    ("a.contains([a..b])", "false") ∷
    ("a.remove([1..3])", "UnsupportedOperationException") ∷
    ("a.clear", "UnsupportedOperationException") ∷
    ("r.complement.asRanges", "[(-∞..1), (3..5), [6..+∞)]") ∷ [])
unfolding literally
rows_of_ranges = refl

unmodifiable_ranges : Runs (
    ("new r TreeRangeSet", "ok") ∷
    ("r.add([1..3])", "ok") ∷
    ("let u = r.unmodifiable", "ok") ∷
    ("u.add([1..3])", "UnsupportedOperationException") ∷
    ("u.remove([4..4])", "UnsupportedOperationException") ∷
    ("u.clear", "UnsupportedOperationException") ∷
    ("u", "[[1..3]]") ∷
    ("r.complement.unmodifiable.subRangeSet([0..2])", "[[0..1)]") ∷
    ("u.complement.add([1..1])", "UnsupportedOperationException") ∷ [])
unfolding literally
unmodifiable_ranges = refl

adding_what_a_set_shows : Runs (
    ("new r TreeRangeSet", "ok") ∷
    ("new s TreeRangeSet", "ok") ∷
    ("r.add([1..3])", "ok") ∷
    ("r.add([5..7])", "ok") ∷
    ("s.add([2..6])", "ok") ∷
    ("s.removeAll(r)", "ok") ∷
    ("s", "[(3..5)]") ∷
    ("s.addAll(r)", "ok") ∷
    ("s", "[[1..7]]") ∷
    ("s.equals(r)", "false") ∷
    ("r.addAll(r)", "ok") ∷
    ("r.removeAll(r)", "ok") ∷
    ("r", "[]") ∷ [])
unfolding literally
adding_what_a_set_shows = refl

a_set_and_its_own_complement : Runs (
    ("new r TreeRangeSet", "ok") ∷
    ("r.add([1..3])", "ok") ∷
    ("let c = r.complement", "ok") ∷
    ("r.addAll(c)", "ok") ∷
    ("r", "[(-∞..+∞)]") ∷
    ("c", "[]") ∷
    ("r.removeAll(c)", "ok") ∷
    ("c.addAll(r)", "ok") ∷
    ("r", "[]") ∷ [])
unfolding literally
a_set_and_its_own_complement = refl

bulk_through_a_window : Runs (
    ("new r TreeRangeSet", "ok") ∷
    ("new s TreeRangeSet", "ok") ∷
    ("s.add([1..3])", "ok") ∷
    ("s.add([8..12])", "ok") ∷
    ("let w = r.subRangeSet([0..10])", "ok") ∷
    ("w.addAll(s)", "IllegalArgumentException") ∷
    ("r", "[]") ∷
    ("r.add([0..20])", "ok") ∷
    ("w.removeAll(s)", "ok") ∷
    ("r", "[[0..1), (3..8), (10..20]]") ∷ [])
unfolding literally
bulk_through_a_window = refl

range_map_overlaps : Runs (
    ("new m TreeRangeMap", "ok") ∷
    ("m.put([1..10], a)", "ok") ∷
    ("m.put([3..5], b)", "ok") ∷
    ("m", "{[1..3)=a, [3..5]=b, (5..10]=a}") ∷
    ("m.put([4..4], a)", "ok") ∷
    ("m", "{[1..3)=a, [3..4)=b, [4..4]=a, (4..5]=b, (5..10]=a}") ∷
    ("m.remove([2..9))", "ok") ∷
    ("m", "{[1..2)=a, [9..10]=a}") ∷
    ("m.get(9)", "a") ∷
    ("m.get(2)", "null") ∷
    ("m.getEntry(9)", "[9..10]=a") ∷
    ("m.getEntry(5)", "null") ∷
    ("m.span", "[1..10]") ∷ [])
unfolding literally
range_map_overlaps = refl

range_map_touching_ranges_stay_apart : Runs (
    ("new m TreeRangeMap", "ok") ∷
    ("m.put([1..3), a)", "ok") ∷
    ("m.put([3..5), a)", "ok") ∷
    ("m", "{[1..3)=a, [3..5)=a}") ∷
    ("m.putCoalescing([5..6), a)", "ok") ∷
    ("m", "{[1..3)=a, [3..6)=a}") ∷
    ("m.putCoalescing([0..1), b)", "ok") ∷
    ("m.putCoalescing([1..1), a)", "ok") ∷
    ("m", "{[0..1)=b, [1..3)=a, [3..6)=a}") ∷ [])
unfolding literally
range_map_touching_ranges_stay_apart = refl

coalescing_joins_what_is_connected : Runs (
    ("new m TreeRangeMap", "ok") ∷
    ("m.put([1..2), a)", "ok") ∷
    ("m.put([2..3), b)", "ok") ∷
    ("m.put([3..4), a)", "ok") ∷
    ("m.put([6..7), a)", "ok") ∷
    ("m.putCoalescing([2..3), a)", "ok") ∷
    ("m", "{[1..4)=a, [6..7)=a}") ∷
    ("m.putCoalescing([4..6), b)", "ok") ∷
    ("m", "{[1..4)=a, [4..6)=b, [6..7)=a}") ∷
    ("m.putCoalescing((2..5), a)", "ok") ∷
    ("m", "{[1..5)=a, [5..6)=b, [6..7)=a}") ∷ [])
unfolding literally
coalescing_joins_what_is_connected = refl

coalescing_in_a_window : Runs (
    ("new m TreeRangeMap", "ok") ∷
    ("m.put([0..10], a)", "ok") ∷
    ("let s = m.subRangeMap([4..6])", "ok") ∷
    ("s", "{[4..6]=a}") ∷
    ("s.putCoalescing([5..5], a)", "ok") ∷
    ("m", "{[0..4)=a, [4..6]=a, (6..10]=a}") ∷
    ("s.putCoalescing([4..6], a)", "ok") ∷
    ("m", "{[0..4)=a, [4..6]=a, (6..10]=a}") ∷
    ("s.putCoalescing([4..7], a)", "IllegalArgumentException") ∷
    ("s.putCoalescing([8..8), a)", "IllegalArgumentException") ∷
    ("s.putCoalescing([5..5), a)", "ok") ∷
    ("m", "{[0..4)=a, [4..6]=a, (6..10]=a}") ∷ [])
unfolding literally
coalescing_in_a_window = refl

nested_windows_of_a_map : Runs (
    ("new m TreeRangeMap", "ok") ∷
    ("m.put([0..10], a)", "ok") ∷
    ("m.put([20..30], b)", "ok") ∷
    ("let s = m.subRangeMap([5..25]).subRangeMap((-∞..22))", "ok") ∷
    ("s", "{[5..10]=a, [20..22)=b}") ∷
    ("s.span", "[5..22)") ∷
    ("s.get(24)", "null") ∷
    ("s.getEntry(21)", "[20..22)=b") ∷
    ("s.remove((-∞..+∞))", "ok") ∷
    ("m", "{[0..5)=a, [22..30]=b}") ∷
    ("s.span", "NoSuchElementException") ∷
    ("s.put([6..7], c)", "ok") ∷
    ("s.put([4..7], c)", "IllegalArgumentException") ∷
    ("s.clear", "ok") ∷
    ("m", "{[0..5)=a, [22..30]=b}") ∷ [])
unfolding literally
nested_windows_of_a_map = refl

entries_of_a_range_map : Runs (
    ("new m TreeRangeMap", "ok") ∷
    ("m.put([0..10], a)", "ok") ∷
    ("m.put((10..20), b)", "ok") ∷
    ("let e = m.asMapOfRanges", "ok") ∷
    ("e", "[[0..10]=a, (10..20)=b]") ∷
    ("e.size", "2") ∷
    ("e.contains([0..10], a)", "true") ∷
    ("e.contains([0..10], b)", "false") ∷
    ("e.remove([0..10], a)", "UnsupportedOperationException") ∷
    ("m.unmodifiable.put([0..1], c)", "UnsupportedOperationException") ∷
    ("m.unmodifiable", "{[0..10]=a, (10..20)=b}") ∷ [])
unfolding literally
entries_of_a_range_map = refl
