-- Builders: what each refuses, and the rows that it makes of what was added.
use Rattle.std.specs.Prelude.{ℕ, ◌+◌, Bool, false, not, cond, nat_lt, nat_eq, ◌&&◌, ◌||◌, if◌then◌else◌, List, [], ◌∷◌, ◌++◌, map, filter, replicate, flat_map}
use Rattle.std.specs.List.{sum_by, list_any}
use Rattle.elem.specs.declared.build_kinds.BuildKind.{BuildKind}
use Rattle.elem.specs.declared.build_kinds.BuildKind.TheVariants as built
use Rattle.elem.specs.declared.elements.Elem.{Elem}
use Rattle.elem.specs.Cuts.{same_cut}
use Rattle.elem.specs.Elements.{same}
use Rattle.range_views.specs.Answers.{intersects}
use Rattle.build_base.specs.declared.finish.Finish.{Finish}
use Rattle.build_base.specs.declared.finish.Finish.TheVariants.{OrThrow, KeepingLast}
use Rattle.vocabulary.specs.declared.items.Item.{Item}
use Rattle.vocabulary.specs.declared.items.Item.TheVariants.{One, Counted, Cell, Range, RangeEntry}
use Rattle.machine.specs.RangeRows.{RangeWrite, covering, putting, written_all}
use Rattle.machine.specs.RangeViews.{set_row}
use Rattle.vocabulary.specs.Items.{key_of, same_item, value_of}
use Rattle.vocabulary.specs.Limits.{most_count}

-- ---- which of a list's items are kept

module _ (alike : Item → Item → Bool) where
  -- the first of those that are alike
  abbrev pub first_ones : List Item → List Item
  first_ones [] = []
  first_ones (x ∷ xs) = x ∷ filter (λ y. not (alike x y)) (first_ones xs)

  -- the last of those that are alike
  abbrev pub last_ones : List Item → List Item
  last_ones [] = []
  last_ones (x ∷ xs) = if list_any (alike x) xs then last_ones xs else x ∷ last_ones xs

  -- two of them are alike
  abbrev pub has_twice : List Item → Bool
  has_twice [] = false
  has_twice (x ∷ xs) = list_any (alike x) xs || has_twice xs

  -- for each of some in turn those that are like it
  abbrev pub those_like : List Item → List Item → List Item
  those_like [] xs = []
  those_like (head ∷ heads) xs = filter (alike head) xs ++ those_like heads xs

  -- those that are alike together, in the order of the first of each
  abbrev pub grouped : List Item → List Item
  grouped xs = those_like (first_ones xs) xs

abbrev pub same_key : Item → Item → Bool
same_key x y = same (key_of x) (key_of y)

abbrev pub same_value : Item → Item → Bool
same_value x y = same (value_of x) (value_of y)

abbrev pub same_cell : Item → Item → Bool
same_cell (Cell r c v) (Cell q d w) = same r q && same c d
same_cell x y = false

-- two ranges have a unit in common
abbrev pub overlap : Item → Item → Bool
overlap x y = intersects (set_row x).0 (set_row x).1.end (set_row y ∷ [])

-- ---- builders

abbrev pub copies_in : Elem → Item → ℕ
copies_in x (Counted y n) = cond (same y x) n 0
copies_in x item = 0

-- how often an element was added
abbrev pub copies_of : List Item → Elem → ℕ
copies_of items x = sum_by (copies_in x) items

-- an item that is refused at once: an empty range, or a count that would pass the greatest
abbrev pub refuses_item : List Item → Item → Bool
refuses_item items (Counted x n) = nat_lt most_count (copies_of items x + n)
refuses_item items (Range s) = same_cut s.lo s.hi
refuses_item items (RangeEntry s v) = same_cut s.lo s.hi
refuses_item items item = false

-- whether an item is none: an element added no times
abbrev pub is_nothing : Item → Bool
is_nothing (Counted x n) = nat_eq n 0
is_nothing item = false

-- items that together make nothing: a key, a value of a bimap or a cell added twice, or ranges that overlap
abbrev pub refuses : BuildKind → Finish → List Item → Bool
refuses built.Map OrThrow items = has_twice same_key items
refuses built.BiMap how items = has_twice same_key items || has_twice same_value items
refuses built.Table how items = has_twice same_cell items
refuses built.RangeSet how items = has_twice overlap items
refuses built.RangeMap how items = has_twice overlap items
refuses kind how items = false

-- all occurrences of an element
abbrev pub occurrences : List Item → Item → List Item
occurrences items item = replicate (copies_of items (key_of item)) (One (key_of item))

abbrev pub cover_of : Item → RangeWrite
cover_of item = covering (set_row item).0 (set_row item).1.end

abbrev pub put_of : Item → RangeWrite
put_of item = putting (set_row item).0 (set_row item).1.end (value_of item)

-- the rows that the items of a builder make
abbrev pub built_rows : BuildKind → Finish → List Item → List Item
built_rows built.Set how items = first_ones same_item items
built_rows built.Multiset how items = flat_map (occurrences items) (first_ones same_key items)
built_rows built.Map KeepingLast items = last_ones same_key items
built_rows built.ListMultimap how items = grouped same_key items
built_rows built.SetMultimap how items = first_ones same_item (grouped same_key items)
built_rows built.RangeSet how items = written_all [] (map cover_of items)
built_rows built.RangeMap how items = written_all [] (map put_of items)
built_rows kind how items = items
