-- What a builder makes of its items, and what it refuses.
use Rattle.std.specs.Prelude.{◌≡◌, ℕ, ◌+◌, Bool, false, cond, nat_lt, nat_eq, ◌||◌, ⊤, List, [], ◌∷◌, ◌++◌, map, Some}
use Rattle.std.specs.List.{All, sum_by}
use Rattle.elem.specs.declared.elements.Elem.{Elem}
use Rattle.elem.specs.declared.build_kinds.BuildKind.{BuildKind}
use Rattle.elem.specs.declared.build_kinds.BuildKind.TheVariants as kind
use Rattle.elem.specs.Elements.{same}
use Rattle.elem.specs.Cuts.{same_cut}
use Rattle.build_base.specs.declared.row.Row.{Row}
use Rattle.build_base.specs.declared.row.Row.TheVariants.{Counted, Range, RangeValue}
use Rattle.build_base.specs.declared.part.Part.TheVariants.{First, Second, Both}
use Rattle.build_base.specs.declared.finish.Finish.{Finish}
use Rattle.build_base.specs.declared.finish.Finish.TheVariants.{Plain, OrThrow, KeepingLast}
use Rattle.build_base.specs.Rows.{alike, first_of, Fits}
use Rattle.build_base.specs.Kept.{firsts, lasts, has_twice, grouped}
use Rattle.build_base.specs.Ranges.{overlap, range_set_of, range_map_of, range_of, entry_of, IsWholeRow}

-- a kind, and the items in the order of their adding
pub record Build : Type 0 where
  pub kind : BuildKind
  pub items : List Row

-- every item fits the kind
abbrev pub AllFit : BuildKind → List Row → Type 0
AllFit k [] = ⊤
AllFit k (row ∷ rows) = Fits k row × AllFit k rows

-- the greatest count of one element of a multiset
abbrev pub most : ℕ
most = 2147483647

-- the occurrences of x that an item adds
abbrev pub count_in : Elem → Row → ℕ
count_in x (Counted y n) = cond (same y x) n 0
count_in x row = 0

-- how often x was added
abbrev pub count_of : List Row → Elem → ℕ
count_of items x = sum_by (count_in x) items

-- an item that is refused at once: an empty range, or a count of an element that would pass the greatest
abbrev pub refuses_item : List Row → Row → Bool
refuses_item items (Counted x n) = nat_lt most (count_of items x + n)
refuses_item items (Range s) = same_cut s.lo s.hi
refuses_item items (RangeValue s v) = same_cut s.lo s.hi
refuses_item items row = false

-- the items with one more; no occurrence of an element is no item
abbrev pub with_item : List Row → Row → List Row
with_item items (Counted x n) = cond (nat_eq n 0) items (items ++ Counted x n ∷ [])
with_item items row = items ++ row ∷ []

-- the word is one that the kind has: `buildOrThrow` of maps and bimaps, `buildKeepingLast` of maps, `build` of the others
abbrev pub HasWord : BuildKind → Finish → Type 0
HasWord kind.Map OrThrow = ⊤
HasWord kind.Map KeepingLast = ⊤
HasWord kind.Map Plain = ⊥
HasWord kind.BiMap OrThrow = ⊤
HasWord kind.BiMap how = ⊥
HasWord k Plain = ⊤
HasWord k how = ⊥

-- the items that together make nothing: a key, a value of a bimap or a cell added twice, or ranges that overlap
abbrev pub refuses : BuildKind → Finish → List Row → Bool
refuses kind.Map OrThrow items = has_twice (alike First) items
refuses kind.BiMap how items = has_twice (alike First) items || has_twice (alike Second) items
refuses kind.Table how items = has_twice (alike Both) items
refuses kind.RangeSet how items = has_twice overlap items
refuses kind.RangeMap how items = has_twice overlap items
refuses k how items = false

-- an element with the number of all its occurrences
abbrev pub all_of : List Row → Row → Row
all_of items row = Counted (first_of row) (count_of items (first_of row))

-- the rows that the items of a builder make: a set has the first of equal ones, a multiset each element once with its
-- count, a multimap the pairs of each key together, and what kept the last of each key those
abbrev pub built : BuildKind → Finish → List Row → List Row
built kind.Set how items = firsts (alike First) items
built kind.Multiset how items = map (all_of items) (firsts (alike First) items)
built kind.Map KeepingLast items = lasts (alike First) items
built kind.ListMultimap how items = grouped (alike First) items
built kind.SetMultimap how items = firsts (alike Both) (grouped (alike First) items)
built k how items = items

-- these rows are built: of ranges, those of the range set or range map to which all were added
abbrev pub IsBuilt : BuildKind → Finish → List Row → List Row → Type 0
IsBuilt kind.RangeSet how items rows = map range_of rows ≡ map Some (range_set_of items)
IsBuilt kind.RangeMap how items rows = map entry_of rows ≡ map Some (range_map_of items)
IsBuilt k how items rows = rows ≡ built k how items

-- the ranges that were built are of whole numbers
abbrev pub AreWhole : BuildKind → List Row → Type 0
AreWhole kind.RangeSet rows = All IsWholeRow rows
AreWhole kind.RangeMap rows = All IsWholeRow rows
AreWhole k rows = ⊤
