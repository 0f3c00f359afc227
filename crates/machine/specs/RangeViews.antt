-- Ranges as items, and what steps over views of ranges show.
use Rattle.std.specs.Prelude.{ℕ, ◌-◌, ◌/◌, ◌%◌, ◌^◌, ◌==◌, nat_le, if◌then◌else◌, ℤ, pos, negsuc, Bool, List, [], ◌∷◌, map, Option, ⊤}
use Rattle.std.specs.Option.{option_map}
use Rattle.std.specs.List.{flat_map}
use Rattle.elem.specs.declared.cuts.Cut.{Cut}
use Rattle.elem.specs.declared.cuts.Cut.TheVariants.{Start, Below, Above, End}
use Rattle.elem.specs.declared.elements.Elem.{Elem}
use Rattle.elem.specs.declared.elements.Elem.TheVariants.{Int}
use Rattle.elem.specs.declared.spans.Span.{Span}
use Rattle.elem.specs.Places.{place}
use Rattle.range_base.specs.Rows.{Row, part, in_units}
use Rattle.range_base.specs.Spans.{row_of_span, row_of_entry}
use Rattle.range_views.specs.Answers.{hull}
use Rattle.range_views.specs.Shown.{end_place, complement, clip}
use Rattle.vocabulary.specs.declared.items.Item.{Item}
use Rattle.vocabulary.specs.declared.items.Item.TheVariants.{Range, RangeEntry}
use Rattle.vocabulary.specs.Items.{no_element}

-- ---- the cut at a place

-- the number whose cuts lie at twice n and one further, counted from the start
abbrev pub number_at : ℕ → ℤ
number_at n = if nat_le (2 ^ 65) n then pos (n - 2 ^ 65) else negsuc (2 ^ 65 - n - 1)

abbrev pub cut_at : ℕ → Cut
cut_at n = if n == 0 then Start else if n == end_place then End else if n % 2 == 0 then Below (Int (number_at (n / 2))) else Above (Int (number_at (n / 2)))

abbrev pub span_at : ℕ → ℕ → Span
span_at lo hi = record { lo = cut_at lo; hi = cut_at hi }

-- ---- rows of ranges as items, and back; other items are no ranges

abbrev pub set_item : Row ⊤ → Item
set_item row = Range (span_at row.0 row.1.end)

abbrev pub set_row : Item → Row ⊤
set_row (Range s) = row_of_span s
set_row (RangeEntry s v) = row_of_span s
set_row other = (0, part 0 tt)

abbrev pub set_items : List (Row ⊤) → List Item
set_items rows = map set_item rows

abbrev pub set_rows : List Item → List (Row ⊤)
set_rows items = map set_row items

abbrev pub map_item : Row Elem → Item
map_item row = RangeEntry (span_at row.0 row.1.end) row.1.value

abbrev pub map_row : Item → Row Elem
map_row (RangeEntry s v) = row_of_entry (s, v)
map_row other = (0, part 0 no_element)

abbrev pub map_items : List (Row Elem) → List Item
map_items rows = map map_item rows

abbrev pub map_rows : List Item → List (Row Elem)
map_rows items = map map_row items

-- ---- views

-- the overlap of an item with a range
abbrev pub overlap : Span → Item → List Item
overlap w (Range s) = set_items (clip (place w.lo) (place w.hi) (row_of_span s ∷ []))
overlap w (RangeEntry s v) = map_items (clip (place w.lo) (place w.hi) (row_of_entry (s, v) ∷ []))
overlap w other = []

-- what lies in a range
abbrev pub in_part : Span → List Item → List Item
in_part w items = flat_map (overlap w) items

-- what no range covers
abbrev pub not_covered : List Item → List Item
not_covered items = set_items (complement (set_rows items))

-- ---- reading

-- whether a range covers a unit
abbrev pub holds_unit : ℕ → Item → Bool
holds_unit u item = in_units (set_row item).0 (set_row item).1.end u

-- the unit that is a number
abbrev pub unit_of : Elem → ℕ
unit_of x = place (Below x)

-- the least range around all
abbrev pub span_of : List Item → Option Item
span_of items = option_map (λ (h : ℕ × ℕ). Range (span_at h.0 h.1)) (hull (set_rows items))
