-- Ranges added one after another.
use Rattle.std.specs.Prelude.{Bool, false, ◌&&◌, ⊤, List, [], fold, Option, Some, None}
use Rattle.elem.specs.declared.elements.Elem.{Elem}
use Rattle.elem.specs.declared.spans.Span.{Span}
use Rattle.elem.specs.Cuts.{cut_before}
use Rattle.elem.specs.Orders.{natural_before}
use Rattle.elem.specs.Places.{place}
use Rattle.elem.specs.Spans.{IsWhole}
use Rattle.range_base.specs.Rows.{Row as RangeRow}
use Rattle.range_base.specs.Edits.{add, put}
use Rattle.range_base.specs.Spans.{row_of_span, row_of_entry}
use Rattle.build_base.specs.declared.row.Row.{Row}
use Rattle.build_base.specs.declared.row.Row.TheVariants.{Range, RangeValue}

-- the range of a row
abbrev pub span_of : Row → Option Span
span_of (Range s) = Some s
span_of (RangeValue s v) = Some s
span_of row = None

-- two ranges, neither of them empty, have something in common: each begins before the other ends
abbrev pub spans_overlap : Option Span → Option Span → Bool
spans_overlap (Some s) (Some t) = cut_before natural_before s.lo t.hi && cut_before natural_before t.lo s.hi
spans_overlap s t = false

abbrev pub overlap : Row → Row → Bool
overlap a b = spans_overlap (span_of a) (span_of b)

-- the rows of a range set with one range more, and of a range map
abbrev pub with_range : List (RangeRow ⊤) → Row → List (RangeRow ⊤)
with_range rows (Range s) = add (place s.lo) (place s.hi) tt rows
with_range rows row = rows

abbrev pub with_entry : List (RangeRow Elem) → Row → List (RangeRow Elem)
with_entry rows (RangeValue s v) = put (place s.lo) (place s.hi) v rows
with_entry rows row = rows

-- the rows of a range set after all ranges were added, and of a range map
abbrev pub range_set_of : List Row → List (RangeRow ⊤)
range_set_of items = fold with_range [] items

abbrev pub range_map_of : List Row → List (RangeRow Elem)
range_map_of items = fold with_entry [] items

-- a row as one of a range set, and as one of a range map
abbrev pub range_of : Row → Option (RangeRow ⊤)
range_of (Range s) = Some (row_of_span s)
range_of row = None

abbrev pub entry_of : Row → Option (RangeRow Elem)
entry_of (RangeValue s v) = Some (row_of_entry (s, v))
entry_of row = None

-- the range in a row, where there is one, is one of whole numbers
abbrev pub IsWholeRow : Row → Type 0
IsWholeRow (Range s) = IsWhole s
IsWholeRow (RangeValue s v) = IsWhole s
IsWholeRow row = ⊤
