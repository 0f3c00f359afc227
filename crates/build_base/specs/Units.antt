-- Ranges by the units between their cuts.
use Rattle.std.specs.Prelude.{◌≡◌, ◌||◌, ℕ, Bool, true, false, ◌&&◌, nat_lt, List, Option, Some, None, IfSome, is_some}
use Rattle.std.specs.List.{All, list_any}
use Rattle.elem.specs.declared.spans.Span.{Span}
use Rattle.elem.specs.Cuts.{cut_before, IsCut}
use Rattle.elem.specs.Orders.{natural_before}
use Rattle.elem.specs.Places.{place}
use Rattle.elem.specs.Spans.{IsWhole}
use Rattle.range_base.specs.Rows.{Row as RangeRow, cover, in_units}
use Rattle.build_base.specs.declared.row.Row.{Row}
use Rattle.build_base.specs.Kept.{has_twice}
use Rattle.build_base.specs.Ranges.{overlap, span_of}

-- the lower cut comes before the upper cut: the range is not empty
abbrev pub has_length : Span → Bool
has_length s = cut_before natural_before s.lo s.hi

-- the range in a row, where there is one, is not empty
abbrev pub IsFilledRow : Row → Type 0
IsFilledRow row = IfSome (span_of row) (λ s. has_length s ≡ true)

-- a range between numbers of 64 bits or ends of the order, which is not empty
pub record IsLong (s : Span) : Type 0 where
  pub whole : IsWhole s
  pub lo : IsCut s.lo
  pub hi : IsCut s.hi
  pub length : has_length s ≡ true

-- the range in a row, where there is one, is such a range
abbrev pub IsLongRow : Row → Type 0
IsLongRow row = IfSome (span_of row) IsLong

-- a unit of a range, where there is one
abbrev pub in_span : ℕ → Option Span → Bool
in_span u None = false
in_span u (Some s) = in_units (place s.lo) (place s.hi) u

-- a unit of the range of a row
abbrev pub in_row : ℕ → Row → Bool
in_row u row = in_span u (span_of row)

-- a range, where there is one, begins before hi and ends after lo
abbrev pub overlaps : ℕ → ℕ → Option Span → Bool
overlaps lo hi None = false
overlaps lo hi (Some s) = nat_lt (place s.lo) hi && nat_lt lo (place s.hi)

module _ {V : Type 0} where
  -- the rows cover no unit from lo to hi - 1
  abbrev pub IsFree : ℕ → ℕ → List (RangeRow V) → Type 0
  IsFree lo hi rows = (u : ℕ) → in_units lo hi u ≡ true → cover rows u ≡ None

  -- the rows cover no unit of the range of a row
  abbrev pub IsFreeOf : Row → List (RangeRow V) → Type 0
  IsFreeOf row rows = (u : ℕ) → in_row u row ≡ true → cover rows u ≡ None

  -- the rows cover the units of one range more
  abbrev pub CoversMore : Row → List (RangeRow V) → List (RangeRow V) → Type 0
  CoversMore row old new = (u : ℕ) → is_some (cover new u) ≡ (in_row u row || is_some (cover old u))

  -- no two of the ranges overlap, and the rows cover exactly their units
  pub record AreCovered (items : List Row) (rows : List (RangeRow V)) : Type 0 where
    pub apart : has_twice overlap items ≡ false
    pub long : All IsLongRow items
    pub units : (u : ℕ) → is_some (cover rows u) ≡ list_any (in_row u) items
