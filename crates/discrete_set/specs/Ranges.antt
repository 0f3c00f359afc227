-- Ranges of whole numbers and the numbers in them.
use Rattle.std.specs.Prelude.{◌≡◌, ◌-◌, ◌^◌, Bool, cond, nat_eq, List, map, is_some, ℤ, FitsSigned, ⊤}
use Rattle.std.specs.Int.{w64}
use Rattle.std.specs.List.{All}
use Rattle.elem.specs.declared.elements.Elem.TheVariants.{Int}
use Rattle.elem.specs.declared.cuts.Cut.TheVariants.{Below, Above, End}
use Rattle.elem.specs.declared.spans.Span.{Span}
use Rattle.elem.specs.Places.{place_below}
use Rattle.elem.specs.Spans.{IsWhole}
use Rattle.range_base.specs.Rows.{Row, cover, IsApart}
use Rattle.range_base.specs.Spans.{row_of_span}
use Rattle.discrete_set.specs.Numbers.{number}
use Rattle.discrete_set.specs.Runs.{runs_of}

-- ranges as rows
abbrev pub rows_of : List Span → List (Row ⊤)
rows_of spans = map row_of_span spans

-- the ranges of a range set: of whole numbers, nonempty, in order and apart
pub record IsRangeSet (spans : List Span) : Type 0 where
  pub whole : All IsWhole spans
  pub apart : IsApart (rows_of spans)

-- a number is in one of the ranges: its unit is covered
abbrev pub is_member : List Span → ℤ → Bool
is_member spans v = is_some (cover (rows_of spans) (place_below v))

-- two lists of ranges have the same numbers of 64 bits
abbrev pub HaveSameMembers : List Span → List Span → Type 0
HaveSameMembers spans others = (v : ℤ) → FitsSigned w64 v → is_member spans v ≡ is_member others v

-- a run as the closed range from its first number to its last
abbrev pub closed : Row ⊤ → Span
closed row = record { lo = Below (Int (number row.0)); hi = Above (Int (number (row.1.end - 1))) }

-- a run as the range from its first number to the number just above its last, or to the end where there is none
abbrev pub canonical : Row ⊤ → Span
canonical row = record { lo = Below (Int (number row.0)); hi = cond (nat_eq row.1.end (2 ^ 64)) End (Below (Int (number row.1.end))) }

-- one range for each maximal run of the numbers in the ranges
abbrev pub canonical_list : List Span → List Span
canonical_list spans = map canonical (runs_of (rows_of spans))
