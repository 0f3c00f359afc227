-- Rows read by a place.
use Rattle.std.specs.Prelude.{ℕ, cond, ◌&&◌, nat_lt, nat_le, ◌==◌, List, [], ◌∷◌, Option, Some, None}
use Rattle.std.specs.Map.{lookup}
use Rattle.std.specs.Option.{unwrap_or}
use Rattle.std.specs.BTreeMap.{is_at}
use Rattle.std.specs.Ordering.{nat_cmp}
use Rattle.range_base.specs.declared.part.Part.{Part}
use Rattle.range_base.specs.Rows.{Row, part}

module _ {V : Type 0} where
  -- what the row that begins at a place has beside it
  abbrev pub at : ℕ → List (Row V) → Option (Part V)
  at q rows = lookup (is_at (nat_cmp q)) rows

  -- the row that has units on both sides of a place
  abbrev pub spanning : ℕ → List (Row V) → Option (Row V)
  spanning c [] = None
  spanning c (row ∷ rows) = cond (nat_lt row.0 c && nat_lt c row.1.end) (Some row) (spanning c rows)

  -- what is left of that row before the place
  abbrev pub head : ℕ → Option (Row V) → Option (Row V)
  head c None = None
  head c (Some row) = Some (row.0, part c row.1.value)

  -- and after it
  abbrev pub tail : ℕ → Option (Row V) → Option (Row V)
  tail c None = None
  tail c (Some row) = Some (c, row.1)

  -- what begins at q after a row was written, where p began there before
  abbrev pub with_row : Option (Row V) → ℕ → Option (Part V) → Option (Part V)
  with_row None q p = p
  with_row (Some row) q p = cond (q == row.0) (Some row.1) p

  -- of rows in order, the last that begins at a place or before it
  abbrev pub last_up_to : ℕ → List (Row V) → Option (Row V)
  last_up_to c [] = None
  last_up_to c (row ∷ rows) = cond (nat_le row.0 c) (Some (unwrap_or (last_up_to c rows) row)) None

  abbrev pub first_row : List (Row V) → Option (Row V)
  first_row [] = None
  first_row (row ∷ rows) = Some row

  -- of rows in order, the first that begins after a place
  abbrev pub first_after : ℕ → List (Row V) → Option (Row V)
  first_after c [] = None
  first_after c (row ∷ rows) = cond (nat_lt c row.0) (Some row) (first_after c rows)
