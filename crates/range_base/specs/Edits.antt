-- Rows after a range was taken out, put or added.
use Rattle.std.specs.Prelude.{ℕ, ◌&&◌, min, max, cond, nat_lt, nat_le, List, [], ◌∷◌, ◌++◌, Option, Some, None}
use Rattle.std.specs.BTreeMap.{insert_entry}
use Rattle.std.specs.Ordering.{nat_cmp}
use Rattle.range_base.specs.Rows.{Row, part}

module _ {V : Type 0} where
  -- the row from lo to hi, where that is not empty
  abbrev pub run : ℕ → ℕ → V → List (Row V)
  run lo hi v = cond (nat_lt lo hi) ((lo, part hi v) ∷ []) []

  -- what is left of each row before lo and after hi
  abbrev pub without_units : ℕ → ℕ → List (Row V) → List (Row V)
  without_units lo hi [] = []
  without_units lo hi (row ∷ rows) = run row.0 (min row.1.end lo) row.1.value ++ (run (max row.0 hi) row.1.end row.1.value ++ without_units lo hi rows)

  -- the range is taken from every row; an empty one changes nothing
  abbrev pub cut_out : ℕ → ℕ → List (Row V) → List (Row V)
  cut_out lo hi rows = cond (nat_lt lo hi) (without_units lo hi rows) rows

  -- the range is taken from every row, and is then a row of its own; an empty one changes nothing
  abbrev pub put : ℕ → ℕ → V → List (Row V) → List (Row V)
  put lo hi v rows = cond (nat_lt lo hi) (insert_entry nat_cmp (without_units lo hi rows) lo (part hi v)) rows

  -- the row that a place lies in, or at an end of
  abbrev pub touching : ℕ → List (Row V) → Option (Row V)
  touching c [] = None
  touching c (row ∷ rows) = cond (nat_le row.0 c && nat_le c row.1.end) (Some row) (touching c rows)

  -- the lower place of that row, or the place itself
  abbrev pub start_of : ℕ → Option (Row V) → ℕ
  start_of c None = c
  start_of c (Some row) = row.0

  -- the upper place of that row, or the place itself
  abbrev pub end_of : ℕ → Option (Row V) → ℕ
  end_of c None = c
  end_of c (Some row) = row.1.end

  -- the range becomes one row with the rows that it touches; an empty one changes nothing
  abbrev pub add : ℕ → ℕ → V → List (Row V) → List (Row V)
  add lo hi v rows = cond (nat_lt lo hi) (put (start_of lo (touching lo rows)) (end_of hi (touching hi rows)) v rows) rows
