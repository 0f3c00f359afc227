-- Rows of ranges by their units. A place is the number of a cut, and unit n lies between the places n and n + 1:
-- every second unit holds one whole number, and the others are the gaps between two of them.
use Rattle.std.specs.Prelude.{◌≡◌, ℕ, ◌+◌, ◌<◌, ◌≤◌, Bool, true, cond, ◌&&◌, nat_lt, nat_le, List, [], ◌∷◌, Option, Some, None, ⊤}
use Rattle.range_base.specs.declared.part.Part.{Part}

-- the lower place of a row, and its upper place with its value
abbrev pub Row : Type 0 → Type 0
Row V = ℕ × Part V

-- the unit u is one of those from lo to hi - 1
abbrev pub in_units : ℕ → ℕ → ℕ → Bool
in_units lo hi u = nat_le lo u && nat_lt u hi

module _ {V : Type 0} where
  abbrev pub part : ℕ → V → Part V
  part hi v = record { end = hi; value = v }

  -- the value of the row that covers a unit
  abbrev pub cover : List (Row V) → ℕ → Option V
  cover [] u = None
  cover (row ∷ rows) u = cond (in_units row.0 row.1.end u) (Some row.1.value) (cover rows u)

  -- the units from lo to hi - 1 have the cover v, and every other unit has the cover that it had
  abbrev pub CoverChanges : ℕ → ℕ → Option V → List (Row V) → List (Row V) → Type 0
  CoverChanges lo hi v old new = (u : ℕ) → cover new u ≡ cond (in_units lo hi u) v (cover old u)

  -- rows from a place on, nonempty, in order, and with at least `gap` units between each and the next
  abbrev pub IsSpaced : ℕ → ℕ → List (Row V) → Type 0
  IsSpaced gap from [] = ⊤
  IsSpaced gap from (row ∷ rows) = (from ≤ row.0) × (row.0 < row.1.end) × IsSpaced gap (row.1.end + gap) rows

  -- rows in order, none of which overlap
  abbrev pub IsDisjoint : List (Row V) → Type 0
  IsDisjoint rows = IsSpaced 0 0 rows

  -- rows in order, with a unit that is not covered between each and the next
  abbrev pub IsApart : List (Row V) → Type 0
  IsApart rows = IsSpaced 1 0 rows

  -- a longest run of covered units: the row covers its own, and the units on both sides are not covered
  pub record IsMaximalRun (rows : List (Row V)) (row : Row V) : Type 0 where
    pub within : (u : ℕ) → in_units row.0 row.1.end u ≡ true → cover rows u ≡ Some row.1.value
    pub before : (u : ℕ) → u + 1 ≡ row.0 → cover rows u ≡ None
    pub after : cover rows row.1.end ≡ None
