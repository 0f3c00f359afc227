-- Rows that begin and end at cuts between whole numbers.
use Rattle.std.specs.Prelude.{ℕ, ◌<◌, List, [], ◌∷◌, ⊤}
use Rattle.elem.specs.Places.{IsPlace}
use Rattle.range_base.specs.Rows.{Row, IsDisjoint, IsApart}

module _ {V : Type 0} where
  -- both places of each row meet P
  abbrev pub AllEnds : (ℕ → Type 0) → List (Row V) → Type 0
  AllEnds P [] = ⊤
  AllEnds P (row ∷ rows) = P row.0 × P row.1.end × AllEnds P rows

  -- the rows of a range map: between whole numbers, in order, and not overlapping
  pub record IsMapRows (rows : List (Row V)) : Type 0 where
    pub disjoint : IsDisjoint rows
    pub places : AllEnds IsPlace rows

  -- the rows of a range set: between whole numbers, in order, and with a gap between each and the next
  pub record IsSetRows (rows : List (Row V)) : Type 0 where
    pub apart : IsApart rows
    pub places : AllEnds IsPlace rows

  -- a row that can be read as a range that is not empty
  pub record IsShowable (row : Row V) : Type 0 where
    pub lo : IsPlace row.0
    pub hi : IsPlace row.1.end
    pub in_order : row.0 < row.1.end
