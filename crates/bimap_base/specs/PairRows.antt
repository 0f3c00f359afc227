-- What the fields of a bimap mean, and what one step does to its rows.
use Rattle.std.specs.Prelude.{◌≡◌, List, [], ◌∷◌, ◌++◌, Option, Some, None}
use Rattle.elem.specs.declared.elements.Elem.{Elem}
use Rattle.elem.specs.Elements.{same}
use Rattle.elem.specs.Keyed.{without}
use Rattle.elem.specs.Rows.{set_row}
use Rattle.bimap_base.specs.Pairs.{key_of, HasDistinctValues}

-- what finds the key of a value finds each pair's and no other, and no value stands twice
pub record IsTurned (rows : List (Elem × Elem)) (find : Elem → Option Elem) : Type 0 where
  pub exact : (v : Elem) → find v ≡ key_of rows v
  pub distinct : HasDistinctValues rows

-- the rows without that of a key, where there is a key
abbrev pub without_some : Option Elem → List (Elem × Elem) → List (Elem × Elem)
without_some None rows = rows
without_some (Some k) rows = without rows k

-- the rows with another in the place of that of a key, or last where there is no key
abbrev pub in_place_of : List (Elem × Elem) → Option Elem → Elem × Elem → List (Elem × Elem)
in_place_of rows None new = rows ++ new ∷ []
in_place_of rows (Some k) new = set_row (same k) rows new
