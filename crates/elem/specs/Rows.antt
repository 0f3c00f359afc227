-- Rows of a key and a value in their order, read and changed by a test of the key.
use Rattle.std.specs.Prelude.{Bool, cond, List, [], ◌∷◌, Option, Some, None}

module _ {K V : Type 0} where
  abbrev pub first_key : List (K × V) → Option K
  first_key [] = None
  first_key (row ∷ rows) = Some row.0

  -- the key of the last row, where `start` stands before the first
  abbrev pub last_key_or : Option K → List (K × V) → Option K
  last_key_or start [] = start
  last_key_or start (row ∷ rows) = last_key_or (Some row.0) rows

  abbrev pub last_key : List (K × V) → Option K
  last_key = last_key_or None

  -- the key after the row whose key passes
  abbrev pub key_after : (K → Bool) → List (K × V) → Option K
  key_after test [] = None
  key_after test (row ∷ rows) = cond (test row.0) (first_key rows) (key_after test rows)

  -- the key before it, where `start` stands before the first
  abbrev pub key_before_or : Option K → (K → Bool) → List (K × V) → Option K
  key_before_or start test [] = None
  key_before_or start test (row ∷ rows) = cond (test row.0) start (key_before_or (Some row.0) test rows)

  abbrev pub key_before : (K → Bool) → List (K × V) → Option K
  key_before = key_before_or None

  -- with another row in the place of the one whose key passes
  abbrev pub set_row : (K → Bool) → List (K × V) → K × V → List (K × V)
  set_row test [] new = []
  set_row test (row ∷ rows) new = cond (test row.0) (new ∷ rows) (row ∷ set_row test rows new)
