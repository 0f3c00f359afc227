-- Rows of pairs beside the order of their keys.
use Rattle.std.specs.Prelude.{◌≡◌, ◌≤◌, Bool, true, false, cond, List, [], ◌∷◌, ◌++◌, length, is_some}
use Rattle.std.specs.List.{filter, IsDistinct}
use Rattle.elem.specs.declared.elements.Elem.{Elem}
use Rattle.elem.specs.Elements.{same}
use Rattle.elem.specs.Rows.{first_key}
use Rattle.mm_base.specs.PairRows.{Row, pairs_of_key, rows_of_pair}

-- the rows, and the keys in their order
pub record KeyedRows : Type 0 where
  pub rows : List Row
  pub keys : List Elem

abbrev pub contains : Elem → List Elem → Bool
contains k [] = false
contains k (x ∷ keys) = cond (same k x) true (contains k keys)

-- the keys as rows with nothing beside a key
abbrev pub as_rows : List Elem → List (Elem × Unit {0})
as_rows [] = []
as_rows (k ∷ keys) = (k, tt) ∷ as_rows keys

-- whether a key has a row
abbrev pub has_key : List Row → Elem → Bool
has_key rows k = is_some (first_key (pairs_of_key k rows))

-- the keys are those of the rows, each once
pub record AreKeysOf (rows : List Row) (keys : List Elem) : Type 0 where
  pub exact : (k : Elem) → contains k keys ≡ has_key rows k
  pub distinct : IsDistinct same keys

-- no pair stands twice
abbrev pub HasDistinctPairs : List Row → Type 0
HasDistinctPairs rows = (k v : Elem) → length (rows_of_pair k v rows) ≤ 1

-- the keys with one that goes last where it is new
abbrev pub with_key : Elem → List Elem → List Elem
with_key k keys = cond (contains k keys) keys (keys ++ k ∷ [])

-- the keys that have a row, in their order
abbrev pub keys_with_rows : List Row → List Elem → List Elem
keys_with_rows rows keys = filter (has_key rows) keys
