-- Rows and keys that go last.
use Rattle.std.specs.Prelude.{ℕ, not, List, [], ◌∷◌, ◌++◌, Option, Some, None}
use Rattle.std.specs.List.{filter}
use Rattle.elem.specs.declared.elements.Elem.{Elem}
use Rattle.elem.specs.Elements.{same}
use Rattle.mm_base.specs.PairRows.{Row, pair_of, pairs_of_key, without_id, without_key}

-- the row of an id, where it has a key and a value
abbrev pub as_row : ℕ → Option (Elem × Elem) → List Row
as_row p None = []
as_row p (Some pair) = (p, pair) ∷ []

-- the rows with that of an id last
abbrev pub moved_last : ℕ → List Row → List Row
moved_last p rows = without_id (Some p) rows ++ as_row p (pair_of rows p)

-- the rows with those of a key last
abbrev pub key_moved_last : Elem → List Row → List Row
key_moved_last k rows = without_key k rows ++ pairs_of_key k rows

-- the keys with one of them last
abbrev pub key_last : Elem → List Elem → List Elem
key_last k keys = filter (λ x. not (same k x)) keys ++ k ∷ []
