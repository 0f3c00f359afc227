-- Pairs of a key and a value, read and changed from either side.
use Rattle.std.specs.Prelude.{◌≡◌, ◌≢◌, Bool, cond, not, ◌||◌, List, [], ◌∷◌, map, Option, Some}
use Rattle.std.specs.List.{filter}
use Rattle.elem.specs.declared.elements.Elem.{Elem}
use Rattle.elem.specs.Elements.{same}
use Rattle.elem.specs.Keyed.{value_at, HasDistinctKeys}

-- the pairs turned round: each value with its key
abbrev pub turned : List (Elem × Elem) → List (Elem × Elem)
turned rows = map (λ (r : Elem × Elem). (r.1, r.0)) rows

-- the key of a value
abbrev pub key_of : List (Elem × Elem) → Elem → Option Elem
key_of rows v = value_at (turned rows) v

abbrev pub HasDistinctValues : List (Elem × Elem) → Type 0
HasDistinctValues rows = HasDistinctKeys (turned rows)

-- the value is that of another key
abbrev pub IsBound : List (Elem × Elem) → Elem → Elem → Type 0
IsBound rows k v = (x : Elem) × (key_of rows v ≡ Some x) × (x ≢ k)

-- the pair stays where another key gives up the value
abbrev pub stays : Elem → Elem → Elem × Elem → Bool
stays k v row = not (same v row.1) || same k row.0

-- the pairs without that of another key that has the value
abbrev pub freed : List (Elem × Elem) → Elem → Elem → List (Elem × Elem)
freed rows k v = filter (stays k v) rows

-- the pairs after one came: in the place of the pair with the same key, else last
abbrev pub with_pair : List (Elem × Elem) → Elem → Elem → List (Elem × Elem)
with_pair [] k v = (k, v) ∷ []
with_pair (row ∷ rows) k v = cond (same k row.0) ((k, v) ∷ rows) (row ∷ with_pair rows k v)
