-- Rows of pairs: each is an id with a key and a value. What is read from them, and what the calls make of them.
use Rattle.std.specs.Prelude.{◌≡◌, ℕ, Bool, cond, not, List, [], ◌∷◌, ◌++◌, length, Option, Some, None, IsSome, is_some, nat_eq, slice_get}
use Rattle.std.specs.Option.{option_map}
use Rattle.std.specs.List.{filter, IsDistinct}
use Rattle.std.specs.Map.{lookup, remove_entry, set_value, keys_of}
use Rattle.elem.specs.declared.elements.Elem.{Elem}
use Rattle.elem.specs.Elements.{same}
use Rattle.elem.specs.Rows.{first_key}

-- an id, and its key and value
abbrev pub Row : Type 0
Row = ℕ × (Elem × Elem)

-- no id stands twice
abbrev pub HasDistinctIds : List Row → Type 0
HasDistinctIds rows = IsDistinct nat_eq (keys_of rows)

-- the key and value of an id
abbrev pub pair_of : List Row → ℕ → Option (Elem × Elem)
pair_of rows p = lookup (nat_eq p) rows

-- the id names a row
abbrev pub IsLive : List Row → ℕ → Type 0
IsLive rows p = IsSome (pair_of rows p)

-- the id names no row
abbrev pub IsNew : List Row → ℕ → Type 0
IsNew rows p = pair_of rows p ≡ None

-- the rows of a key, in order
abbrev pub pairs_of_key : Elem → List Row → List Row
pairs_of_key k rows = filter (λ (r : Row). same k r.1.0) rows

-- the rows of a pair's key, where there is a pair
abbrev pub rows_beside : Option (Elem × Elem) → List Row → List Row
rows_beside None rows = []
rows_beside (Some pair) rows = pairs_of_key pair.0 rows

-- the rows of the other keys
abbrev pub without_key : Elem → List Row → List Row
without_key k rows = filter (λ (r : Row). not (same k r.1.0)) rows

-- how many rows a key has
abbrev pub count_of : Elem → List Row → ℕ
count_of k rows = length (pairs_of_key k rows)

-- the first pair of each key, in order
abbrev pub first_pairs : List Row → List (Elem × Elem)
first_pairs [] = []
first_pairs (row ∷ rows) = row.1 ∷ filter (λ (pair : Elem × Elem). not (same row.1.0 pair.0)) (first_pairs rows)

-- the id of a key's row number i
abbrev pub id_of : Elem → ℕ → List Row → Option ℕ
id_of k i rows = option_map (λ (r : Row). r.0) (slice_get (pairs_of_key k rows) i)

-- the rows of a key that have a value
abbrev pub rows_of_pair : Elem → Elem → List Row → List Row
rows_of_pair k v rows = filter (λ (r : Row). same v r.1.1) (pairs_of_key k rows)

-- whether a row has the key and the value
abbrev pub has_pair : Elem → Elem → List Row → Bool
has_pair k v rows = is_some (first_key (rows_of_pair k v rows))

-- the rows without that of an id
abbrev pub without_id : Option ℕ → List Row → List Row
without_id None rows = rows
without_id (Some p) rows = remove_entry (nat_eq p) rows

-- the rows without the first that has the key and the value
abbrev pub without_pair : Elem → Elem → List Row → List Row
without_pair k v rows = without_id (first_key (rows_of_pair k v rows)) rows

-- the key and value of an id, where there is an id
abbrev pub pair_at : Option ℕ → List Row → Option (Elem × Elem)
pair_at None rows = None
pair_at (Some p) rows = pair_of rows p

-- the rows with another key and value for an id
abbrev pub with_pair : Option ℕ → Elem × Elem → List Row → List Row
with_pair None pair rows = rows
with_pair (Some p) pair rows = set_value (nat_eq p) rows pair

-- the rows with one more before that of an id, or last
abbrev pub put_before : Option ℕ → Row → List Row → List Row
put_before None new rows = rows ++ new ∷ []
put_before (Some q) new [] = new ∷ []
put_before (Some q) new (row ∷ rows) = cond (nat_eq q row.0) (new ∷ row ∷ rows) (row ∷ put_before (Some q) new rows)

-- the rows from that of an id on, where there is an id
abbrev pub rows_from : Option ℕ → List Row → List Row
rows_from None rows = []
rows_from (Some q) [] = []
rows_from (Some q) (row ∷ rows) = cond (nat_eq q row.0) (row ∷ rows) (rows_from (Some q) rows)

-- the rows after a new one with the key and the value came before that of an id, or last
abbrev pub IsPut : Option ℕ → Elem → Elem → List Row → List Row → Type 0
IsPut next k v old new = (id : ℕ) × IsNew old id × (new ≡ put_before next (id, (k, v)) old)
