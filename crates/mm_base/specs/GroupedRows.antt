-- Rows that are grouped by key.
use Rattle.std.specs.Prelude.{◌≡◌, ℕ, Bool, false, cond, List, [], ◌∷◌, ◌++◌, map, insert}
use Rattle.elem.specs.declared.elements.Elem.{Elem}
use Rattle.elem.specs.Elements.{same}
use Rattle.mm_base.specs.PairRows.{Row, IsNew, pairs_of_key, without_key}
use Rattle.mm_base.specs.KeyedRows.{has_key}

-- whether the first row has the key
abbrev pub begins_with : Elem → List Row → Bool
begins_with k [] = false
begins_with k (row ∷ rows) = same k row.1.0

-- a key that comes again after a row comes right after it
abbrev pub IsGrouped : List Row → Type 0
IsGrouped [] = Unit {0}
IsGrouped (row ∷ rows) = (has_key rows row.1.0 ≡ begins_with row.1.0 rows) × IsGrouped rows

-- the rows with these in the place of those of a key, or last where it has none
abbrev pub in_place_of : Elem → List Row → List Row → List Row
in_place_of k new [] = new
in_place_of k new (row ∷ rows) = cond (same k row.1.0) (new ++ without_key k rows) (row ∷ in_place_of k new rows)

-- the rows after a new one with the key and the value came into the key's group, before number i
abbrev pub IsPutInGroup : ℕ → Elem → Elem → List Row → List Row → Type 0
IsPutInGroup i k v old new = (id : ℕ) × IsNew old id × (new ≡ in_place_of k (insert (pairs_of_key k old) i (id, (k, v))) old)

-- new rows with these values stand in the place of those of a key
abbrev pub IsReplacedInGroup : Elem → List Elem → List Row → List Row → Type 0
IsReplacedInGroup k vs old new = (added : List Row) × (new ≡ in_place_of k added old) × (map (λ (r : Row). r.1) added ≡ map (λ v. (k, v)) vs)

-- the rows that stand before and after those of a key; behind a key that has none stands nothing
pub record IsSplit (k : Elem) (rows us vs : List Row) : Type 0 where
  pub cut : rows ≡ us ++ (pairs_of_key k rows ++ vs)
  pub none_front : pairs_of_key k us ≡ []
  pub none_back : pairs_of_key k vs ≡ []
  pub in_place : (new : List Row) → in_place_of k new rows ≡ us ++ (new ++ vs)
  pub absent : pairs_of_key k rows ≡ [] → vs ≡ []
