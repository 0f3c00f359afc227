-- The values of a key replaced by others.
use Rattle.std.specs.Prelude.{◌≡◌, ℕ, cond, List, [], ◌∷◌, ◌++◌, map, drop, Option}
use Rattle.elem.specs.declared.elements.Elem.{Elem}
use Rattle.elem.specs.Elements.{same}
use Rattle.elem.specs.Rows.{first_key}
use Rattle.mm_base.specs.PairRows.{Row, pairs_of_key, without_key, count_of}

-- the rows where those of a key get the values in turn, and those for which there is none are gone
abbrev pub overwritten : Elem → List Elem → List Row → List Row
overwritten k [] rows = without_key k rows
overwritten k (v ∷ vs) [] = []
overwritten k (v ∷ vs) (row ∷ rows) = cond (same k row.1.0) ((row.0, (k, v)) ∷ overwritten k vs rows) (row ∷ overwritten k (v ∷ vs) rows)

-- the rows with new ones of a key and these values last
abbrev pub IsAppended : Elem → List Elem → List Row → List Row → Type 0
IsAppended k vs old new = (added : List Row) × (new ≡ old ++ added) × (map (λ (r : Row). r.1) added ≡ map (λ v. (k, v)) vs)

-- a key's rows have these values: in their places as far as both go, and the rest of the values last of all
abbrev pub IsReplaced : Elem → List Elem → List Row → List Row → Type 0
IsReplaced k vs old new = IsAppended k (drop (count_of k old) vs) (overwritten k vs old) new

-- Values were written as far as there were any. What is left of the key's rows begins at `rest`.
pub record IsWritten (k : Elem) (vs : List Elem) (old new : List Row) (rest : Option ℕ) : Type 0 where
  pub front : List Row
  pub back : List Row
  pub cut : new ≡ front ++ back
  pub start : rest ≡ first_key (pairs_of_key k back)
  pub rows : overwritten k vs old ≡ front ++ without_key k back

-- the rows are cut where the next row of a key is
abbrev pub IsCutAt : Elem → Option ℕ → List Row → List Row → List Row → Type 0
IsCutAt k from rows front back = (rows ≡ front ++ back) × (from ≡ first_key (pairs_of_key k back))
