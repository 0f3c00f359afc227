-- The rows of a key exchanged for others.
use Rattle.std.specs.Prelude.{◌≡◌, ℕ, not, List, [], ◌∷◌, ◌++◌, map, Option, is_some}
use Rattle.std.specs.List.{filter}
use Rattle.elem.specs.declared.elements.Elem.{Elem}
use Rattle.elem.specs.Elements.{same}
use Rattle.elem.specs.Rows.{first_key}
use Rattle.mm_base.specs.PairRows.{Row, pairs_of_key, without_key}
use Rattle.mm_base.specs.GroupedRows.{begins_with}
use Rattle.mm_base.specs.Replacing.{IsAppended}

-- the values in order, each once
abbrev pub each_once : List Elem → List Elem
each_once [] = []
each_once (v ∷ vs) = v ∷ filter (λ w. not (same v w)) (each_once vs)

-- the rows of a key are gone, and new ones with these values stand last
abbrev pub IsExchanged : Elem → List Elem → List Row → List Row → Type 0
IsExchanged k vs old new = IsAppended k vs (without_key k old) new

-- the rows are cut at `next`, where the first row of the key is, or at their end where it has none
pub record IsEdge (k : Elem) (next : Option ℕ) (rows front back : List Row) : Type 0 where
  pub cut : rows ≡ front ++ back
  pub start : next ≡ first_key back
  pub begins : is_some next ≡ begins_with k back
  pub none : pairs_of_key k front ≡ []

-- new rows of a key and these values stand at an edge
pub record IsPlaced (k : Elem) (vs : List Elem) (next : Option ℕ) (old new : List Row) : Type 0 where
  pub front : List Row
  pub back : List Row
  pub added : List Row
  pub edge : IsEdge k next old front back
  pub rows : new ≡ front ++ (added ++ back)
  pub values : map (λ (r : Row). r.1) added ≡ map (λ v. (k, v)) vs
