-- Rows at places: a function tells the row of each place, and a list tells the places in order.
use Rattle.std.specs.Prelude.{◌≡◌, ℕ, List, length, Option}
use Rattle.std.specs.Option.{option_map}
use Rattle.std.specs.List.{filter_map, IsDistinct}
use Rattle.std.specs.Map.{lookup, keys_of}
use Rattle.elem.specs.declared.elements.Elem.{Elem}
use Rattle.elem.specs.Elements.{same}

-- the rows at these places
abbrev pub rows_of : {R : Type 0} → (ℕ → Option R) → List ℕ → List R
rows_of row_at ps = filter_map row_at ps

-- the key of each row, with its place
abbrev pub keyed : {V : Type 0} → (ℕ → Option (Elem × V)) → List ℕ → List (Elem × ℕ)
keyed row_at ps = filter_map (λ p. option_map (λ r. (r.0, p)) (row_at p)) ps

-- what finds the place of a key finds each row's, and no other
pub record IsIndexed {V : Type 0} (at : ℕ → Option (Elem × V)) (find : Elem → Option ℕ) (len : ℕ) (ps : List ℕ) : Type 0 where
  pub exact : (k : Elem) → find k ≡ lookup (same k) (keyed at ps)
  pub count : len ≡ length ps
  pub distinct : IsDistinct same (keys_of (rows_of at ps))

-- what the places have, each with its place
abbrev pub id_rows : {C : Type 0} → (ℕ → Option C) → List ℕ → List (ℕ × C)
id_rows core ps = filter_map (λ p. option_map (λ c. (p, c)) (core p)) ps
