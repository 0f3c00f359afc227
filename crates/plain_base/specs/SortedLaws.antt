-- A row in its place adds one row and leaves the others in order.
use Rattle.std.proofs.Common.{◌≡◌, ℕ, suc, Bool, true, false, cond, List, [], ◌∷◌, refl, sym, ap, ◌∙◌}
use Rattle.std.specs.List.{insert}
use Rattle.elem.specs.declared.elements.Elem.{Elem}
use Rattle.elem.specs.Keyed.{AddsRow}
use Rattle.plain_base.specs.Sorted.{placed}

module _ {V : Type 0} where
  insert-suc : (row : Elem × V) (rows : List (Elem × V)) (i : ℕ) (new : Elem × V) → insert (row ∷ rows) (suc i) new ≡ row ∷ insert rows i new
  insert-suc row rows i new = refl

  pub placed-adds : (before : Elem → Elem → Bool) (k : Elem) (v : V) (rows : List (Elem × V)) → AddsRow rows (placed before rows k v) k v
  placed-adds before k v [] = (0, refl)
  placed-adds before k v (row ∷ rows) = by (before k row.0) (placed-adds before k v rows)
    where
      by : (t : Bool) → AddsRow rows (placed before rows k v) k v → AddsRow (row ∷ rows) (cond t ((k, v) ∷ row ∷ rows) (row ∷ placed before rows k v)) k v
      by true a = (0, refl)
      by false a = (suc a.0, ap (λ (rest : List (Elem × V)). row ∷ rest) a.1 ∙ sym (insert-suc row rows a.0 (k, v)))
