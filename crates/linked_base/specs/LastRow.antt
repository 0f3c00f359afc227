-- A row put last is a row more at one place.
use Rattle.std.proofs.Common.{◌≡◌, List, [], ◌∷◌, ◌++◌, length, ap, refl, sym}
use Rattle.std.specs.List.{insert}
use Rattle.elem.specs.declared.elements.Elem.{Elem}
use Rattle.elem.specs.Keyed.{AddsRow}

insert_last : {X : Type 0} (xs : List X) (y : X) → insert xs (length xs) y ≡ xs ++ y ∷ []
insert_last [] y = refl
insert_last (x ∷ xs) y = ap (λ l. x ∷ l) (insert_last xs y)

pub adds_last : {V : Type 0} (rows : List (Elem × V)) (k : Elem) (v : V) → AddsRow rows (rows ++ (k, v) ∷ []) k v
adds_last rows k v = (length rows, sym (insert_last rows (k, v)))
