-- A row that goes before another, or last.
use Rattle.std.specs.Prelude.{cond, List, [], ◌∷◌, Option}
use Rattle.elem.specs.declared.elements.Elem.{Elem}
use Rattle.linked_base.specs.Group.{has}

-- the rows with one more before that of a key, or last where there is no key
abbrev pub put_before : {V : Type 0} → Option Elem → Elem × V → List (Elem × V) → List (Elem × V)
put_before next new [] = new ∷ []
put_before next new (row ∷ rows) = cond (has row.0 next) (new ∷ row ∷ rows) (row ∷ put_before next new rows)
