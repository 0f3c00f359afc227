-- Rows of two keys and a value: by the first key, and among those by the second.
use Rattle.std.specs.Prelude.{Bool, cond, not, is_some, ◌&&◌, ◌||◌, List, [], ◌∷◌, ◌++◌}
use Rattle.std.specs.List.{filter}
use Rattle.elem.specs.declared.elements.Elem.{Elem}
use Rattle.elem.specs.Elements.{same}
use Rattle.elem.specs.Keyed.{value_at, IsPresent}
use Rattle.elem.specs.Orders.{natural_before}
use Rattle.plain_base.specs.Sorted.{IsInOrder, rows_above, rows_below}

-- two pairs of keys are the same
abbrev pub same_both : Elem × Elem → Elem × Elem → Bool
same_both p q = same p.0 q.0 && same p.1 q.1

-- by the first keys, and where they are the same by the second
abbrev pub both_before : Elem × Elem → Elem × Elem → Bool
both_before p q = natural_before p.0 q.0 || (same p.0 q.0 && natural_before p.1 q.1)

module _ {V : Type 0} where
  -- the rows of a first key, by their second keys
  abbrev pub group : Elem → List (Elem × (Elem × V)) → List (Elem × V)
  group k [] = []
  group k (row ∷ rows) = cond (same k row.0) (row.1 ∷ group k rows) (group k rows)

  -- the rows by both their keys
  abbrev pub by_both : List (Elem × (Elem × V)) → List ((Elem × Elem) × V)
  by_both [] = []
  by_both (row ∷ rows) = ((row.0, row.1.0), row.1.1) ∷ by_both rows

  -- whether there is a row of these two keys
  abbrev pub has_both : Elem → Elem → List (Elem × (Elem × V)) → Bool
  has_both k x rows = is_some (value_at (group k rows) x)

  -- there is a row of these two keys
  abbrev pub HasBoth : List (Elem × (Elem × V)) → Elem → Elem → Type 0
  HasBoth rows k x = IsPresent (group k rows) x

  -- the rows stand by their first keys, and among those by their second
  abbrev pub IsInBothOrder : List (Elem × (Elem × V)) → Type 0
  IsInBothOrder rows = IsInOrder both_before (by_both rows)

  -- the rows of the other first keys
  abbrev pub without_group : Elem → List (Elem × (Elem × V)) → List (Elem × (Elem × V))
  without_group k rows = filter (λ row. not (same k row.0)) rows

  -- the rows without that of two keys
  abbrev pub without_both : Elem → Elem → List (Elem × (Elem × V)) → List (Elem × (Elem × V))
  without_both k x rows = filter (λ row. not (same k row.0 && same x row.1.0)) rows

  -- the rows with another value at two keys
  abbrev pub with_both : Elem → Elem → V → List (Elem × (Elem × V)) → List (Elem × (Elem × V))
  with_both k x v [] = []
  with_both k x v (row ∷ rows) = cond (same k row.0 && same x row.1.0) (k, (x, v)) row ∷ with_both k x v rows

  -- a first key beside each row of a group
  abbrev pub beside : Elem → List (Elem × V) → List (Elem × (Elem × V))
  beside k [] = []
  beside k (x ∷ xs) = (k, x) ∷ beside k xs

  -- the rows with these for a first key: between those of the keys before it and those of the keys after it
  abbrev pub with_group : Elem → List (Elem × V) → List (Elem × (Elem × V)) → List (Elem × (Elem × V))
  with_group k xs rows = rows_below natural_before k rows ++ (beside k xs ++ rows_above natural_before k rows)
