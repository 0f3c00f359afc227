-- Groups of rows: each first key has its rows, in order, and no group is empty.
use Rattle.std.specs.Prelude.{◌≡◌, ℕ, List, [], ◌∷◌, ◌++◌, length, Option, Some, None, IsSome}
use Rattle.std.specs.Option.{option_map}
use Rattle.std.specs.List.{AllByRecursion}
use Rattle.elem.specs.declared.elements.Elem.{Elem}
use Rattle.elem.specs.Orders.{natural_before}
use Rattle.elem.specs.Rows.{first_key, last_key}
use Rattle.plain_base.specs.Sorted.{IsInOrder, rows_above, rows_below}
use Rattle.plain_base.specs.TwoKeys.{beside, group}

module _ {W : Type 0} where
  -- what a key has, where there is something
  abbrev pub own : Elem → Option W → List (Elem × W)
  own k None = []
  own k (Some w) = (k, w) ∷ []

  -- with this for a key: between what the keys before it have and what the keys after it have
  abbrev pub with_own : Elem → Option W → List (Elem × W) → List (Elem × W)
  with_own k w gs = rows_below natural_before k gs ++ (own k w ++ rows_above natural_before k gs)

module _ {V : Type 0} where
  -- the rows of all groups, one group after another
  abbrev pub flat : List (Elem × List (Elem × V)) → List (Elem × (Elem × V))
  flat [] = []
  flat (g ∷ gs) = beside g.0 g.1 ++ flat gs

  -- the rows of a group, none where there is none
  abbrev pub rows_in : Option (List (Elem × V)) → List (Elem × V)
  rows_in None = []
  rows_in (Some xs) = xs

  -- a group, where there are rows
  abbrev pub some_rows : List (Elem × V) → Option (List (Elem × V))
  some_rows [] = None
  some_rows (x ∷ xs) = Some (x ∷ xs)

  -- the first row of a key, by both its keys
  abbrev pub first_pair_of : Option Elem → List (Elem × (Elem × V)) → Option (Elem × Elem)
  first_pair_of None rows = None
  first_pair_of (Some k) rows = option_map (λ x. (k, x)) (first_key (group k rows))

  -- the last row of a key
  abbrev pub last_pair_of : Option Elem → List (Elem × (Elem × V)) → Option (Elem × Elem)
  last_pair_of None rows = None
  last_pair_of (Some k) rows = option_map (λ x. (k, x)) (last_key (group k rows))

  -- rows in order, at least one
  abbrev pub IsGroup : Elem × List (Elem × V) → Type 0
  IsGroup g = IsSome (first_key g.1) × IsInOrder natural_before g.1

  -- the groups in the order of their keys, and the number of rows in all
  pub record AreGroups (gs : List (Elem × List (Elem × V))) (total : ℕ) : Type 0 where
    pub order : IsInOrder natural_before gs
    pub each : AllByRecursion IsGroup gs
    pub count : total ≡ length (flat gs)
