-- Which of a list's rows are kept: the first or the last of those that are alike, or those of each key in turn.
use Rattle.std.specs.Prelude.{ℕ, suc, Bool, false, not, cond, ◌||◌, List, [], ◌∷◌, ◌++◌, map, slice_set, slice_index_or, Option, Some, None}
use Rattle.std.specs.Option.{option_map}
use Rattle.std.specs.List.{filter, list_any}

module _ {R : Type 0} (alike : R → R → Bool) where
  -- the first of those that are alike
  abbrev pub firsts : List R → List R
  firsts [] = []
  firsts (row ∷ rows) = row ∷ filter (λ r. not (alike row r)) (firsts rows)

  -- the last of those that are alike
  abbrev pub lasts : List R → List R
  lasts [] = []
  lasts (row ∷ rows) = cond (list_any (alike row) rows) (lasts rows) (row ∷ lasts rows)

  -- two of the rows are alike
  abbrev pub has_twice : List R → Bool
  has_twice [] = false
  has_twice (row ∷ rows) = list_any (alike row) rows || has_twice rows

  -- for each of some rows in turn those that are like it
  abbrev pub those_like : List R → List R → List R
  those_like [] rows = []
  those_like (head ∷ heads) rows = filter (alike head) rows ++ those_like heads rows

  -- those that are alike together, in the order of the first of each
  abbrev pub grouped : List R → List R
  grouped rows = those_like (firsts rows) rows

  -- the rows of each key, in the order of the first of each
  abbrev pub groups_of : List R → List (List R)
  groups_of rows = map (λ head. filter (alike head) rows) (firsts rows)

module _ {R : Type 0} where
  -- where the first of the rows stands that passes
  abbrev pub place_of : (R → Bool) → List R → Option ℕ
  place_of passes [] = None
  place_of passes (row ∷ rows) = cond (passes row) (Some 0) (option_map suc (place_of passes rows))

  -- a row comes last in the group of that place, or is a new group
  abbrev pub with_row : Option ℕ → R → List (List R) → List (List R)
  with_row (Some j) row groups = slice_set groups j (slice_index_or groups j [] ++ row ∷ [])
  with_row None row groups = groups ++ (row ∷ []) ∷ []
