-- A bag as the list of its elements, each with its count.
use Rattle.std.specs.Prelude.{◌≡◌, ℕ, ◌≤◌, ◌<◌, cond, nat_eq, is_some, unwrap_or, ⊤, List, [], ◌∷◌, ◌++◌, replicate}
use Rattle.std.specs.List.{sum_by}
use Rattle.elem.specs.declared.elements.Elem.{Elem}
use Rattle.elem.specs.Elements.{same}
use Rattle.elem.specs.Keyed.{value_at, with_value, without}

-- the greatest count of one element
abbrev pub most : ℕ
most = 2147483647

-- the count of an element, 0 where it is absent
abbrev pub count_of : List (Elem × ℕ) → Elem → ℕ
count_of rows x = unwrap_or (value_at rows x) 0

-- the rows with the count n for x: a count of 0 leaves no row, and `inserted` tells where a new row goes
abbrev pub with_count : (List (Elem × ℕ) → Elem → ℕ → List (Elem × ℕ)) → List (Elem × ℕ) → Elem → ℕ → List (Elem × ℕ)
with_count inserted rows x n = cond (nat_eq n 0) (without rows x) (cond (is_some (value_at rows x)) (with_value rows x n) (inserted rows x n))

-- x has the count n, and every other element its count as before
abbrev pub SetsCount : List (Elem × ℕ) → List (Elem × ℕ) → Elem → ℕ → Type 0
SetsCount old new x n = (y : Elem) → count_of new y ≡ cond (same x y) n (count_of old y)

-- every count is from 1 to the greatest
abbrev pub AreCounts : List (Elem × ℕ) → Type 0
AreCounts [] = ⊤
AreCounts (row ∷ rows) = (0 < row.1) × (row.1 ≤ most) × AreCounts rows

-- each element as often as its count says
abbrev pub occurrences : List (Elem × ℕ) → List Elem
occurrences [] = []
occurrences (row ∷ rows) = replicate row.1 row.0 ++ occurrences rows

-- the sum of the counts
abbrev pub total_of : List (Elem × ℕ) → ℕ
total_of rows = sum_by (λ row. row.1) rows
