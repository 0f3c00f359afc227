-- Sets of numbers as rows of a range set, where the unit n is the number of rank n: each row is a run of members.
use Rattle.std.specs.Prelude.{◌≡◌, ℕ, zero, suc, ◌+◌, ◌-◌, ◌^◌, ◌≤◌, min, max, Bool, true, cond, nat_lt, List, [], ◌∷◌, ◌++◌, fold, Option, Some, None, is_some, ⊤}
use Rattle.range_base.specs.Rows.{Row, cover, IsApart}
use Rattle.range_base.specs.Edits.{run, add}
use Rattle.discrete_set.specs.Numbers.{numbers_below}

-- whether the number of a rank is a member
abbrev pub has : List (Row ⊤) → ℕ → Bool
has runs n = is_some (cover runs n)

-- the runs of a set of numbers of 64 bits: between each and the next a number is no member
pub record AreRuns (runs : List (Row ⊤)) : Type 0 where
  pub apart : IsApart runs
  pub bound : (n : ℕ) → 2 ^ 64 ≤ n → cover runs n ≡ None

-- how many members lie below a rank
unfoldable pub count_below : List (Row ⊤) → ℕ → ℕ
count_below runs zero = 0
count_below runs (suc n) = count_below runs n + cond (has runs n) 1 0

-- member i: exactly i members lie below it
pub record IsItem (runs : List (Row ⊤)) (i n : ℕ) : Type 0 where
  pub member : has runs n ≡ true
  pub below : count_below runs n ≡ i

-- the rank of member i
abbrev pub item : List (Row ⊤) → ℕ → Option ℕ
item [] i = None
item (row ∷ rows) i = cond (nat_lt i (row.1.end - row.0)) (Some (row.0 + i)) (item rows (i - (row.1.end - row.0)))

-- the runs after the numbers between two places came
abbrev pub with_numbers : List (Row ⊤) → Row ⊤ → List (Row ⊤)
with_numbers runs row = add (numbers_below row.0) (numbers_below row.1.end) tt runs

-- the runs of the numbers that the rows of a range set hold
abbrev pub runs_of : List (Row ⊤) → List (Row ⊤)
runs_of rows = fold with_numbers [] rows

-- what the runs have from one rank to another
abbrev pub within : ℕ → ℕ → List (Row ⊤) → List (Row ⊤)
within lo hi [] = []
within lo hi (row ∷ rows) = run (max row.0 lo) (min row.1.end hi) tt ++ within lo hi rows

-- what two lists of runs have in common
abbrev pub common : List (Row ⊤) → List (Row ⊤) → List (Row ⊤)
common [] others = []
common (row ∷ rows) others = within row.0 row.1.end others ++ common rows others
