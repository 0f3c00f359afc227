-- Runs as they are kept, each with the number of members before it.
use Rattle.std.specs.Prelude.{◌≡◌, ℕ, ◌+◌, ◌-◌, ◌^◌, ◌<◌, ◌≤◌, List, [], ◌∷◌, map, ⊤}
use Rattle.range_base.specs.Rows.{Row, part}
use Rattle.discrete_set.specs.declared.run.Run.{Run}

-- a run as a row
abbrev pub row_of : Run → Row ⊤
row_of run = (run.first, part (run.last + 1) tt)

abbrev pub rows_of_runs : List Run → List (Row ⊤)
rows_of_runs runs = map row_of runs

-- runs of 64 bits from a rank on, with a number between each and the next, and each with the number of members before it
abbrev pub IsCounted : ℕ → ℕ → List Run → Type 0
IsCounted from before [] = ⊤
IsCounted from before (run ∷ runs) =
    (from ≤ run.first) × (run.first ≤ run.last) × (run.last < 2 ^ 64) × (run.before ≡ before) × IsCounted (run.last + 2) (before + (run.last + 1 - run.first)) runs

-- the least rank at which one more run may begin
abbrev pub next_start : ℕ → List Run → ℕ
next_start from [] = from
next_start from (run ∷ runs) = next_start (run.last + 2) runs

-- the number of members, with those before
abbrev pub total : ℕ → List Run → ℕ
total before [] = before
total before (run ∷ runs) = total (before + (run.last + 1 - run.first)) runs
