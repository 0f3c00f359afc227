-- What a script writes.
use Rattle.std.specs.Prelude.{ℕ, ◌==◌, List, [], ◌∷◌, ◌++◌, if◌then◌else◌}
use Rattle.std.specs.List.{onto_first}
use Rattle.machine.specs.State.{State, empty}
use Rattle.machine.specs.Languages.{known}
use Rattle.machine.specs.Lines.{step}
use Rattle.machine.specs.Outcomes.{written}

-- The lines are the pieces between newlines, and a last piece that is not empty.
abbrev pub lines_of : List ℕ → List (List ℕ)
lines_of [] = []
lines_of (b ∷ bs) = if b == 10 then [] ∷ lines_of bs else onto_first b (lines_of bs)

-- the replies to the lines, from a state on
unfoldable pub replies : State → List (List ℕ) → List ℕ
replies state [] = []
replies state (line ∷ lines) = written (step known state line).reply ++ replies (step known state line).after lines

-- the replies to a script
abbrev pub transcript : List ℕ → List ℕ
transcript bytes = replies empty (lines_of bytes)

-- a byte before the whole lines of the rest
abbrev pub before_lines : ℕ → List ℕ → List ℕ
before_lines b [] = if b == 10 then b ∷ [] else []
before_lines b (c ∷ cs) = b ∷ c ∷ cs

-- the whole lines at the front of a script: what stands up to its last newline
abbrev pub whole_lines : List ℕ → List ℕ
whole_lines [] = []
whole_lines (b ∷ bs) = before_lines b (whole_lines bs)
