-- A script that comes in pieces.
use Rattle.std.specs.Prelude.{◌≡◌, ℕ, ◌==◌, false, List, [], ◌∷◌, ◌++◌, length, take, Option, Some, if◌then◌else◌}
use Rattle.elem.specs.Outside.{Takes, IsFront}
use Rattle.machine.specs.State.{State, empty}
use Rattle.machine.specs.Languages.{known}
use Rattle.machine.specs.Lines.{step}
use Rattle.machine.specs.Outcomes.{written}

-- what is kept of a line: no more than shows that it is too long
abbrev pub kept : List ℕ → List ℕ
kept line = take 1025 line

-- no newline
abbrev pub IsOneLine : List ℕ → Type 0
IsOneLine [] = Unit {0}
IsOneLine (b ∷ bs) = (b == 10 ≡ false) × IsOneLine bs

-- what is said at the end of a script, where this came of a last line: its reply, or nothing where only whole lines count
abbrev pub last_reply : State → List ℕ → List ℕ
last_reply state [] = []
last_reply state (b ∷ bs) = written (step known state (b ∷ bs)).reply

abbrev pub no_reply : State → List ℕ → List ℕ
no_reply state line = []

-- the replies to the rest of a script, where `line` came of the line that is being read
unfoldable pub replies_with : (State → List ℕ → List ℕ) → State → List ℕ → List ℕ → List ℕ
replies_with at_end state line [] = at_end state line
replies_with at_end state line (b ∷ bs) =
    if b == 10 then written (step known state line).reply ++ replies_with at_end (step known state line).after [] bs else replies_with at_end state (kept (line ++ b ∷ [])) bs

abbrev pub replies_on : State → List ℕ → List ℕ → List ℕ
replies_on = replies_with last_reply

-- the replies to the whole lines of the rest
abbrev pub whole_replies_on : State → List ℕ → List ℕ → List ℕ
whole_replies_on = replies_with no_reply

-- The bytes that came led from one state and line to another, and the sink took the replies to them.
pub record Fed (before after : State) (line next : List ℕ) (came : List ℕ) (old new : Option (List ℕ)) : Type 0 where
  pub text : List ℕ
  pub takes : Takes old new text
  pub rest : (at_end : State → List ℕ → List ℕ) (more : List ℕ) → replies_with at_end before line (came ++ more) ≡ text ++ replies_with at_end after next more

-- The sink took a front of the replies to the bytes that came, whatever follows them.
pub record FedFront (before : State) (line : List ℕ) (came : List ℕ) (old new : Option (List ℕ)) : Type 0 where
  pub text : List ℕ
  pub takes : Takes old new text
  pub rest : (more : List ℕ) → IsFront text (replies_on before line (came ++ more))

-- The sink took the replies to the whole lines of a front of the bytes that came.
pub record FedWhole (before : State) (line : List ℕ) (came : List ℕ) (old new : Option (List ℕ)) : Type 0 where
  pub done : List ℕ
  pub undone : List ℕ
  pub parts : came ≡ done ++ undone
  pub takes : Takes old new (whole_replies_on before line done)

-- How far a script has come: so many of its bytes were taken and fed, and these are left.
pub record Coming (bytes : List ℕ) (left_now : Option (List ℕ)) (taken : ℕ) (session : State) (line : List ℕ) (old new : Option (List ℕ)) : Type 0 where
  pub came : List ℕ
  pub left : List ℕ
  pub parts : bytes ≡ came ++ left
  pub told : left_now ≡ Some left
  pub count : length came ≡ taken
  pub fed : Fed empty session [] line came old new
