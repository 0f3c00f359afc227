-- The words behind the head of an expression, with the texts of their arguments.
use Rattle.std.specs.Prelude.{ℕ, List, [], get_or}
use Rattle.script_text.specs.Trees.{Call}

-- a word, and the texts of its arguments
abbrev pub Part : Type 0
Part = Call (List ℕ)

-- the text of an argument, by its number from 0; that of an argument that is not there is empty
abbrev pub text_at : List (List ℕ) → ℕ → List ℕ
text_at args i = get_or args i []
