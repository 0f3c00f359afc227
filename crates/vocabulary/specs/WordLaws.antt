-- The calls in the table of words are calls that views of these shapes have.
use Rattle.std.specs.Prelude.{◌≡◌, ℕ, true, List, Some}
use Rattle.vocabulary.specs.declared.calls.Call.{Call}
use Rattle.vocabulary.specs.declared.shapes.Shape.{Shape}
use Rattle.vocabulary.specs.declared.words.Action.TheVariants as action
use Rattle.vocabulary.specs.Fits.{fits}
use Rattle.vocabulary.specs.Known.{form_of_call}
use Rattle.vocabulary.specs.Shapes.{sort_of}
use Rattle.vocabulary.specs.Words.{signature}

-- a word gives on a view no call that the view does not have
abbrev pub CallsFit : Type 0
CallsFit = (on : Shape) (word : List ℕ) (count : ℕ) (it : Call) → signature (sort_of on) word count ≡ Some (action.Call (form_of_call it)) → fits on it ≡ true
