-- The typing of the words behind a name, from left to right: steps, and then a view, a call or a new base, or the first fault.
use Rattle.std.specs.Prelude.{Bool, true, false, List, [], ◌∷◌, Result, Ok, Err, if◌then◌else◌}
use Rattle.vocabulary.specs.declared.lines.Fault.{Fault}
use Rattle.vocabulary.specs.declared.lines.Fault.TheVariants as fault
use Rattle.vocabulary.specs.declared.lines.Purpose.{Purpose}
use Rattle.vocabulary.specs.declared.refusals.Refusal.{Refusal}
use Rattle.vocabulary.specs.declared.shapes.Shape.{Shape}
use Rattle.vocabulary.specs.declared.shapes.Shape.TheVariants as shape
use Rattle.machine.specs.Bases.{World}
use Rattle.machine.specs.Languages.{Language}
use Rattle.machine.specs.Making.{Asked}
use Rattle.machine.specs.Meanings.{Ending, Meaning, ends, if_fits, shows, steps_to, typed_word}
use Rattle.machine.specs.Parts.{Part}
use Rattle.machine.specs.State.{Names}

-- steps with their arguments, each of which may be refused, the shape that they give, and what stands at their end
pub record Typing : Type 0 where
  pub steps : List (Result Asked Refusal)
  pub gives : Shape
  pub ending : Ending

-- no steps
abbrev pub only : Shape → Ending → Typing
only on ending = record { steps = []; gives = on; ending = ending }

-- a step before the rest
abbrev pub before : Result Asked Refusal → Result Typing Fault → Result Typing Fault
before it (Err why) = Err why
before it (Ok t) = Ok (record { steps = it ∷ t.steps; gives = t.gives; ending = t.ending })

-- what follows a word
abbrev pub go_on : Shape → (Shape → Result Typing Fault) → Result Meaning Fault → Result Typing Fault
go_on on rest (Err why) = Err why
go_on on rest (Ok (steps_to it next)) = before it (rest next)
go_on on rest (Ok (ends ending)) = Ok (only on ending)

abbrev pub is_last : List Part → Bool
is_last [] = true
is_last (part ∷ parts) = false

-- the words in turn on a view of a shape, or the first fault
abbrev pub typed_words : Language → World → Names → Purpose → Shape → List Part → Result Typing Fault
typed_words language world names for on [] = Ok (only on shows)
typed_words language world names for on (part ∷ parts) = go_on on (λ next. typed_words language world names for next parts) (typed_word language world names for (is_last parts) on part)

-- ---- what an expression may end in

-- whether an expression may end so on a view of a shape: a builder is not shown, and gets no second name
abbrev pub may_end : Shape → Ending → Bool
may_end (shape.Builder kind) shows = false
may_end on ending = true

abbrev pub typed_end : Typing → Result Typing Fault
typed_end t = if may_end t.gives t.ending then Ok t else Err fault.Call

-- the words of an expression for a reply or a name, and then its end
abbrev pub typed : Language → World → Names → Purpose → Shape → List Part → Result Typing Fault
typed language world names for on parts = if_fits typed_end (typed_words language world names for on parts)

-- which views an iterator takes
abbrev pub iterates : Shape → Bool
iterates shape.List = true
iterates (shape.Set sorted) = true
iterates shape.Coll = true
iterates (shape.Rows sort) = true
iterates (shape.Bag sorted) = true
iterates shape.Pieces = true
iterates other = false
