-- What one word behind a name does on a view of a shape, or its fault.
use Rattle.std.specs.Prelude.{ℕ, Bool, true, false, List, length, Option, None, Some, Result, Ok, Err, if◌then◌else◌}
use Rattle.std.specs.Option.{ok_or}
use Rattle.elem.specs.declared.elements.Elem.{Elem}
use Rattle.elem.specs.Spelling.{elem_of}
use Rattle.vocabulary.specs.declared.calls.Call.{Call}
use Rattle.vocabulary.specs.declared.calls.CallForm.{CallForm}
use Rattle.vocabulary.specs.declared.calls.CallForm.TheVariants as call_form
use Rattle.vocabulary.specs.declared.calls.Making.{Making}
use Rattle.vocabulary.specs.declared.calls.OnOther.{OnOther}
use Rattle.vocabulary.specs.declared.calls.OnValues.{OnValues}
use Rattle.vocabulary.specs.declared.lines.Fault.{Fault}
use Rattle.vocabulary.specs.declared.lines.Fault.TheVariants as fault
use Rattle.vocabulary.specs.declared.lines.Purpose.{Purpose}
use Rattle.vocabulary.specs.declared.lines.Purpose.TheVariants as purpose
use Rattle.vocabulary.specs.declared.refusals.Refusal.{Refusal}
use Rattle.vocabulary.specs.declared.shapes.Shape.{Shape}
use Rattle.vocabulary.specs.declared.steps.JoinStep.{JoinStep}
use Rattle.vocabulary.specs.declared.steps.StepForm.{StepForm}
use Rattle.vocabulary.specs.declared.steps.StepForm.TheVariants as step_form
use Rattle.vocabulary.specs.declared.words.Action.{Action}
use Rattle.vocabulary.specs.declared.words.Action.TheVariants as action
use Rattle.vocabulary.specs.Fits.{fits_values, fits_with}
use Rattle.vocabulary.specs.Shapes.{sort_of}
use Rattle.vocabulary.specs.StepShapes.{apply_form, apply_join}
use Rattle.vocabulary.specs.Words.{signature}
use Rattle.machine.specs.Arguments.{name_in}
use Rattle.machine.specs.Bases.{World}
use Rattle.machine.specs.CallArguments.{call_asked}
use Rattle.machine.specs.Languages.{Language, only_if}
use Rattle.machine.specs.Making.{Asked, with_view}
use Rattle.machine.specs.Parts.{Part, text_at}
use Rattle.machine.specs.State.{Bound, Names, named, to_iterator, to_view}
use Rattle.machine.specs.StepArguments.{step_asked}
use Rattle.machine.specs.Views.{View, shape_at}

-- what stands at the end of the steps: nothing more, a call, which may be refused for a range, or the making of a base
pub data Ending : Type 0 where
  shows : Ending
  calls : Result Call Refusal → Ending
  calls_with : OnOther → View → Ending
  calls_for : OnValues → Elem → View → Ending
  makes : Making → Ending

-- what a word does: a step, which may be refused for an argument, and the shape that it gives, or what stands at the end
pub data Meaning : Type 0 where
  steps_to : Result Asked Refusal → Shape → Meaning
  ends : Ending → Meaning

-- an argument that does not fit its kind, or a word that has no meaning, is a fault
abbrev pub fitting : {X : Type 0} → Option X → Result X Fault
fitting x = ok_or x fault.Call

-- what follows what fits, or its fault
abbrev pub if_fits : {X Y : Type 0} → (X → Result Y Fault) → Result X Fault → Result Y Fault
if_fits rest (Err why) = Err why
if_fits rest (Ok x) = rest x

-- ---- names as arguments

-- what a name stands for, as a view: an iterator is none
abbrev pub view_bound : Option Bound → Result View Fault
view_bound None = Err fault.Name
view_bound (Some (to_iterator it)) = Err fault.Call
view_bound (Some (to_view v)) = Ok v

-- the view of the name that a text is
abbrev pub view_named : Names → List ℕ → Result View Fault
view_named names text = if_fits (λ name. view_bound (named names name)) (fitting (name_in text))

-- ---- steps

-- a step whose arguments fit, and the shape that it gives
abbrev pub a_step : Result Asked Refusal → Option Shape → Result Meaning Fault
a_step it given = if_fits (λ next. Ok (steps_to it next)) (fitting given)

abbrev pub join_with : World → Shape → JoinStep → View → Result Meaning Fault
join_with world on word v = a_step (Ok (with_view word v)) (apply_join on word (shape_at world v))

abbrev pub step_typed : World → Names → Shape → StepForm → List ℕ → List ℕ → Result Meaning Fault
step_typed world names on (step_form.Join word) a b = if_fits (join_with world on word) (view_named names a)
step_typed world names on form a b = if_fits (λ it. a_step it (apply_form on form)) (fitting (step_asked form a b))

-- ---- calls

-- an ending that fits
abbrev pub an_end : Bool → Ending → Result Meaning Fault
an_end does_fit ending = if does_fit then Ok (ends ending) else Err fault.Call

abbrev pub call_with : World → Shape → OnOther → View → Result Meaning Fault
call_with world on word v = an_end (fits_with on word (shape_at world v)) (calls_with word v)

abbrev pub call_for : World → Shape → OnValues → Elem → View → Result Meaning Fault
call_for world on word k v = an_end (fits_values on word (shape_at world v)) (calls_for word k v)

abbrev pub call_typed : World → Names → Shape → CallForm → List ℕ → List ℕ → List ℕ → Result Meaning Fault
call_typed world names on (call_form.Other word) a b c = if_fits (call_with world on word) (view_named names a)
call_typed world names on (call_form.Values word) a b c = if_fits (λ k. if_fits (call_for world on word k) (view_named names b)) (fitting (elem_of a))
call_typed world names on form a b c = if_fits (λ it. an_end true (calls it)) (fitting (call_asked on form a b c))

-- ---- all words

-- a call stands last in a line that asks for a reply, and a word that makes a base last behind a new name
abbrev pub may_call : Purpose → Bool → Bool
may_call purpose.Reply is_last = is_last
may_call other is_last = false

abbrev pub may_make : Purpose → Bool → Bool
may_make purpose.Name is_last = is_last
may_make other is_last = false

-- an action with the arguments that three texts are, as the last word or before others
abbrev pub acting : World → Names → Purpose → Bool → Shape → List ℕ → List ℕ → List ℕ → Option Action → Result Meaning Fault
acting world names for is_last on a b c None = Err fault.Call
acting world names for is_last on a b c (Some (action.Step form)) = step_typed world names on form a b
acting world names for is_last on a b c (Some (action.Call form)) = if may_call for is_last then call_typed world names on form a b c else Err fault.Call
acting world names for is_last on a b c (Some (action.Make word)) = an_end (may_make for is_last) (makes word)

-- what a word of a language does on a view of a shape, or its fault
unfoldable pub typed_word : Language → World → Names → Purpose → Bool → Shape → Part → Result Meaning Fault
typed_word language world names for is_last on part =
    acting world names for is_last on (text_at part.args 0) (text_at part.args 1) (text_at part.args 2) (only_if language.words (signature (sort_of on) part.word (length part.args)))
