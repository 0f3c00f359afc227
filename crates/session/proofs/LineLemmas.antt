-- What known words lead to from a view of a known shape is what their line says.
use Rattle.std.proofs.Common.{IfOk, ◌≡◌, ℕ, suc, Bool, true, false, List, [], ◌∷◌, length, Option, None, Some, Result, Ok, Err, cond, refl, sym, ◌∙◌, ap, subst}
use Rattle.std.specs.Result.{IsOk}
use Rattle.vocabulary.specs.declared.calls.CallForm.{CallForm}
use Rattle.vocabulary.specs.declared.calls.CallForm.TheVariants as call_form
use Rattle.vocabulary.specs.declared.lines.Fault.{Fault}
use Rattle.vocabulary.specs.declared.lines.Fault.TheVariants as fault
use Rattle.vocabulary.specs.declared.lines.Purpose.{Purpose}
use Rattle.vocabulary.specs.declared.lines.Purpose.TheVariants as purpose
use Rattle.vocabulary.specs.declared.refusals.Refusal.{Refusal}
use Rattle.vocabulary.specs.declared.shapes.Shape.{Shape}
use Rattle.vocabulary.specs.declared.shapes.Shape.TheVariants as shape
use Rattle.vocabulary.specs.declared.steps.StepForm.{StepForm}
use Rattle.vocabulary.specs.declared.words.Action.{Action}
use Rattle.vocabulary.specs.declared.words.Action.TheVariants as action
use Rattle.elem.specs.Spelling.{elem_of}
use Rattle.vocabulary.specs.Fits.{fits_values, fits_with}
use Rattle.vocabulary.specs.Known.{is_known, is_known_step}
use Rattle.vocabulary.specs.Shapes.{sort_of}
use Rattle.vocabulary.specs.StepShapes.{apply_form}
use Rattle.vocabulary.specs.Words.{signature}
use Rattle.machine.specs.Bases.{World}
use Rattle.machine.specs.Calling.{ended}
use Rattle.machine.specs.Following.{on_view, reached}
use Rattle.machine.specs.Languages.{known, only_if}
use Rattle.machine.specs.Lines.{eval_on, eval_typed}
use Rattle.machine.specs.Making.{Asked, Made, a_view, absent, refused}
use Rattle.machine.specs.CallArguments.{call_asked}
use Rattle.machine.specs.Meanings.{Ending, Meaning, acting, an_end, call_for, call_typed, call_with, calls, calls_for, calls_with, ends, fitting, if_fits, may_call, steps_to, typed_word, view_named}
use Rattle.machine.specs.Naming.{it_made, it_on, it_typed, let_ended, let_on, let_typed}
use Rattle.machine.specs.Outcomes.{Outcome, faulted}
use Rattle.machine.specs.Parts.{Part, text_at}
use Rattle.machine.specs.State.{Names, State}
use Rattle.machine.specs.Typing.{Typing, before, go_on, is_last, iterates, may_end, typed_end, typed_words}
use Rattle.machine.specs.Views.{View, shape_at}
use Rattle.session.specs.Following.{a_step, asked}
use Rattle.session.specs.KnownShapes.{is_known_shape}
use Rattle.session.specs.Targets.{bound_concluded, concluded, it_concluded, iterator_fault, let_concluded, reach, shape_of, target, with_ending}
use Rattle.session.proofs.KnownLemmas.{Known, given_known}
use Rattle.session.proofs.TextLemmas.{known_meant, only_passes}

-- ---- what one word does

-- a meaning that is an end, and one that is a step to a known shape
abbrev IsEnding : Meaning → Type 0
IsEnding (steps_to it next) = ⊥
IsEnding (ends ending) = Unit {0}

abbrev IsKnownStep : Meaning → Type 0
IsKnownStep (steps_to it next) = is_known_shape next ≡ true
IsKnownStep (ends ending) = ⊥

-- a step to a known shape, or an end
abbrev IsKnownWord : Meaning → Type 0
IsKnownWord (steps_to it next) = is_known_shape next ≡ true
IsKnownWord (ends ending) = Unit {0}

end_ends : (b : Bool) (ending : Ending) → IfOk (an_end b ending) IsEnding
end_ends true ending = tt
end_ends false ending = tt

fits_end : {X : Type 0} (rest : X → Result Meaning Fault) → ((x : X) → IfOk (rest x) IsEnding) → (r : Result X Fault) → IfOk (if_fits rest r) IsEnding
fits_end rest h (Err why) = tt
fits_end rest h (Ok x) = h x

call_ends : (world : World) (names : Names) (on : Shape) (form : CallForm) (a b c : List ℕ) → IfOk (call_typed world names on form a b c) IsEnding
call_ends world names on (call_form.Other word) a b c = fits_end (call_with world on word) (λ v. end_ends (fits_with on word (shape_at world v)) (calls_with word v)) (view_named names a)
call_ends world names on (call_form.Values word) a b c =
    fits_end (λ k. if_fits (call_for world on word k) (view_named names b))
    (λ k. fits_end (call_for world on word k) (λ v. end_ends (fits_values on word (shape_at world v)) (calls_for word k v)) (view_named names b)) (fitting (elem_of a))
call_ends world names on other a b c = fits_end (λ it. an_end true (calls it)) (λ it. tt) (fitting (call_asked on other a b c))

ends_known : (m : Result Meaning Fault) → IfOk m IsEnding → IfOk m IsKnownWord
ends_known (Err why) h = tt
ends_known (Ok (ends ending)) h = tt
ends_known (Ok (steps_to it next)) h = absurd h

step_known : (it : Option (Result Asked Refusal)) (given : Option Shape) → Known given → IfOk (a_step it given) IsKnownStep
step_known None given h = tt
step_known (Some it) None h = tt
step_known (Some it) (Some next) h = h

steps_known : (m : Result Meaning Fault) → IfOk m IsKnownStep → IfOk m IsKnownWord
steps_known (Err why) h = tt
steps_known (Ok (ends ending)) h = absurd h
steps_known (Ok (steps_to it next)) h = h

module _ (world : World) (names : Names) (for : Purpose) (last : Bool) (on : Shape) (h : is_known_shape on ≡ true) (part : Part) where
  abbrev found : Option Action
  found = only_if is_known (signature (sort_of on) part.word (length part.args))

  abbrev does : Option Action → Result Meaning Fault
  does it = acting world names for last on (text_at part.args 0) (text_at part.args 1) (text_at part.args 2) it

  step_does : (form : StepForm) → is_known_step form ≡ true → IfOk (does (Some (action.Step form))) IsKnownStep
  step_does form k =
      subst (λ (m : Result Meaning Fault). IfOk m IsKnownStep) (known_meant world names on form (text_at part.args 0) (text_at part.args 1) k)
      (step_known (asked form (text_at part.args 0)) (apply_form on form) (given_known on form h k))

  call_does : (form : CallForm) (b : Bool) → IfOk (cond b (call_typed world names on form (text_at part.args 0) (text_at part.args 1) (text_at part.args 2)) (Err fault.Call)) IsEnding
  call_does form true = call_ends world names on form (text_at part.args 0) (text_at part.args 1) (text_at part.args 2)
  call_does form false = tt

  word_known : IfOk (typed_word known world names for last on part) IsKnownWord
  unfolding typed_word
  word_known = by found refl
    where
      by : (it : Option Action) → found ≡ it → IfOk (does it) IsKnownWord
      by None e = tt
      by (Some (action.Step form)) e = steps_known (does (Some (action.Step form))) (step_does form (only_passes is_known _ (action.Step form) e))
      by (Some (action.Call form)) e = ends_known (does (Some (action.Call form))) (call_does form (may_call for last))
      by (Some (action.Make word)) e = absurd (let no : false ≡ true = only_passes is_known _ (action.Make word) e in cc)

-- a word where no call may stand is a step
module _ (world : World) (names : Names) (for : Purpose) (calm : (last : Bool) → may_call for last ≡ false) (last : Bool) (on : Shape) (h : is_known_shape on ≡ true) (part : Part) where
  no_call : (form : CallForm) (b : Bool) → b ≡ false → IfOk (cond b (call_typed world names on form (text_at part.args 0) (text_at part.args 1) (text_at part.args 2)) (Err fault.Call)) IsKnownStep
  no_call form true e = absurd (cc)
  no_call form false e = tt

  step_named : IfOk (typed_word known world names for last on part) IsKnownStep
  unfolding typed_word
  step_named = by (found world names for last on h part) refl
    where
      by : (it : Option Action) → found world names for last on h part ≡ it → IfOk (does world names for last on h part it) IsKnownStep
      by None e = tt
      by (Some (action.Step form)) e = step_does world names for last on h part form (only_passes is_known _ (action.Step form) e)
      by (Some (action.Call form)) e = no_call form (may_call for last) (calm last)
      by (Some (action.Make word)) e = absurd (let no : false ≡ true = only_passes is_known _ (action.Make word) e in cc)

-- ---- all words

abbrev GivesKnown : Typing → Type 0
GivesKnown t = is_known_shape t.gives ≡ true

gives_before : (it : Result Asked Refusal) (t : Result Typing Fault) → IfOk t GivesKnown → IfOk (before it t) GivesKnown
gives_before it (Err why) h = tt
gives_before it (Ok t) h = h

words_known : (world : World) (names : Names) (for : Purpose) (on : Shape) (parts : List Part) → is_known_shape on ≡ true → IfOk (typed_words known world names for on parts) GivesKnown
words_known world names for on [] h = h
words_known world names for on (part ∷ parts) h = by (typed_word known world names for (is_last parts) on part) (word_known world names for (is_last parts) on h part) (λ next k. words_known world names for next parts k)
  where
    by : (m : Result Meaning Fault) → IfOk m IsKnownWord → ((next : Shape) → is_known_shape next ≡ true → IfOk (typed_words known world names for next parts) GivesKnown) → IfOk (go_on on (λ next. typed_words known world names for next parts) m) GivesKnown
    by (Err why) k rest = tt
    by (Ok (steps_to it next)) k rest = gives_before it (typed_words known world names for next parts) (rest next k)
    by (Ok (ends ending)) k rest = h

may_known : (of : Shape) (ending : Ending) → is_known_shape of ≡ true → may_end of ending ≡ true
may_known (shape.Builder kind) ending h = absurd (cc)
may_known _ ending h = refl

-- no known view is a builder, which may not end an expression
all_typed : (t : Result Typing Fault) → IfOk t GivesKnown → if_fits typed_end t ≡ t
all_typed (Err why) h = refl
all_typed (Ok t) h = ap (λ (b : Bool). cond b (Ok t) (Err fault.Call)) (may_known t.gives t.ending h)

-- behind a new name there are as many steps as words
abbrev HasSteps : ℕ → Typing → Type 0
HasSteps n t = length t.steps ≡ n

steps_before : (n : ℕ) (it : Result Asked Refusal) (t : Result Typing Fault) → IfOk t (HasSteps n) → IfOk (before it t) (HasSteps (suc n))
steps_before n it (Err why) h = tt
steps_before n it (Ok t) h = ap suc h

module _ (world : World) (names : Names) (for : Purpose) (calm : (last : Bool) → may_call for last ≡ false) where
  named_steps : (on : Shape) (parts : List Part) → is_known_shape on ≡ true → IfOk (typed_words known world names for on parts) (HasSteps (length parts))
  named_steps on [] h = refl
  named_steps on (part ∷ parts) h = by (typed_word known world names for (is_last parts) on part) (step_named world names for calm (is_last parts) on h part) (λ next k. named_steps next parts k)
    where
      by : (m : Result Meaning Fault) → IfOk m IsKnownStep → ((next : Shape) → is_known_shape next ≡ true → IfOk (typed_words known world names for next parts) (HasSteps (length parts))) → IfOk (go_on on (λ next. typed_words known world names for next parts) m) (HasSteps (length (part ∷ parts)))
      by (Err why) k rest = tt
      by (Ok (steps_to it next)) k rest = steps_before (length parts) it (typed_words known world names for next parts) (rest next k)
      by (Ok (ends ending)) k rest = absurd k

-- ---- the outcome

eval_made : (state : State) (ending : Ending) (it : Made) → concluded state (Ok (with_ending ending it)) ≡ on_view state (ended state ending) it
eval_made state ending (a_view v) = refl
eval_made state ending absent = refl
eval_made state ending (refused why) = refl

eval_reached : (state : State) (v : View) (t : Result Typing Fault) → concluded state (reach state.bases state.handles v t) ≡ eval_typed state v t
eval_reached state v (Err why) = refl
eval_reached state v (Ok t) = eval_made state t.ending (reached state v t.steps)

pub eval_leads : (state : State) (v : View) (parts : List Part) → is_known_shape (shape_at state.bases v) ≡ true → concluded state (target state.bases state.names state.handles purpose.Reply v parts) ≡ eval_on known state v parts
eval_leads state v parts h =
    let t = typed_words known state.bases state.names purpose.Reply (shape_at state.bases v) parts in
    eval_reached state v t ∙ ap (eval_typed state v) (sym (all_typed t (words_known state.bases state.names purpose.Reply (shape_at state.bases v) parts h)))

bound_made : (state : State) (rest : Ending → View → Outcome) (ending : Ending) (it : Made) → bound_concluded state rest (Ok (with_ending ending it)) ≡ on_view state (rest ending) it
bound_made state rest ending (a_view v) = refl
bound_made state rest ending absent = refl
bound_made state rest ending (refused why) = refl

-- as many steps as words
let_reached : (state : State) (name : List ℕ) (n : ℕ) (v : View) (t : Result Typing Fault) → IfOk t (HasSteps n) → let_concluded state name n (reach state.bases state.handles v t) ≡ let_typed state name v t
let_reached state name n v (Err why) h = refl
let_reached state name n v (Ok t) h =
    ap (λ (m : ℕ). let_concluded state name m (Ok (with_ending t.ending (reached state v t.steps)))) (sym h) ∙ bound_made state (let_ended state name (length t.steps)) t.ending (reached state v t.steps)

pub let_leads : (state : State) (name : List ℕ) (v : View) (parts : List Part) → is_known_shape (shape_at state.bases v) ≡ true → let_concluded state name (length parts) (target state.bases state.names state.handles purpose.Name v parts) ≡ let_on known state name v parts
let_leads state name v parts h =
    let t = typed_words known state.bases state.names purpose.Name (shape_at state.bases v) parts in
    let_reached state name (length parts) v t (named_steps state.bases state.names purpose.Name (λ last. refl) (shape_at state.bases v) parts h)
    ∙ ap (let_typed state name v) (sym (all_typed t (words_known state.bases state.names purpose.Name (shape_at state.bases v) parts h)))

-- ---- iterators

-- the fault of words to which none is given
it_faulted : (state : State) (name : List ℕ) (v : View) (t : Result Typing Fault) (why : Fault) → Some why ≡ iterator_fault (shape_of t) → faulted state why ≡ it_typed state name v t
it_faulted state name v (Err because) why e = let same : why ≡ because = cc in ap (faulted state) same
it_faulted state name v (Ok t) why e = by (iterates t.gives) e
  where
    by : (b : Bool) → Some why ≡ cond b None (Some fault.Call) → faulted state why ≡ cond b (on_view state (it_made state name (length t.steps)) (reached state v t.steps)) (faulted state fault.Call)
    by true e = cc
    by false e = let same : why ≡ fault.Call = cc in ap (faulted state) same

pub it_fault : (state : State) (name : List ℕ) (v : View) (parts : List Part) (why : Fault) → Some why ≡ iterator_fault (shape_of (typed_words known state.bases state.names purpose.Iterator (shape_at state.bases v) parts)) → faulted state why ≡ it_on known state name v parts
it_fault state name v parts why e = it_faulted state name v (typed_words known state.bases state.names purpose.Iterator (shape_at state.bases v) parts) why e

it_reached : (state : State) (name : List ℕ) (n : ℕ) (v : View) (t : Result Typing Fault) → IfOk t (HasSteps n) → (let none : Option Fault = None in none) ≡ iterator_fault (shape_of t) → it_concluded state name n (reach state.bases state.handles v t) ≡ it_typed state name v t
it_reached state name n v (Err why) h e = cc
it_reached state name n v (Ok t) h e =
    ap (λ (m : ℕ). it_concluded state name m (Ok (with_ending t.ending (reached state v t.steps)))) (sym h)
    ∙ bound_made state (λ ending. it_made state name (length t.steps)) t.ending (reached state v t.steps) ∙ by (iterates t.gives) e
  where
    by : (b : Bool) → (let none : Option Fault = None in none) ≡ cond b None (Some fault.Call)
        → on_view state (it_made state name (length t.steps)) (reached state v t.steps) ≡ cond b (on_view state (it_made state name (length t.steps)) (reached state v t.steps)) (faulted state fault.Call)
    by true e = refl
    by false e = cc

pub it_leads : (state : State) (name : List ℕ) (v : View) (parts : List Part) → is_known_shape (shape_at state.bases v) ≡ true
    → (let none : Option Fault = None in none) ≡ iterator_fault (shape_of (typed_words known state.bases state.names purpose.Iterator (shape_at state.bases v) parts))
    → it_concluded state name (length parts) (target state.bases state.names state.handles purpose.Iterator v parts) ≡ it_on known state name v parts
it_leads state name v parts h e =
    it_reached state name (length parts) v (typed_words known state.bases state.names purpose.Iterator (shape_at state.bases v) parts) (named_steps state.bases state.names purpose.Iterator (λ last. refl) (shape_at state.bases v) parts h) e

-- words to which one is given have no fault
pub it_typed_ok : (t : Result Typing Fault) → (let none : Option Fault = None in none) ≡ iterator_fault (shape_of t) → IsOk t
it_typed_ok (Ok t) e = refl
it_typed_ok (Err why) e = cc
