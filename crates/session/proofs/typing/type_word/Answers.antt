use Rattle.std.proofs.Common.{◌≡◌, ℕ, List, length, Some, IfOk, true, false, sym, ◌∙◌, ap, subst, arith}
use Rattle.script_text.specs.Parts.{part_in}
use Rattle.vocabulary.specs.declared.calls.CallForm.{CallForm}
use Rattle.vocabulary.specs.declared.words.Action.{Action}
use Rattle.vocabulary.specs.declared.words.Action.TheVariants as action
use Rattle.vocabulary.specs.Known.{is_known}
use Rattle.vocabulary.specs.StepShapes.{apply_form}
use Rattle.vocabulary.proofs.WordLemmas.{calls_fit}
use Rattle.machine.specs.Meanings.{call_typed}
use Rattle.machine.specs.Parts.{text_at}
use Rattle.session.specs.Environment.{named}
use Rattle.session.specs.Following.{IsTyped, a_step, asked, meant_in}
use Rattle.session.proofs.TextLemmas.{known_call_typed, known_step_typed, none_typed, only_found, only_passes, text_short}
use Rattle.session.proofs.typing.type_word.Goals as goal

pub type_step-requires-clause-known : goal.type_step-requires-clause-known
type_step-requires-clause-known c = only_passes is_known _ (action.Step c.in-Some-Step.form) (sym c.known_action.ensures ∙ c.in-Some-Step.is ∙ ap (λ (x : Action). Some x) c.in-Some-Step.field-0-is)

pub type_step-requires-clause-short : goal.type_step-requires-clause-short
type_step-requires-clause-short c = omega (arith, text_short c.args.line.now c.args.part.now 0, ap (λ (xs : List ℕ). length xs) c.argument-a.ensures)

pub returns-in-Some-Step-clause-meaning : goal.returns-in-Some-Step-clause-meaning
returns-in-Some-Step-clause-meaning c =
    let s = c.args.store.now in
    let form = c.in-Some-Step.form in
    ap (λ (a : List ℕ). meant_in s a c.type_step.result) (sym c.argument-a.ensures) ∙ c.type_step.ensures.meaning s ∙ ap (λ (a : List ℕ). a_step (asked form a) (apply_form c.args.on form)) c.argument-a.ensures
    ∙ known_step_typed c.args.line.now s.world (named s.nodes c.args.names.now.entries) c.args.purpose c.args.is_last c.args.on c.args.part.now form (sym c.known_action.ensures ∙ c.in-Some-Step.is ∙ ap (λ (x : Action). Some x) c.in-Some-Step.field-0-is)

pub returns-in-Some-Step-clause-typed : goal.returns-in-Some-Step-clause-typed
returns-in-Some-Step-clause-typed c = subst (λ (a : List ℕ). IfOk c.type_step.result (λ it. IsTyped c.args.store.now c.args.on a it)) c.argument-a.ensures (c.type_step.ensures.typed c.args.store.now)

pub type_call-requires-clause-known : goal.type_call-requires-clause-known
type_call-requires-clause-known c = only_passes is_known _ (action.Call c.in-Some-Call.form) (sym c.known_action.ensures ∙ c.in-Some-Call.is ∙ ap (λ (x : Action). Some x) c.in-Some-Call.field-0-is)

-- each call that a word gives is one that views of the shape have
pub type_call-requires-clause-had : goal.type_call-requires-clause-had
type_call-requires-clause-had c it e =
    calls_fit c.args.on c.args.part.now.word c.args.part.now.count it
    (only_found is_known _ _ (sym c.known_action.ensures ∙ c.in-Some-Call.is ∙ ap (λ (x : Action). Some x) c.in-Some-Call.field-0-is) ∙ ap (λ (form : CallForm). Some (action.Call form)) (sym e))

pub returns-in-Some-Call-clause-meaning : goal.returns-in-Some-Call-clause-meaning
returns-in-Some-Call-clause-meaning c =
    let s = c.args.store.now in
    let form = c.in-Some-Call.form in
    let third = text_at (part_in c.args.line.now c.args.part.now).args 2 in
    c.type_call.ensures.meaning (text_at (part_in c.args.line.now c.args.part.now).args 0) third
    ∙ (λ i. call_typed s.world (named s.nodes c.args.names.now.entries) c.args.on form (c.argument-a.ensures i) (c.argument-b.ensures i) third)
    ∙ known_call_typed c.args.line.now s.world (named s.nodes c.args.names.now.entries) c.args.purpose c.args.is_last c.args.on c.args.part.now form true (sym c.if-may_call.ensures) (sym c.known_action.ensures ∙ c.in-Some-Call.is ∙ ap (λ (x : Action). Some x) c.in-Some-Call.field-0-is)

pub returns-in-Some-Call-clause-typed : goal.returns-in-Some-Call-clause-typed
returns-in-Some-Call-clause-typed c = c.type_call.ensures.typed (text_at (part_in c.args.line.now c.args.part.now).args 0)

pub returns-in-Some-Call-2-clause-meaning : goal.returns-in-Some-Call-2-clause-meaning
returns-in-Some-Call-2-clause-meaning c =
    let s = c.args.store.now in
    known_call_typed c.args.line.now s.world (named s.nodes c.args.names.now.entries) c.args.purpose c.args.is_last c.args.on c.args.part.now c.in-Some-Call.form false (sym c.if-may_call.ensures)
    (sym c.known_action.ensures ∙ c.in-Some-Call.is ∙ ap (λ (x : Action). Some x) c.in-Some-Call.field-0-is)

pub returns-in-Some-Make-clause-meaning : goal.returns-in-Some-Make-clause-meaning
returns-in-Some-Make-clause-meaning c =
    let no : false ≡ true = only_passes is_known _ (action.Make c.in-Some-Make.field-0-0) (sym c.known_action.ensures ∙ c.in-Some-Make.is ∙ ap (λ (x : Action). Some x) c.in-Some-Make.field-0-is) in
    absurd (cc)

pub returns-in-None-clause-meaning : goal.returns-in-None-clause-meaning
returns-in-None-clause-meaning c =
    let s = c.args.store.now in
    none_typed c.args.line.now s.world (named s.nodes c.args.names.now.entries) c.args.purpose c.args.is_last c.args.on c.args.part.now (sym c.known_action.ensures ∙ c.in-None.is)
