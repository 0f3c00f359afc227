use Rattle.std.proofs.Common.{sym, ◌∙◌, ap}
use Rattle.std.specs.Option.{option_and_then, option_map}
use Rattle.vocabulary.specs.declared.calls.Call.TheVariants as call
use Rattle.vocabulary.specs.declared.calls.CallForm.{CallForm}
use Rattle.vocabulary.specs.Known.{is_known_call}
use Rattle.machine.specs.Meanings.{call_typed}
use Rattle.session.specs.Environment.{named}
use Rattle.session.specs.Following.{a_call}
use Rattle.session.proofs.TypingLemmas.{element_meant, index_meant, indexed_meant, one_had, pair_meant, two_had}
use Rattle.session.proofs.typing.type_call.Goals as goal

pub returns-in-Ask-clause-typed : goal.returns-in-Ask-clause-typed
returns-in-Ask-clause-typed c text = (c.requires.had (call.Ask c.in-Ask.word) (sym c.in-Ask.is), ap is_known_call (sym c.in-Ask.is) ∙ c.requires.known)

pub returns-in-Element-clause-meaning : goal.returns-in-Element-clause-meaning
returns-in-Element-clause-meaning c text third =
    let names = named c.args.store.now.nodes c.args.names.now.entries in
    let known = ap is_known_call (sym c.in-Element.is) ∙ c.requires.known in
    c.a_call.ensures.meaning c.args.store.now text ∙ ap a_call c.element_call.ensures ∙ ap (λ x. a_call (option_map (λ x. call.Element c.in-Element.word x) x)) c.read_elem.ensures.exact
    ∙ element_meant c.args.store.now.world names c.args.on c.args.a.now c.args.b.now third c.in-Element.word known
    ∙ ap (λ (form : CallForm). call_typed c.args.store.now.world names c.args.on form c.args.a.now c.args.b.now third) (sym c.in-Element.is)

pub returns-in-Element-clause-typed : goal.returns-in-Element-clause-typed
returns-in-Element-clause-typed c text = c.a_call.ensures.typed c.args.store.now c.args.on text (one_had c.args.on c.args.form c.requires.had c.requires.known (λ x. call.Element c.in-Element.word x) (λ x. sym c.in-Element.is) _ _ c.element_call.ensures)

pub returns-in-Index-clause-meaning : goal.returns-in-Index-clause-meaning
returns-in-Index-clause-meaning c text third =
    let names = named c.args.store.now.nodes c.args.names.now.entries in
    c.a_call-in-Index.ensures.meaning c.args.store.now text ∙ ap a_call c.index_call.ensures ∙ ap (λ i. a_call (option_map (λ i. call.Index c.in-Index.word i) i)) c.read_index.ensures
    ∙ index_meant c.args.store.now.world names c.args.on c.args.a.now c.args.b.now third c.in-Index.word
    ∙ ap (λ (form : CallForm). call_typed c.args.store.now.world names c.args.on form c.args.a.now c.args.b.now third) (sym c.in-Index.is)

pub returns-in-Index-clause-typed : goal.returns-in-Index-clause-typed
returns-in-Index-clause-typed c text = c.a_call-in-Index.ensures.typed c.args.store.now c.args.on text (one_had c.args.on c.args.form c.requires.had c.requires.known (λ i. call.Index c.in-Index.word i) (λ i. sym c.in-Index.is) _ _ c.index_call.ensures)

pub returns-in-Indexed-clause-meaning : goal.returns-in-Indexed-clause-meaning
returns-in-Indexed-clause-meaning c text third =
    let names = named c.args.store.now.nodes c.args.names.now.entries in
    c.a_call-in-Indexed.ensures.meaning c.args.store.now text ∙ ap a_call c.indexed_call.ensures
    ∙ (λ k. a_call (option_and_then (λ i. option_map (λ x. call.Indexed c.in-Indexed.word i x) (c.read_elem-in-Indexed.ensures.exact k)) (c.read_index-in-Indexed.ensures k)))
    ∙ indexed_meant c.args.store.now.world names c.args.on c.args.a.now c.args.b.now third c.in-Indexed.word
    ∙ ap (λ (form : CallForm). call_typed c.args.store.now.world names c.args.on form c.args.a.now c.args.b.now third) (sym c.in-Indexed.is)

pub returns-in-Indexed-clause-typed : goal.returns-in-Indexed-clause-typed
returns-in-Indexed-clause-typed c text = c.a_call-in-Indexed.ensures.typed c.args.store.now c.args.on text (two_had c.args.on c.args.form c.requires.had c.requires.known (λ i x. call.Indexed c.in-Indexed.word i x) (λ i x. sym c.in-Indexed.is) _ _ _ c.indexed_call.ensures)

pub returns-in-Pair-clause-meaning : goal.returns-in-Pair-clause-meaning
returns-in-Pair-clause-meaning c text third =
    let names = named c.args.store.now.nodes c.args.names.now.entries in
    c.a_call-in-Pair.ensures.meaning c.args.store.now text ∙ ap a_call c.pair_call.ensures
    ∙ (λ k. a_call (option_and_then (λ x. option_map (λ v. call.Pair c.in-Pair.word x v) (c.read_elem-in-Pair-2.ensures.exact k)) (c.read_elem-in-Pair.ensures.exact k)))
    ∙ pair_meant c.args.store.now.world names c.args.on c.args.a.now c.args.b.now third c.in-Pair.word
    ∙ ap (λ (form : CallForm). call_typed c.args.store.now.world names c.args.on form c.args.a.now c.args.b.now third) (sym c.in-Pair.is)

pub returns-in-Pair-clause-typed : goal.returns-in-Pair-clause-typed
returns-in-Pair-clause-typed c text = c.a_call-in-Pair.ensures.typed c.args.store.now c.args.on text (two_had c.args.on c.args.form c.requires.had c.requires.known (λ k v. call.Pair c.in-Pair.word k v) (λ k v. sym c.in-Pair.is) _ _ _ c.pair_call.ensures)
