use Rattle.std.proofs.Common.{◌<◌, ℕ, List, Some, length, refl, sym, ◌∙◌, ap, subst}
use Rattle.base_store.specs.declared.store.Made.{Made}
use Rattle.session.specs.declared.bound.Bound.{Bound as Held}
use Rattle.session.specs.declared.bound.Bound.TheVariants.{View, Iterator}
use Rattle.std.specs.Option.{option_copied}
use Rattle.std.specs.Prelude.{codes}
use Rattle.session.specs.Bounds.{most_for_words}
use Rattle.session.specs.Following.{parts_in}
use Rattle.machine.specs.Languages.{known}
use Rattle.machine.specs.Lines.{eval_of}
use Rattle.machine.specs.Outcomes.{says}
use Rattle.machine.specs.State.{State, named as bound_to}
use Rattle.session.proofs.BoundLemmas.{asks_nothing, same_bound, turn_bound, words_bound}
use Rattle.session.proofs.NameLemmas.{executed_said, found_seated, found_within}
use Rattle.session.proofs.SessionLemmas.{entered, executed_eval, executed_from, executed_turned, name_unknown, settled_came, settled_turned}
use Rattle.session.proofs.environment.Environment.eval.Goals as goal

pub returns-in_default-clause-executed : goal.returns-in_default-clause-executed
returns-in_default-clause-executed g c =
    let s = c.self.inside.store in
    let names = c.self.inside.names.entries in
    let unknown = name_unknown s.nodes names c.args.head (sym c.get.ensures.value ∙ ap option_copied c.in_default.is) in
    let none = ap (λ (x : State). bound_to x.names c.args.head) (sym c.self.view_is) ∙ unknown in
    executed_from c.args.self.now c.args.self.now _ (λ state. says state (codes "?name")) _ refl (sym (ap (λ o. eval_of known c.args.self.now c.args.head o (parts_in c.args.line.now c.args.parts.now)) none)) (executed_said _ _ _ _ _ _ (codes "?name") c.say.ensures)

pub evaluate-result-requires-clause-head : goal.evaluate-result-requires-clause-head
evaluate-result-requires-clause-head g c =
    subst (λ (n : ℕ). c.in-View.node < n) (sym c.self.invariant.still) (found_within _ c.self.inside.names.entries c.args.head (View c.in-View.node) c.self.invariant.named_within (sym c.get.ensures.value ∙ ap option_copied c.in-Some.is ∙ ap (λ (b : Held). Some b) c.in-View.is))

pub is_lawful-requires : goal.is_lawful-requires
is_lawful-requires g c =
    subst (λ (ns : List Made). c.in-View.node < length ns) (sym c.evaluate-result.ensures.came.nodes)
    (subst (λ (n : ℕ). c.in-View.node < n) (sym c.self.invariant.still) (found_within _ c.self.inside.names.entries c.args.head (View c.in-View.node) c.self.invariant.named_within (sym c.get.ensures.value ∙ ap option_copied c.in-Some.is ∙ ap (λ (b : Held). Some b) c.in-View.is)))

pub invariant_of-self : goal.invariant_of-self
invariant_of-self g c =
    let came = c.evaluate-result.ensures.came in
    settled_came c.self.inside.store c.evaluate-result.new.store c.self.inside.names.entries c.self.invariant came.nodes came.lasting came.later c.is_lawful.ensures.tell

pub returns-in-View-clause-executed : goal.returns-in-View-clause-executed
returns-in-View-clause-executed g c =
    executed_from _ _ _ (λ state. eval_of known state c.args.head (bound_to state.names c.args.head) (parts_in c.args.line.now c.args.parts.now)) _ c.self.view_is refl
    (executed_eval c.self.inside.store c.evaluate-result.new.store c.self.inside.names.entries c.args.head c.in-View.node (parts_in c.args.line.now c.args.parts.now) (sym c.get.ensures.value ∙ ap option_copied c.in-Some.is ∙ ap (λ (b : Held). Some b) c.in-View.is) c.evaluate-result.ensures.known c.evaluate-result.ensures.came)

pub returns-in_default-clause-asked : goal.returns-in_default-clause-asked
returns-in_default-clause-asked g c = asks_nothing (most_for_words c.args.self.now (bound_to c.args.self.now.names c.args.head) (parts_in c.args.line.now c.args.parts.now)) c.args.steps.now

pub returns-in-View-clause-asked : goal.returns-in-View-clause-asked
returns-in-View-clause-asked g c =
    let s = c.self.inside.store in
    let names = c.self.inside.names.entries in
    let parts = parts_in c.args.line.now c.args.parts.now in
    same_bound _ _ c.args.steps.now c.evaluate-result.new.steps
    (words_bound s names c.args.head c.in-View.node parts (sym c.get.ensures.value ∙ ap option_copied c.in-Some.is ∙ ap (λ (b : Held). Some b) c.in-View.is) ∙ ap (λ (x : State). most_for_words x (bound_to x.names c.args.head) parts) c.self.view_is)
    c.evaluate-result.ensures.asked

-- ---- an iterator

pub turn-result-requires-clause-fits : goal.turn-result-requires-clause-fits
turn-result-requires-clause-fits g c = found_seated c.self.inside.store c.self.inside.names.entries c.args.head (Iterator c.in-Iterator.seat) c.self.invariant.seated (sym c.get.ensures.value ∙ ap option_copied c.in-Some.is ∙ ap (λ (b : Held). Some b) c.in-Iterator.is)

pub invariant_of-self-in-Iterator : goal.invariant_of-self-in-Iterator
invariant_of-self-in-Iterator g c =
    let turned = c.turn-result.ensures.turned in
    settled_turned c.self.inside.store c.turn-result.new.store c.self.inside.names.entries c.insert.new.self.entries c.args.head c.turn-result.new.seat c.self.invariant turned.nodes turned.lasting turned.later c.turn-result.ensures.fits
    (entered c.insert.result _ (Iterator c.in-Iterator.seat) c.insert.ensures.entries c.insert.ensures.absent (sym c.get.ensures.value ∙ ap option_copied c.in-Some.is ∙ ap (λ (b : Held). Some b) c.in-Iterator.is))

pub returns-in-Iterator-clause-executed : goal.returns-in-Iterator-clause-executed
returns-in-Iterator-clause-executed g c =
    executed_from _ _ _ (λ state. eval_of known state c.args.head (bound_to state.names c.args.head) (parts_in c.args.line.now c.args.parts.now)) _ c.self.view_is refl
    (executed_turned c.self.inside.store c.turn-result.new.store c.self.inside.names.entries c.insert.new.self.entries c.args.head c.in-Iterator.seat c.turn-result.new.seat c.asked_of-word.result (parts_in c.args.line.now c.args.parts.now) (sym c.get.ensures.value ∙ ap option_copied c.in-Some.is ∙ ap (λ (b : Held). Some b) c.in-Iterator.is)
    (entered c.insert.result _ (Iterator c.in-Iterator.seat) c.insert.ensures.entries c.insert.ensures.absent (sym c.get.ensures.value ∙ ap option_copied c.in-Some.is ∙ ap (λ (b : Held). Some b) c.in-Iterator.is)) (c.asked_of-word.ensures c.args.line.now) c.turn-result.ensures.turned)

pub returns-in-Iterator-clause-asked : goal.returns-in-Iterator-clause-asked
returns-in-Iterator-clause-asked g c =
    let s = c.self.inside.store in
    let names = c.self.inside.names.entries in
    let parts = parts_in c.args.line.now c.args.parts.now in
    same_bound _ _ c.args.steps.now c.turn-result.new.steps
    (turn_bound s names c.args.head c.in-Iterator.seat c.asked_of-word.result parts (sym c.get.ensures.value ∙ ap option_copied c.in-Some.is ∙ ap (λ (b : Held). Some b) c.in-Iterator.is) (c.asked_of-word.ensures c.args.line.now) ∙ ap (λ (x : State). most_for_words x (bound_to x.names c.args.head) parts) c.self.view_is)
    c.turn-result.ensures.asked
