use Rattle.std.proofs.Common.{◌<◌, ℕ, Some, Ok, Err, length, refl, sym, ◌∙◌, ap, subst}
use Rattle.std.specs.Option.{option_copied}
use Rattle.std.specs.Prelude.{codes, Option, ◌+◌}
use Rattle.base_store.specs.Stored.{view_in}
use Rattle.vocabulary.specs.declared.lines.Purpose.TheVariants as purpose
use Rattle.vocabulary.specs.declared.shapes.Shape.{Shape}
use Rattle.session.specs.declared.bound.Bound.{Bound as Held}
use Rattle.session.specs.declared.bound.Bound.TheVariants.{View}
use Rattle.session.specs.Executing.{Executed}
use Rattle.session.specs.Following.{parts_in}
use Rattle.session.specs.KnownShapes.{is_known_shape}
use Rattle.session.specs.Targets.{iterator_fault, shape_of}
use Rattle.machine.specs.Languages.{known}
use Rattle.machine.specs.Naming.{it_of}
use Rattle.machine.specs.Outcomes.{says}
use Rattle.machine.specs.State.{Bound, State, named as bound_to}
use Rattle.machine.specs.Typing.{typed_words}
use Rattle.script_text.specs.Parts.{part_in}
use Rattle.session.specs.Coming.{seen_as}
use Rattle.session.specs.Environment.{NamesWithin, named}
use Rattle.std.proofs.lemmas.List.{length-map}
use Rattle.session.proofs.BindLemmas.{executed_it, had_room, head_kept, kept_err, kept_ok, led_seat, settled_kept, settled_unkept}
use Rattle.session.proofs.LineLemmas.{it_typed_ok}
use Rattle.session.proofs.NameLemmas.{executed_said, found_within, ok_at, ok_part}
use Rattle.session.proofs.SessionLemmas.{executed_from, executed_no_iterator, name_unknown, no_view}
use Rattle.session.proofs.environment.Environment.iterate.Goals as goal

pub returns-in_default : goal.returns-in_default
returns-in_default g c =
    let s = c.self.inside.store in
    let names = c.self.inside.names.entries in
    let unknown = name_unknown s.nodes names c.args.head (sym c.get.ensures.value ∙ ap option_copied c.in_default.is) in
    let none = ap (λ (x : State). bound_to x.names c.args.head) (sym c.self.view_is) ∙ unknown in
    executed_from c.args.self.now c.args.self.now _ (λ state. says state (codes "?name")) _ refl (sym (ap (λ o. it_of known c.args.self.now c.args.name o (parts_in c.args.line.now c.args.parts.now)) none)) (executed_said _ _ _ _ _ _ (codes "?name") c.say.ensures)

-- an iterator has no steps
pub returns-in_default-bound : goal.returns-in_default-bound
returns-in_default-bound g c =
    let s = c.self.inside.store in
    let state = c.args.self.now in
    let parts = parts_in c.args.line.now c.args.parts.now in
    let outcome = no_view s.nodes c.self.inside.names.entries c.args.head c.in-Some.bound.now (sym c.get.ensures.value ∙ ap option_copied c.in-Some.is) c.in_default-bound.not-View (λ (o : Option Bound). it_of known state c.args.name o parts) (says state (codes "?call")) (λ i. refl) in
    executed_from state state _ (λ (x : State). says x (codes "?call")) _ refl (outcome ∙ ap (λ (x : State). it_of known state c.args.name (bound_to x.names c.args.head) parts) c.self.view_is) (executed_said _ _ _ _ _ _ (codes "?call") c.say-in_default-bound.ensures)

pub known_shape-shape-requires : goal.known_shape-shape-requires
known_shape-shape-requires g c =
    subst (λ (n : ℕ). c.in-View.head < n) (sym c.self.invariant.still) (found_within _ c.self.inside.names.entries c.args.head (View c.in-View.head) c.self.invariant.named_within (sym c.get.ensures.value ∙ ap option_copied c.in-Some.is ∙ ap (λ (b : Held). Some b) c.in-View.is))

pub follow-end-requires-clause-head : goal.follow-end-requires-clause-head
follow-end-requires-clause-head g c =
    subst (λ (n : ℕ). c.in-View.head < n) (sym c.self.invariant.still) (found_within _ c.self.inside.names.entries c.args.head (View c.in-View.head) c.self.invariant.named_within (sym c.get.ensures.value ∙ ap option_copied c.in-Some.is ∙ ap (λ (b : Held). Some b) c.in-View.is))

pub type_words-typed-requires-clause-names : goal.type_words-typed-requires-clause-names
type_words-typed-requires-clause-names g c = subst (λ (n : ℕ). NamesWithin n c.self.inside.names.entries) (sym c.self.invariant.still) c.self.invariant.named_within

pub returns-in-Some-iterator_fault : goal.returns-in-Some-iterator_fault
returns-in-Some-iterator_fault g c =
    let s = c.self.inside.store in
    let names = c.self.inside.names.entries in
    let parts = parts_in c.args.line.now c.args.parts.now in
    let fault = c.in-Some-iterator_fault.ensures ∙ ap iterator_fault (c.type_words-typed.ensures ∙ ap (λ (of : Shape). shape_of (typed_words known s.world (named s.nodes names) purpose.Iterator of parts)) c.known_shape-shape.ensures.shape) in
    subst (λ (x : State). Executed c.say_fault.result x x (it_of known x c.args.name (bound_to x.names c.args.head) parts) (g.S.Sink.taken c.args.out.now) (g.S.Sink.taken c.say_fault.new.out) (g.S.Sink.faults c.args.out.now) (g.S.Sink.faults c.say_fault.new.out)) c.self.view_is
    (executed_no_iterator s names c.args.name c.args.head c.in-View.head parts c.in-Some-iterator_fault.fault (sym c.get.ensures.value ∙ ap option_copied c.in-Some.is ∙ ap (λ (b : Held). Some b) c.in-View.is) fault c.say_fault.ensures)

pub follow-end-requires-clause-typed : goal.follow-end-requires-clause-typed
follow-end-requires-clause-typed g c = it_typed_ok _ (c.in_default-iterator_fault.ensures ∙ ap iterator_fault (c.type_words-typed.ensures ∙ ap (λ (of : Shape). shape_of (typed_words known c.self.inside.store.world (named c.self.inside.store.nodes c.self.inside.names.entries) purpose.Iterator of (parts_in c.args.line.now c.args.parts.now))) c.known_shape-shape.ensures.shape))

-- the node that was found is still there
pub is_lawful-requires : goal.is_lawful-requires
is_lawful-requires g c =
    head_kept c.self.inside.store c.follow-end.new.store c.keep_bound.new.store c.self.inside.names.entries (length c.args.parts.now + 1) c.in-View.head c.in-Ok.bound c.seat_over-bound.result _ (led_seat c.self.inside.store c.follow-end.new.store c.self.inside.names.entries c.follow-end.result c.seat_over-bound.result c.self.invariant c.follow-end.ensures.world c.follow-end.ensures.front c.follow-end.ensures.end c.seat_over-bound.ensures) (subst (λ (n : ℕ). c.in-View.head < n) (sym c.self.invariant.still) (found_within _ c.self.inside.names.entries c.args.head (View c.in-View.head) c.self.invariant.named_within (sym c.get.ensures.value ∙ ap option_copied c.in-Some.is ∙ ap (λ (b : Held). Some b) c.in-View.is))) c.in-Ok.ensures

pub invariant_of-self : goal.invariant_of-self
invariant_of-self g c =
    let entries = ok_at c.insert.result (c.insert.ensures.succeeds (ok_part c.reserve.result (sym c.is_err-is_full.ensures.value ∙ had_room c.follow-end.new.store c.keep_bound.new.store (length c.args.parts.now + 1) c.in-Ok.bound c.seat_over-bound.result _ c.in-Ok.ensures) c.reserve.ensures.ok)) c.insert.ensures.entries in
    let entered = rw c.reserve.ensures.entries at entries in
    settled_kept c.self.inside.store c.follow-end.new.store c.keep_bound.new.store c.self.inside.names.entries c.insert.new.self.entries c.args.name (length c.args.parts.now + 1) (Ok tt) c.seat_over-bound.result (led_seat c.self.inside.store c.follow-end.new.store c.self.inside.names.entries c.follow-end.result c.seat_over-bound.result c.self.invariant c.follow-end.ensures.world c.follow-end.ensures.front c.follow-end.ensures.end c.seat_over-bound.ensures) c.is_lawful.ensures.tell (kept_ok c.follow-end.new.store c.keep_bound.new.store c.self.inside.names.entries c.insert.new.self.entries c.args.name (length c.args.parts.now + 1) c.in-Ok.bound c.seat_over-bound.result _ c.in-Ok.ensures entered)

pub invariant_of-self-in-Err : goal.invariant_of-self-in-Err
invariant_of-self-in-Err g c = settled_unkept c.self.inside.store c.follow-end.new.store c.keep_bound.new.store c.self.inside.names.entries c.reserve.new.self.entries c.args.name (length c.args.parts.now + 1) c.in-Err.refusal c.seat_over-bound.result (led_seat c.self.inside.store c.follow-end.new.store c.self.inside.names.entries c.follow-end.result c.seat_over-bound.result c.self.invariant c.follow-end.ensures.world c.follow-end.ensures.front c.follow-end.ensures.end c.seat_over-bound.ensures) (kept_err c.follow-end.new.store c.keep_bound.new.store c.self.inside.names.entries c.reserve.new.self.entries c.args.name (length c.args.parts.now + 1) c.in-Err.refusal c.seat_over-bound.result _ c.in-Err.ensures c.reserve.ensures.entries)

pub returns-in-Ok : goal.returns-in-Ok
returns-in-Ok g c =
    let entries = ok_at c.insert.result (c.insert.ensures.succeeds (ok_part c.reserve.result (sym c.is_err-is_full.ensures.value ∙ had_room c.follow-end.new.store c.keep_bound.new.store (length c.args.parts.now + 1) c.in-Ok.bound c.seat_over-bound.result _ c.in-Ok.ensures) c.reserve.ensures.ok)) c.insert.ensures.entries in
    let entered = rw c.reserve.ensures.entries at entries in
    subst (λ (x : State). Executed c.say-in-Ok.result x (seen_as c.keep_bound.new.store (named c.keep_bound.new.store.nodes c.insert.new.self.entries)) (it_of known x c.args.name (bound_to x.names c.args.head) (parts_in c.args.line.now c.args.parts.now)) (g.S.Sink.taken c.args.out.now) (g.S.Sink.taken c.say-in-Ok.new.out) (g.S.Sink.faults c.args.out.now) (g.S.Sink.faults c.say-in-Ok.new.out)) c.self.view_is
    (executed_it c.self.inside.store c.follow-end.new.store c.keep_bound.new.store c.self.inside.names.entries c.insert.new.self.entries c.args.name (length c.args.parts.now + 1) c.args.head c.in-View.head (parts_in c.args.line.now c.args.parts.now)
    (sym c.get.ensures.value ∙ ap option_copied c.in-Some.is ∙ ap (λ (b : Held). Some b) c.in-View.is) (ap is_known_shape (sym c.known_shape-shape.ensures.shape) ∙ c.known_shape-shape.ensures.known) (Ok tt) c.follow-end.result c.seat_over-bound.result (ap (λ (n : ℕ). n + 1) (sym (length-map c.args.parts.now (part_in c.args.line.now)))) (led_seat c.self.inside.store c.follow-end.new.store c.self.inside.names.entries c.follow-end.result c.seat_over-bound.result c.self.invariant c.follow-end.ensures.world c.follow-end.ensures.front c.follow-end.ensures.end c.seat_over-bound.ensures) c.seat_over-bound.ensures (c.in_default-iterator_fault.ensures ∙ ap iterator_fault (c.type_words-typed.ensures ∙ ap (λ (of : Shape). shape_of (typed_words known c.self.inside.store.world (named c.self.inside.store.nodes c.self.inside.names.entries) purpose.Iterator of (parts_in c.args.line.now c.args.parts.now))) c.known_shape-shape.ensures.shape)) c.follow-end.ensures.led (kept_ok c.follow-end.new.store c.keep_bound.new.store c.self.inside.names.entries c.insert.new.self.entries c.args.name (length c.args.parts.now + 1) c.in-Ok.bound c.seat_over-bound.result _ c.in-Ok.ensures entered) c.say-in-Ok.ensures)

pub returns-in-Err : goal.returns-in-Err
returns-in-Err g c =
    subst (λ (x : State). Executed c.refuse.result x (seen_as c.keep_bound.new.store (named c.keep_bound.new.store.nodes c.reserve.new.self.entries)) (it_of known x c.args.name (bound_to x.names c.args.head) (parts_in c.args.line.now c.args.parts.now)) (g.S.Sink.taken c.args.out.now) (g.S.Sink.taken c.refuse.new.out) (g.S.Sink.faults c.args.out.now) (g.S.Sink.faults c.refuse.new.out)) c.self.view_is
    (executed_it c.self.inside.store c.follow-end.new.store c.keep_bound.new.store c.self.inside.names.entries c.reserve.new.self.entries c.args.name (length c.args.parts.now + 1) c.args.head c.in-View.head (parts_in c.args.line.now c.args.parts.now)
    (sym c.get.ensures.value ∙ ap option_copied c.in-Some.is ∙ ap (λ (b : Held). Some b) c.in-View.is) (ap is_known_shape (sym c.known_shape-shape.ensures.shape) ∙ c.known_shape-shape.ensures.known) (Err c.in-Err.refusal) c.follow-end.result c.seat_over-bound.result (ap (λ (n : ℕ). n + 1) (sym (length-map c.args.parts.now (part_in c.args.line.now)))) (led_seat c.self.inside.store c.follow-end.new.store c.self.inside.names.entries c.follow-end.result c.seat_over-bound.result c.self.invariant c.follow-end.ensures.world c.follow-end.ensures.front c.follow-end.ensures.end c.seat_over-bound.ensures) c.seat_over-bound.ensures (c.in_default-iterator_fault.ensures ∙ ap iterator_fault (c.type_words-typed.ensures ∙ ap (λ (of : Shape). shape_of (typed_words known c.self.inside.store.world (named c.self.inside.store.nodes c.self.inside.names.entries) purpose.Iterator of (parts_in c.args.line.now c.args.parts.now))) c.known_shape-shape.ensures.shape)) c.follow-end.ensures.led (kept_err c.follow-end.new.store c.keep_bound.new.store c.self.inside.names.entries c.reserve.new.self.entries c.args.name (length c.args.parts.now + 1) c.in-Err.refusal c.seat_over-bound.result _ c.in-Err.ensures c.reserve.ensures.entries) c.refuse.ensures)
