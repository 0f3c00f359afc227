use Rattle.std.proofs.Common.{◌<◌, ℕ, Some, Ok, Err, length, refl, sym, ◌∙◌, ap, subst}
use Rattle.std.specs.Option.{option_copied}
use Rattle.std.specs.Prelude.{codes, Option, max}
use Rattle.base_store.specs.Stored.{view_in}
use Rattle.vocabulary.specs.declared.lines.Purpose.TheVariants as purpose
use Rattle.vocabulary.specs.declared.shapes.Shape.{Shape}
use Rattle.session.specs.declared.bound.Bound.{Bound as Held}
use Rattle.session.specs.declared.bound.Bound.TheVariants.{View}
use Rattle.session.specs.Executing.{Executed}
use Rattle.session.specs.Binding.{view_bound}
use Rattle.session.specs.Following.{parts_in}
use Rattle.session.specs.KnownShapes.{is_known_shape}
use Rattle.session.specs.Targets.{shape_of}
use Rattle.machine.specs.Languages.{known}
use Rattle.machine.specs.Naming.{let_of}
use Rattle.machine.specs.Outcomes.{says}
use Rattle.machine.specs.State.{Bound, State, named as bound_to}
use Rattle.machine.specs.Typing.{typed_words}
use Rattle.script_text.specs.Parts.{part_in}
use Rattle.session.specs.Coming.{seen_as}
use Rattle.session.specs.Environment.{NamesWithin, named}
use Rattle.std.proofs.lemmas.List.{length-map}
use Rattle.session.proofs.BindLemmas.{executed_let, had_room, head_kept, kept_err, kept_ok, led_view, settled_kept, settled_unkept}
use Rattle.session.proofs.EvalLemmas.{fault_reached, no_fault}
use Rattle.session.proofs.NameLemmas.{executed_said, found_within, ok_at, ok_part}
use Rattle.session.proofs.SessionLemmas.{executed_from, executed_fault, name_unknown, no_view}
use Rattle.session.proofs.environment.Environment.bind.Goals as goal

pub returns-in_default : goal.returns-in_default
returns-in_default g c =
    let s = c.self.inside.store in
    let names = c.self.inside.names.entries in
    let unknown = name_unknown s.nodes names c.args.head (sym c.get.ensures.value ∙ ap option_copied c.in_default.is) in
    let none = ap (λ (x : State). bound_to x.names c.args.head) (sym c.self.view_is) ∙ unknown in
    executed_from c.args.self.now c.args.self.now _ (λ state. says state (codes "?name")) _ refl (sym (ap (λ o. let_of known c.args.self.now c.args.name o (parts_in c.args.line.now c.args.parts.now)) none)) (executed_said _ _ _ _ _ _ (codes "?name") c.say.ensures)

-- an iterator has no steps
pub returns-in_default-bound : goal.returns-in_default-bound
returns-in_default-bound g c =
    let s = c.self.inside.store in
    let state = c.args.self.now in
    let parts = parts_in c.args.line.now c.args.parts.now in
    let outcome = no_view s.nodes c.self.inside.names.entries c.args.head c.in-Some.bound.now (sym c.get.ensures.value ∙ ap option_copied c.in-Some.is) c.in_default-bound.not-View (λ (o : Option Bound). let_of known state c.args.name o parts) (says state (codes "?call")) (λ i. refl) in
    executed_from state state _ (λ (x : State). says x (codes "?call")) _ refl (outcome ∙ ap (λ (x : State). let_of known state c.args.name (bound_to x.names c.args.head) parts) c.self.view_is) (executed_said _ _ _ _ _ _ (codes "?call") c.say-in_default-bound.ensures)

pub known_shape-shape-requires : goal.known_shape-shape-requires
known_shape-shape-requires g c =
    subst (λ (n : ℕ). c.in-View.head < n) (sym c.self.invariant.still) (found_within _ c.self.inside.names.entries c.args.head (View c.in-View.head) c.self.invariant.named_within (sym c.get.ensures.value ∙ ap option_copied c.in-Some.is ∙ ap (λ (b : Held). Some b) c.in-View.is))

pub follow-end-requires-clause-head : goal.follow-end-requires-clause-head
follow-end-requires-clause-head g c =
    subst (λ (n : ℕ). c.in-View.head < n) (sym c.self.invariant.still) (found_within _ c.self.inside.names.entries c.args.head (View c.in-View.head) c.self.invariant.named_within (sym c.get.ensures.value ∙ ap option_copied c.in-Some.is ∙ ap (λ (b : Held). Some b) c.in-View.is))

pub type_words-typed-requires-clause-names : goal.type_words-typed-requires-clause-names
type_words-typed-requires-clause-names g c = subst (λ (n : ℕ). NamesWithin n c.self.inside.names.entries) (sym c.self.invariant.still) c.self.invariant.named_within

pub returns-in-Err : goal.returns-in-Err
returns-in-Err g c =
    let s = c.self.inside.store in
    let names = c.self.inside.names.entries in
    let parts = parts_in c.args.line.now c.args.parts.now in
    let fault = sym c.in-Err.is ∙ c.type_words-typed.ensures ∙ ap (λ (of : Shape). shape_of (typed_words known s.world (named s.nodes names) purpose.Name of parts)) c.known_shape-shape.ensures.shape in
    subst (λ (x : State). Executed c.say_fault.result x x (let_of known x c.args.name (bound_to x.names c.args.head) parts) (g.S.Sink.taken c.args.out.now) (g.S.Sink.taken c.say_fault.new.out) (g.S.Sink.faults c.args.out.now) (g.S.Sink.faults c.say_fault.new.out)) c.self.view_is
    (executed_fault s names c.args.name c.args.head c.in-View.head parts c.in-Err.fault (sym c.get.ensures.value ∙ ap option_copied c.in-Some.is ∙ ap (λ (b : Held). Some b) c.in-View.is) (ap is_known_shape (sym c.known_shape-shape.ensures.shape) ∙ c.known_shape-shape.ensures.known) (fault_reached s.world s.handles (view_in s c.in-View.head) _ c.in-Err.fault fault) c.say_fault.ensures)

pub follow-end-requires-clause-typed : goal.follow-end-requires-clause-typed
follow-end-requires-clause-typed g c =
    let s = c.self.inside.store in
    no_fault _ c.in_default-typed.field-0 (sym c.in_default-typed.is ∙ c.type_words-typed.ensures ∙ ap (λ (of : Shape). shape_of (typed_words known s.world (named s.nodes c.self.inside.names.entries) purpose.Name of (parts_in c.args.line.now c.args.parts.now))) c.known_shape-shape.ensures.shape)

-- the node that was found is still there
pub is_lawful-requires : goal.is_lawful-requires
is_lawful-requires g c =
    head_kept c.self.inside.store c.follow-end.new.store c.keep_bound.new.store c.self.inside.names.entries c.handles_of-handles.result c.in-View.head c.in-Ok.bound (view_bound c.follow-end.result) _ (led_view c.self.inside.store c.follow-end.new.store c.self.inside.names.entries c.follow-end.result c.self.invariant c.follow-end.ensures.world c.follow-end.ensures.front c.follow-end.ensures.end) (subst (λ (n : ℕ). c.in-View.head < n) (sym c.self.invariant.still) (found_within _ c.self.inside.names.entries c.args.head (View c.in-View.head) c.self.invariant.named_within (sym c.get.ensures.value ∙ ap option_copied c.in-Some.is ∙ ap (λ (b : Held). Some b) c.in-View.is))) (rw c.view_of-bound.ensures at c.in-Ok.ensures)

pub invariant_of-self : goal.invariant_of-self
invariant_of-self g c =
    let entries = ok_at c.insert.result (c.insert.ensures.succeeds (ok_part c.reserve.result (sym c.is_err-is_full.ensures.value ∙ had_room c.follow-end.new.store c.keep_bound.new.store c.handles_of-handles.result c.in-Ok.bound (view_bound c.follow-end.result) _ (rw c.view_of-bound.ensures at c.in-Ok.ensures)) c.reserve.ensures.ok)) c.insert.ensures.entries in
    let entered = rw c.reserve.ensures.entries at entries in
    settled_kept c.self.inside.store c.follow-end.new.store c.keep_bound.new.store c.self.inside.names.entries c.insert.new.self.entries c.args.name c.handles_of-handles.result (Ok tt) (view_bound c.follow-end.result) (led_view c.self.inside.store c.follow-end.new.store c.self.inside.names.entries c.follow-end.result c.self.invariant c.follow-end.ensures.world c.follow-end.ensures.front c.follow-end.ensures.end) c.is_lawful.ensures.tell (kept_ok c.follow-end.new.store c.keep_bound.new.store c.self.inside.names.entries c.insert.new.self.entries c.args.name c.handles_of-handles.result c.in-Ok.bound (view_bound c.follow-end.result) _ (rw c.view_of-bound.ensures at c.in-Ok.ensures) entered)

pub invariant_of-self-in-Err-keep_bound : goal.invariant_of-self-in-Err-keep_bound
invariant_of-self-in-Err-keep_bound g c = settled_unkept c.self.inside.store c.follow-end.new.store c.keep_bound.new.store c.self.inside.names.entries c.reserve.new.self.entries c.args.name c.handles_of-handles.result c.in-Err-keep_bound.refusal (view_bound c.follow-end.result) (led_view c.self.inside.store c.follow-end.new.store c.self.inside.names.entries c.follow-end.result c.self.invariant c.follow-end.ensures.world c.follow-end.ensures.front c.follow-end.ensures.end) (kept_err c.follow-end.new.store c.keep_bound.new.store c.self.inside.names.entries c.reserve.new.self.entries c.args.name c.handles_of-handles.result c.in-Err-keep_bound.refusal (view_bound c.follow-end.result) _ (rw c.view_of-bound.ensures at c.in-Err-keep_bound.ensures) c.reserve.ensures.entries)

pub returns-in-Ok : goal.returns-in-Ok
returns-in-Ok g c =
    let entries = ok_at c.insert.result (c.insert.ensures.succeeds (ok_part c.reserve.result (sym c.is_err-is_full.ensures.value ∙ had_room c.follow-end.new.store c.keep_bound.new.store c.handles_of-handles.result c.in-Ok.bound (view_bound c.follow-end.result) _ (rw c.view_of-bound.ensures at c.in-Ok.ensures)) c.reserve.ensures.ok)) c.insert.ensures.entries in
    let entered = rw c.reserve.ensures.entries at entries in
    subst (λ (x : State). Executed c.say-in-Ok.result x (seen_as c.keep_bound.new.store (named c.keep_bound.new.store.nodes c.insert.new.self.entries)) (let_of known x c.args.name (bound_to x.names c.args.head) (parts_in c.args.line.now c.args.parts.now)) (g.S.Sink.taken c.args.out.now) (g.S.Sink.taken c.say-in-Ok.new.out) (g.S.Sink.faults c.args.out.now) (g.S.Sink.faults c.say-in-Ok.new.out)) c.self.view_is
    (executed_let c.self.inside.store c.follow-end.new.store c.keep_bound.new.store c.self.inside.names.entries c.insert.new.self.entries c.args.name c.handles_of-handles.result c.args.head c.in-View.head (parts_in c.args.line.now c.args.parts.now)
    (sym c.get.ensures.value ∙ ap option_copied c.in-Some.is ∙ ap (λ (b : Held). Some b) c.in-View.is) (ap is_known_shape (sym c.known_shape-shape.ensures.shape) ∙ c.known_shape-shape.ensures.known) (Ok tt) c.follow-end.result (c.handles_of-handles.ensures ∙ ap (max 1) (sym (length-map c.args.parts.now (part_in c.args.line.now)))) (led_view c.self.inside.store c.follow-end.new.store c.self.inside.names.entries c.follow-end.result c.self.invariant c.follow-end.ensures.world c.follow-end.ensures.front c.follow-end.ensures.end) c.follow-end.ensures.led (kept_ok c.follow-end.new.store c.keep_bound.new.store c.self.inside.names.entries c.insert.new.self.entries c.args.name c.handles_of-handles.result c.in-Ok.bound (view_bound c.follow-end.result) _ (rw c.view_of-bound.ensures at c.in-Ok.ensures) entered) c.say-in-Ok.ensures)

pub returns-in-Err-keep_bound : goal.returns-in-Err-keep_bound
returns-in-Err-keep_bound g c =
    subst (λ (x : State). Executed c.refuse.result x (seen_as c.keep_bound.new.store (named c.keep_bound.new.store.nodes c.reserve.new.self.entries)) (let_of known x c.args.name (bound_to x.names c.args.head) (parts_in c.args.line.now c.args.parts.now)) (g.S.Sink.taken c.args.out.now) (g.S.Sink.taken c.refuse.new.out) (g.S.Sink.faults c.args.out.now) (g.S.Sink.faults c.refuse.new.out)) c.self.view_is
    (executed_let c.self.inside.store c.follow-end.new.store c.keep_bound.new.store c.self.inside.names.entries c.reserve.new.self.entries c.args.name c.handles_of-handles.result c.args.head c.in-View.head (parts_in c.args.line.now c.args.parts.now)
    (sym c.get.ensures.value ∙ ap option_copied c.in-Some.is ∙ ap (λ (b : Held). Some b) c.in-View.is) (ap is_known_shape (sym c.known_shape-shape.ensures.shape) ∙ c.known_shape-shape.ensures.known) (Err c.in-Err-keep_bound.refusal) c.follow-end.result (c.handles_of-handles.ensures ∙ ap (max 1) (sym (length-map c.args.parts.now (part_in c.args.line.now)))) (led_view c.self.inside.store c.follow-end.new.store c.self.inside.names.entries c.follow-end.result c.self.invariant c.follow-end.ensures.world c.follow-end.ensures.front c.follow-end.ensures.end) c.follow-end.ensures.led (kept_err c.follow-end.new.store c.keep_bound.new.store c.self.inside.names.entries c.reserve.new.self.entries c.args.name c.handles_of-handles.result c.in-Err-keep_bound.refusal (view_bound c.follow-end.result) _ (rw c.view_of-bound.ensures at c.in-Err-keep_bound.ensures) c.reserve.ensures.entries) c.refuse.ensures)
