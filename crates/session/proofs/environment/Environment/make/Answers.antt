use Rattle.std.proofs.Common.{Some, refl, sym, ◌∙◌, ap}
use Rattle.std.specs.Prelude.{codes}
use Rattle.machine.specs.Naming.{new_of}
use Rattle.machine.specs.Outcomes.{says}
use Rattle.session.proofs.NameLemmas.{Added, executed_new, executed_said, handles-memory, ok_at, ok_part, settled_more}
use Rattle.session.proofs.SessionLemmas.{executed_from, executed_full, executed_no_memory, seen_same}
use Rattle.session.proofs.environment.Environment.make.Given as given
use Rattle.session.proofs.environment.Environment.make.Goals as goal

pub returns-in_default : goal.returns-in_default
returns-in_default g c =
    let none = sym c.known_kind.ensures.kind ∙ c.in_default.is in
    executed_from c.args.self.now c.args.self.now _ (λ state. says state (codes "?call")) _ refl (sym (ap (new_of c.args.self.now c.args.name) none)) (executed_said _ _ _ _ _ _ (codes "?call") c.say.ensures)

pub returns-then-is_err : goal.returns-then-is_err
returns-then-is_err g c =
    let some = sym c.known_kind.ensures.kind ∙ c.in-Some.is in
    executed_no_memory c.args.self.now _ _ _ _ (seen_same c.self.inside.store c.self.inside.store c.self.inside.names.entries _ refl c.reserve.ensures.entries ∙ c.self.view_is)
    (ap (λ k. (new_of c.args.self.now c.args.name k).memory) some ∙ handles-memory c.args.self.now 1 _ refl)

added : (g : given.Over) (c : goal.After-say-in-Ok g) → Added c.self.inside.store c.new_base.new.self c.self.inside.names.entries c.insert.new.self.entries c.args.name c.in-Some.kind
added g c =
    let room = ok_part c.reserve.result (sym c.if-is_err.ensures.value) c.reserve.ensures.ok in
    let entries = ok_at c.insert.result (c.insert.ensures.succeeds room) c.insert.ensures.entries in
    record { settled = c.self.invariant; grown = c.in-Ok.ensures.ok; room = c.in-Ok.ensures.room; entered = rw (c.reserve.ensures.entries, c.in-Ok.ensures.number) at entries; tell = c.is_lawful.ensures.tell }

pub invariant_of-self-in-Ok : goal.invariant_of-self-in-Ok
invariant_of-self-in-Ok g c = settled_more _ _ _ _ _ _ (added g c)

pub returns-in-Ok : goal.returns-in-Ok
returns-in-Ok g c =
    let some = sym c.known_kind.ensures.kind ∙ c.in-Some.is in
    executed_from _ c.args.self.now _ (λ state. new_of state c.args.name (Some c.in-Some.kind)) _ c.self.view_is (sym (ap (new_of c.args.self.now c.args.name) some))
    (executed_new _ _ _ _ _ _ (added g c) c.say-in-Ok.result _ _ _ _ c.say-in-Ok.ensures)

pub returns-in-Err : goal.returns-in-Err
returns-in-Err g c =
    let some = sym c.known_kind.ensures.kind ∙ c.in-Some.is in
    executed_from _ c.args.self.now _ (λ state. new_of state c.args.name (Some c.in-Some.kind)) _ c.self.view_is (sym (ap (new_of c.args.self.now c.args.name) some))
    (executed_full c.self.inside.store _ c.self.inside.names.entries _ c.args.name c.in-Some.kind c.in-Err.refusal c.in-Err.ensures.err c.reserve.ensures.entries c.in-Err.ensures.cause c.refuse.ensures)
