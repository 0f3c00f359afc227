use Rattle.std.proofs.Common.{◌≡◌, ℕ, true, sym, ◌∙◌, ap, subst}
use Rattle.base_store.specs.Stored.{view_in}
use Rattle.cursor_seat.specs.Seats.{iterator_in}
use Rattle.machine.specs.Views.{shape_at, shown}
use Rattle.session.specs.KnownShapes.{AreKnown, is_known_item, is_known_shape}
use Rattle.session.proofs.TurnLemmas.{given_known, turned_next, turned_no_next}
use Rattle.session.proofs.iterating.give.Goals as goal

-- the item is one that the view shows
pub say_item-requires : goal.say_item-requires
say_item-requires g c =
    let s = c.args.store.now in
    given_known s.world (iterator_in s c.args.seat.now) c.in-Ok.item (iterator_in s c.next.new.self) (subst (λ (n : ℕ). AreKnown (shown s.world (view_in s n))) c.node-view.ensures c.items_fit.ensures) c.in-Ok.ensures.came

pub returns-in-Ok-clause-turned : goal.returns-in-Ok-clause-turned
returns-in-Ok-clause-turned g c =
    let s = c.args.store.now in
    let known = given_known s.world (iterator_in s c.args.seat.now) c.in-Ok.item (iterator_in s c.next.new.self) (subst (λ (n : ℕ). AreKnown (shown s.world (view_in s n))) c.node-view.ensures c.items_fit.ensures) c.in-Ok.ensures.came in
    let shape = subst (λ (n : ℕ). is_known_shape (shape_at s.world (view_in s n)) ≡ true) c.node-view.ensures (ap is_known_shape (sym c.known_shape-shape.ensures.shape) ∙ c.known_shape-shape.ensures.known) in
    turned_next s c.args.seat.now c.next.new.self c.in-Ok.item c.in-Ok.ensures.came shape known c.say_item.ensures

pub returns-in-Err-clause-turned : goal.returns-in-Err-clause-turned
returns-in-Err-clause-turned g c = turned_no_next c.args.store.now c.args.seat.now c.next.new.self c.in-Err.refusal c.in-Err.ensures.came.0 c.in-Err.ensures.came.1 c.refuse.ensures
