use Rattle.std.proofs.Common.{◌≡◌, ◌<◌, sym, length, subst}
use Rattle.base_store.specs.Stored.{Stored}
use Rattle.view_steps.proofs.ChangeLemmas.{room}
use Rattle.cursor_seat.proofs.RemoveLemmas.{goes, is_removed, row_to_go}
use Rattle.base_store.specs.Courses.{spots_at}
use Rattle.std.specs.Prelude.{Some, slice_get}
use Rattle.cursor_seat.proofs.seat.Seat.remove.Goals as goal

pub remove_row-requires-clause-change : goal.remove_row-requires-clause-change
remove_row-requires-clause-change g c = room _ _ c.requires.change

pub remove_row-requires-clause-spot : goal.remove_row-requires-clause-spot
remove_row-requires-clause-spot g c =
    let s = c.args.store.now in
    let row = row_to_go s c.args.self.now c.in-Ok.place (record { fits = c.requires.fits; none = sym c.in-Ok.ensures.refusal; place = c.in-Ok.ensures.place }) in
    (row.number, subst (λ b. slice_get (spots_at s.world b) row.number ≡ Some c.in-Ok.place.spot) (sym c.base_of-base.ensures.base) row.at)

pub mark_removed-requires : goal.mark_removed-requires
mark_removed-requires g c =
    let gone = goes c.args.store.now c.remove_row.new.self c.args.self.now c.in-Ok.place c.base_of-base.result c.base_of-base.ensures.base
    (record { fits = c.requires.fits; none = sym c.in-Ok.ensures.refusal; place = c.in-Ok.ensures.place }) c.remove_row.ensures.after in
    subst (λ (s : Stored). c.args.self.now.node < length s.nodes) (sym gone.went) c.requires.fits.there.node

pub returns-in-Ok-clause-came : goal.returns-in-Ok-clause-came
returns-in-Ok-clause-came g c =
    let gone = goes c.args.store.now c.remove_row.new.self c.args.self.now c.in-Ok.place c.base_of-base.result c.base_of-base.ensures.base
    (record { fits = c.requires.fits; none = sym c.in-Ok.ensures.refusal; place = c.in-Ok.ensures.place }) c.remove_row.ensures.after in
    is_removed c.args.store.now c.remove_row.new.self c.args.self.now c.mark_removed.new.self (sym c.in-Ok.ensures.refusal) gone.went (c.mark_removed.ensures.iterator c.args.store.now gone)

pub returns-in-Ok-clause-fits : goal.returns-in-Ok-clause-fits
returns-in-Ok-clause-fits g c =
    c.mark_removed.ensures.fits c.args.store.now
    (goes c.args.store.now c.remove_row.new.self c.args.self.now c.in-Ok.place c.base_of-base.result c.base_of-base.ensures.base
    (record { fits = c.requires.fits; none = sym c.in-Ok.ensures.refusal; place = c.in-Ok.ensures.place }) c.remove_row.ensures.after)
