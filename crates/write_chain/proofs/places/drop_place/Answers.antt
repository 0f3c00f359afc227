use Rattle.std.proofs.Common.{ap, sym, subst, ◌∙◌, ℕ}
use Rattle.base_rows.specs.BaseSpots.{IsRowAt}
use Rattle.base_store.specs.Courses.{spots_at}
use Rattle.base_store.specs.Stored.{view_in, with_world}
use Rattle.machine.specs.Edits.{removing}
use Rattle.view_steps.specs.KnownViews.{edited_at}
use Rattle.view_steps.proofs.ChangeLemmas.{room}
use Rattle.read_chain.proofs.UnderLemmas.{row_stands, spot_in_base}
use Rattle.write_chain.proofs.places.drop_place.Goals as goal

pub remove_row-requires-clause-change : goal.remove_row-requires-clause-change
remove_row-requires-clause-change g c = room _ _ c.requires.change

pub remove_row-requires-clause-spot : goal.remove_row-requires-clause-spot
remove_row-requires-clause-spot g c =
    let s = c.args.store.now in
    spot_in_base s.world (view_in s c.args.n) c.args.at.now c.base_of-b.result c.base_of-b.ensures.known c.base_of-b.ensures.base c.is_lawful.ensures.by_row c.is_lawful.ensures.tell c.requires.place

pub returns-clause-after : goal.returns-clause-after
returns-clause-after g c = λ i d stands there.
    let s = c.args.store.now in
    let v = view_in s c.args.n in
    let row = (row_stands s.world v c.args.at.now i d c.base_of-b.ensures.known c.is_lawful.ensures.by_row c.is_lawful.ensures.tell stands there).row in
    let here = subst (λ (b : ℕ). IsRowAt (spots_at s.world b) c.args.at.now.spot d.rows) (sym c.base_of-b.ensures.base) row in
    c.remove_row.ensures.after d.rows here ∙ ap (λ (b : ℕ). with_world s (edited_at s.world b (removing d.rows))) c.base_of-b.ensures.base
