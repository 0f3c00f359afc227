use Rattle.std.proofs.Common.{◌≡◌, ℕ, Bool, true, false, cond, List, [], Some, None, refl, ap, sym, ◌∙◌}
use Rattle.base_store.specs.Stored.{view_in}
use Rattle.machine.specs.CallEdits.{first_hit}
use Rattle.machine.specs.Views.{candidates}
use Rattle.vocabulary.specs.Items.{same_item}
use Rattle.view_laws.specs.declared.places.Found.{Found}
use Rattle.view_laws.specs.RowForm.{form_of}
use Rattle.read_chain.proofs.ListLookUps.{placed_hit, stands_at}
use Rattle.read_chain.proofs.list_look_ups.item_place.Goals as goal

pub returns-then-found_of_row-clause-some : goal.returns-then-found_of_row-clause-some
returns-then-found_of_row-clause-some g c =
    let s = c.args.store.now in
    let v = view_in s c.args.n in
    let item = c.args.item.now in
    let seen = sym (ap (λ (d : Found). d.seen) c.found_of_row.ensures) ∙ c.if-found_of_row.true in
    rw (c.at_spot.ensures) (stands_at s.world v item c.in-Some.i (first_hit (same_item item) (candidates s.world v)) c.base_of-base.ensures.known c.requires.at_once c.in-Some.ensures.index
    (placed_hit s.world v item (Some c.in-Some.i) true c.base_of-base.ensures.known c.requires.at_once c.in-Some.ensures.index seen))

pub returns-else-found_of_row-clause-none : goal.returns-else-found_of_row-clause-none
returns-else-found_of_row-clause-none g c =
    let s = c.args.store.now in
    let v = view_in s c.args.n in
    let item = c.args.item.now in
    placed_hit s.world v item (Some c.in-Some.i) false c.base_of-base.ensures.known c.requires.at_once c.in-Some.ensures.index (sym (ap (λ (d : Found). d.seen) c.found_of_row.ensures) ∙ c.if-found_of_row.false)

pub returns-in-None-clause-none : goal.returns-in-None-clause-none
returns-in-None-clause-none g c =
    let s = c.args.store.now in
    let v = view_in s c.args.n in
    let item = c.args.item.now in
    placed_hit s.world v item None ((form_of v).sees item) c.base_of-base.ensures.known c.requires.at_once c.in-None.ensures.index refl ∙ either ((form_of v).sees item)
  where
    either : (b : Bool) → cond {A = List ℕ} b [] [] ≡ []
    either true = refl
    either false = refl
