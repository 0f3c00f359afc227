use Rattle.std.proofs.Common.{ap, sym, ◌∙◌, Some, None}
use Rattle.base_store.specs.Stored.{view_in}
use Rattle.view_laws.specs.declared.places.Found.{Found}
use Rattle.view_laws.specs.RowForm.{form_of}
use Rattle.view_laws.proofs.ListLemmas.{and-false, and-true}
use Rattle.read_chain.proofs.ListLookUps.{shown_found}
use Rattle.read_chain.proofs.list_look_ups.shows_item.Goals as goal

pub returns-in-Some-clause-shown : goal.returns-in-Some-clause-shown
returns-in-Some-clause-shown g c =
    let s = c.args.store.now in
    let v = view_in s c.args.n in
    ap (λ (d : Found). d.seen) c.found_of_row.ensures
    ∙ sym (shown_found s.world v c.args.item.now (Some c.in-Some.field-0) c.base_of-base.ensures.known c.requires.at_once c.in-Some.ensures.index ∙ and-true ((form_of v).sees c.args.item.now))

pub returns-in-None-clause-shown : goal.returns-in-None-clause-shown
returns-in-None-clause-shown g c =
    let s = c.args.store.now in
    let v = view_in s c.args.n in
    sym (shown_found s.world v c.args.item.now None c.base_of-base.ensures.known c.requires.at_once c.in-None.ensures.index ∙ and-false ((form_of v).sees c.args.item.now))
