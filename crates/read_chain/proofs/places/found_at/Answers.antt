use Rattle.std.proofs.Common.{ap, sym, ◌∙◌, Some}
use Rattle.base_store.specs.Stored.{view_in}
use Rattle.read_chain.proofs.CourseLemmas.{never_empty, row_found}
use Rattle.read_chain.proofs.UnderLemmas.{row_under, spot_in_base}
use Rattle.read_chain.proofs.places.found_at.Goals as goal

pub row_at-requires-clause-spot : goal.row_at-requires-clause-spot
row_at-requires-clause-spot g c =
    let s = c.args.store.now in
    spot_in_base s.world (view_in s c.args.n) c.args.at.now c.base_of.result c.base_of.ensures.known c.base_of.ensures.base c.is_lawful.ensures.by_row c.is_lawful.ensures.tell c.requires.place

pub returns-in-Some-clause-found : goal.returns-in-Some-clause-found
returns-in-Some-clause-found g c =
    let s = c.args.store.now in
    let v = view_in s c.args.n in
    ap Some c.found_of_row.ensures
    ∙ sym (row_found s.world v c.args.at.now c.in-Some.row c.base_of.ensures.known c.is_lawful.ensures.by_row (row_under s.world v c.base_of.result c.args.at.now.spot c.in-Some.row c.base_of.ensures.base (sym c.in-Some.ensures.row)))

pub returns-in-None-clause-found : goal.returns-in-None-clause-found
returns-in-None-clause-found g c =
    let s = c.args.store.now in
    let v = view_in s c.args.n in
    absurd (never_empty s.world c.args.at.now c.base_of.result c.is_lawful.ensures.tell
    (spot_in_base s.world v c.args.at.now c.base_of.result c.base_of.ensures.known c.base_of.ensures.base c.is_lawful.ensures.by_row c.is_lawful.ensures.tell c.requires.place) (sym c.in-None.ensures.row))
