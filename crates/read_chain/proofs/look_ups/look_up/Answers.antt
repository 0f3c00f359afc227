use Rattle.std.proofs.Common.{sym, ap, ◌∙◌, Some}
use Rattle.base_store.specs.Stored.{view_in}
use Rattle.view_laws.specs.ViewPlaces.{place_of}
use Rattle.read_chain.proofs.CourseLemmas.{row_found}
use Rattle.read_chain.proofs.PartCourses.{a_look_up, found_at_spot, none_found, one_found}
use Rattle.read_chain.proofs.UnderLemmas.{row_under, within_store}
use Rattle.read_chain.proofs.look_ups.look_up.Goals as goal

pub next_row-requires-clause-base : goal.next_row-requires-clause-base
next_row-requires-clause-base g c =
    let s = c.args.store.now in
    within_store s.world (view_in s c.args.n) c.base_of-base.result c.course_of_part-course.result.base c.base_of-base.ensures.base c.course_of_part-course.ensures.base c.base_of-base.ensures.within

pub next_row-requires-clause-serves : goal.next_row-requires-clause-serves
next_row-requires-clause-serves g c = c.course_of_part-course.ensures.served

pub returns-in-Some-clause-found : goal.returns-in-Some-clause-found
returns-in-Some-clause-found g c =
    let s = c.args.store.now in
    let v = view_in s c.args.n in
    let base = c.base_of-base in
    let laws = c.is_lawful.ensures in
    let course = c.course_of_part-course in
    let it = a_look_up s.world v c.args.side c.args.x.now course.result base.result base.ensures.known base.ensures.base base.ensures.kind base.ensures.keys base.ensures.made c.requires.unique laws.by_row laws.formed laws.tell course.ensures in
    one_found s.world v c.args.side c.args.x.now course.result c.in-Some.next.spot c.found_of_row.result it c.in-Some.ensures.next
    (row_found s.world v (place_of c.in-Some.next.spot) c.in-Some.next.row base.ensures.known laws.by_row (row_under s.world v course.result.base c.in-Some.next.spot c.in-Some.next.row course.ensures.base c.in-Some.ensures.row) ∙ ap Some (sym c.found_of_row.ensures))

pub returns-in-Some-clause-spot : goal.returns-in-Some-clause-spot
returns-in-Some-clause-spot g c =
    let s = c.args.store.now in
    let v = view_in s c.args.n in
    let base = c.base_of-base in
    let laws = c.is_lawful.ensures in
    let course = c.course_of_part-course in
    let it = a_look_up s.world v c.args.side c.args.x.now course.result base.result base.ensures.known base.ensures.base base.ensures.kind base.ensures.keys base.ensures.made c.requires.unique laws.by_row laws.formed laws.tell course.ensures in
    found_at_spot s.world v c.args.side c.args.x.now course.result c.in-Some.next.spot it c.in-Some.ensures.next

pub returns-in-None-clause-found : goal.returns-in-None-clause-found
returns-in-None-clause-found g c =
    let s = c.args.store.now in
    let v = view_in s c.args.n in
    let base = c.base_of-base in
    let laws = c.is_lawful.ensures in
    let course = c.course_of_part-course in
    let it = a_look_up s.world v c.args.side c.args.x.now course.result base.result base.ensures.known base.ensures.base base.ensures.kind base.ensures.keys base.ensures.made c.requires.unique laws.by_row laws.formed laws.tell course.ensures in
    none_found s.world v c.args.side c.args.x.now course.result it c.in-None.ensures.next
