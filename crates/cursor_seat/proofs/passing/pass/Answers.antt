use Rattle.std.proofs.Common.{ap, sym, ◌∙◌, Some, None}
use Rattle.base_store.specs.Stored.{view_in}
use Rattle.read_chain.specs.Walks.{shown_there}
use Rattle.view_laws.specs.ViewPlaces.{place_of}
use Rattle.read_chain.proofs.CourseLemmas.{row_found}
use Rattle.read_chain.proofs.UnderLemmas.{row_under, within_store}
use Rattle.cursor_seat.proofs.CourseSpots.{places_follow, spots_from}
use Rattle.cursor_seat.proofs.passing.pass.Goals as goal

pub next_row-requires-clause-base : goal.next_row-requires-clause-base
next_row-requires-clause-base g c =
    let s = c.args.store.now in
    within_store s.world (view_in s c.args.n) c.base_of-base.result c.course-course.result.base c.base_of-base.ensures.base c.course-course.ensures.base c.base_of-base.ensures.within

pub next_row-requires-clause-from : goal.next_row-requires-clause-from
next_row-requires-clause-from g c =
    let s = c.args.store.now in
    spots_from s.world (view_in s c.args.n) c.course-course.result c.args.last.now c.spot_of-from.result c.base_of-base.ensures.known
    (record { formed = c.is_lawful.ensures.formed; by_row = c.is_lawful.ensures.by_row; tell = c.is_lawful.ensures.tell; is = c.course-course.ensures }) c.requires.last c.spot_of-from.ensures

pub returns-in-Some-clause-next : goal.returns-in-Some-clause-next
returns-in-Some-clause-next g c =
    let s = c.args.store.now in
    places_follow s.world (view_in s c.args.n) c.course-course.result c.args.last.now c.spot_of-from.result (Some c.in-Some.next.spot) c.base_of-base.ensures.known
    (record { formed = c.is_lawful.ensures.formed; by_row = c.is_lawful.ensures.by_row; tell = c.is_lawful.ensures.tell; is = c.course-course.ensures }) c.requires.last c.spot_of-from.ensures c.in-Some.ensures.next

pub returns-in-Some-clause-item : goal.returns-in-Some-clause-item
returns-in-Some-clause-item g c =
    let s = c.args.store.now in
    let v = view_in s c.args.n in
    c.shown_of_row.ensures
    ∙ ap shown_there (sym (row_found s.world v (place_of c.in-Some.next.spot) c.in-Some.next.row c.base_of-base.ensures.known c.is_lawful.ensures.by_row (row_under s.world v c.course-course.result.base c.in-Some.next.spot c.in-Some.next.row c.course-course.ensures.base c.in-Some.ensures.row)))

pub returns-in-None-clause-next : goal.returns-in-None-clause-next
returns-in-None-clause-next g c =
    let s = c.args.store.now in
    places_follow s.world (view_in s c.args.n) c.course-course.result c.args.last.now c.spot_of-from.result None c.base_of-base.ensures.known
    (record { formed = c.is_lawful.ensures.formed; by_row = c.is_lawful.ensures.by_row; tell = c.is_lawful.ensures.tell; is = c.course-course.ensures }) c.requires.last c.spot_of-from.ensures c.in-None.ensures.next
