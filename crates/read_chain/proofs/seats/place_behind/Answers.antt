use Rattle.std.proofs.Common.{◌≡◌, List, map, sym, subst, Some, None}
use Rattle.std.specs.Prelude.{option_map}
use Rattle.base_store.specs.Courses.{spots_in}
use Rattle.base_store.specs.Stored.{view_in}
use Rattle.view_laws.specs.declared.places.Place.{Place}
use Rattle.view_laws.specs.Following.{Follows, IsFrom}
use Rattle.view_laws.specs.ViewPlaces.{place_of, places}
use Rattle.read_chain.proofs.CourseLemmas.{place_follows, spot_from, spots_along, whole_course}
use Rattle.read_chain.proofs.UnderLemmas.{within_store}
use Rattle.read_chain.proofs.seats.place_behind.Goals as goal

pub next_row-requires-clause-base : goal.next_row-requires-clause-base
next_row-requires-clause-base g c =
    let s = c.args.store.now in
    within_store s.world (view_in s c.args.n) c.base_of-base.result c.course-course.result.base c.base_of-base.ensures.base c.course-course.ensures.base c.base_of-base.ensures.within

pub next_row-requires-clause-from : goal.next_row-requires-clause-from
next_row-requires-clause-from g c =
    let s = c.args.store.now in
    let v = view_in s c.args.n in
    let course = c.course-course.result in
    let walk : map place_of (spots_along s.world course) ≡ places s.world (spots_in s.world) v = whole_course s.world v _ course c.base_of-base.ensures.known c.is_lawful.ensures.formed c.is_lawful.ensures.tell c.course-course.ensures in
    spot_from (spots_along s.world course) c.args.from.now (subst (λ (ps : List Place). IsFrom ps (option_map place_of c.args.from.now)) (sym walk) c.requires.from)

pub returns-in-Some-clause-next : goal.returns-in-Some-clause-next
returns-in-Some-clause-next g c =
    let s = c.args.store.now in
    let v = view_in s c.args.n in
    let course = c.course-course.result in
    let to = Some c.in-Some.next.spot in
    let walk : map place_of (spots_along s.world course) ≡ places s.world (spots_in s.world) v = whole_course s.world v _ course c.base_of-base.ensures.known c.is_lawful.ensures.formed c.is_lawful.ensures.tell c.course-course.ensures in
    rw (c.at_spot.ensures) (subst (λ (ps : List Place). Follows ps (option_map place_of c.args.from.now) (option_map place_of to)) walk (place_follows (spots_along s.world course) c.args.from.now to c.in-Some.ensures.next))

pub returns-in-None-clause-next : goal.returns-in-None-clause-next
returns-in-None-clause-next g c =
    let s = c.args.store.now in
    let v = view_in s c.args.n in
    let course = c.course-course.result in
    let walk : map place_of (spots_along s.world course) ≡ places s.world (spots_in s.world) v = whole_course s.world v _ course c.base_of-base.ensures.known c.is_lawful.ensures.formed c.is_lawful.ensures.tell c.course-course.ensures in
    subst (λ (ps : List Place). Follows ps (option_map place_of c.args.from.now) None) walk (place_follows (spots_along s.world course) c.args.from.now None c.in-None.ensures.next)
