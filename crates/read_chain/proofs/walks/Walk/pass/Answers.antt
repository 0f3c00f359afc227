use Rattle.std.proofs.Common.{◌≡◌, sym, ap, ◌∙◌, arith, Some, None}
use Rattle.std.specs.Prelude.{slice_get}
use Rattle.std.proofs.lemmas.Option.{slice_get_within}
use Rattle.base_store.specs.Courses.{spots_in}
use Rattle.base_store.specs.Stored.{view_in}
use Rattle.read_chain.specs.Walks.{found_along}
use Rattle.view_laws.specs.ViewPlaces.{place_of, show}
use Rattle.read_chain.proofs.Along.{all_passed, passes_found}
use Rattle.read_chain.proofs.CourseLemmas.{course_found, few_along, row_found, spots_along}
use Rattle.read_chain.proofs.UnderLemmas.{row_under, size_under, within_store}
use Rattle.read_chain.proofs.WalkLemmas.{passes_one, spot_last, spot_next}
use Rattle.read_chain.proofs.walks.Walk.pass.Goals as goal

pub next_row-requires-clause-base : goal.next_row-requires-clause-base
next_row-requires-clause-base g c =
    let s = c.args.store.now in
    let w = c.args.self.now in
    within_store s.world (view_in s w.node) c.base_of.result w.course.base c.base_of.ensures.base c.requires.course.base c.base_of.ensures.within

pub next_row-requires-clause-serves : goal.next_row-requires-clause-serves
next_row-requires-clause-serves g c = c.requires.course.served

pub next_row-requires-clause-from : goal.next_row-requires-clause-from
next_row-requires-clause-from g c =
    let s = c.args.store.now in
    let w = c.args.self.now in
    spot_last (spots_along s.world w.course) w.passed w.last c.requires.at

pub overflow_add-self : goal.overflow_add-self
overflow_add-self g c =
    let s = c.args.store.now in
    let w = c.args.self.now in
    let v = view_in s w.node in
    let ss = spots_along s.world w.course in
    let known = c.base_of.ensures.known in
    let spot : slice_get ss w.passed ≡ Some c.in-Some.next.spot = spot_next ss w.passed w.last (Some c.in-Some.next.spot) c.requires.at c.in-Some.ensures.next in
    omega (arith, slice_get_within ss w.passed c.in-Some.next.spot spot, few_along s.world v w.back w.course known c.is_lawful.ensures.by_row c.is_lawful.ensures.formed c.is_lawful.ensures.tell c.requires.course, size_under s.world v c.base_of.result known c.base_of.ensures.base, c.len-rows.ensures.len, c.len-rows.ensures.few)

pub returns-in-Some-clause-walk : goal.returns-in-Some-clause-walk
returns-in-Some-clause-walk g c =
    let s = c.args.store.now in
    let w = c.args.self.now in
    let ss = spots_along s.world w.course in
    record {
      node = c.requires.node;
      course = c.requires.course;
      at = passes_one ss w.passed c.in-Some.next.spot (spot_next ss w.passed w.last (Some c.in-Some.next.spot) c.requires.at c.in-Some.ensures.next);
    }

pub returns-in-Some-clause-found : goal.returns-in-Some-clause-found
returns-in-Some-clause-found g c =
    let s = c.args.store.now in
    let w = c.args.self.now in
    let v = view_in s w.node in
    let ss = spots_along s.world w.course in
    let known = c.base_of.ensures.known in
    let next = c.in-Some.next in
    let spot : slice_get ss w.passed ≡ Some next.spot = spot_next ss w.passed w.last (Some next.spot) c.requires.at c.in-Some.ensures.next in
    passes_found (λ t. show s.world (spots_in s.world) v (place_of t)) ss (found_along s w.node w.back) (course_found s.world v w.back w.course known c.is_lawful.ensures.formed c.is_lawful.ensures.tell c.requires.course) w.passed next.spot c.found_of_row.result spot
    (row_found s.world v (place_of next.spot) next.row known c.is_lawful.ensures.by_row (row_under s.world v w.course.base next.spot next.row c.requires.course.base c.in-Some.ensures.row) ∙ ap Some (sym c.found_of_row.ensures))

pub returns-in-None-clause-found : goal.returns-in-None-clause-found
returns-in-None-clause-found g c =
    let s = c.args.store.now in
    let w = c.args.self.now in
    let v = view_in s w.node in
    let ss = spots_along s.world w.course in
    let passed = all_passed (λ t. show s.world (spots_in s.world) v (place_of t)) ss (found_along s w.node w.back)
    (course_found s.world v w.back w.course c.base_of.ensures.known c.is_lawful.ensures.formed c.is_lawful.ensures.tell c.requires.course) w.passed (spot_next ss w.passed w.last None c.requires.at c.in-None.ensures.next) in
    (passed, passed)
