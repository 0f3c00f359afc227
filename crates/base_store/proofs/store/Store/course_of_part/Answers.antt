use Rattle.std.proofs.Common.{◌≡◌, true, false, subst}
use Rattle.std.specs.Prelude.{None, Some}
use Rattle.view_laws.specs.declared.lanes.Lane.{Lane}
use Rattle.view_laws.specs.LanesDown.{lane_down}
use Rattle.view_laws.specs.Serving.{of_part}
use Rattle.base_store.specs.Stored.{view_in}
use Rattle.base_store.proofs.CourseLemmas.{is_course, known_leaf}
use Rattle.view_steps.proofs.ComingDown.{part_comes_down}
use Rattle.base_store.proofs.store.Store.course_of_part.Goals as goal

pub returns : goal.returns
returns c =
    let s = c.args.self.now in
    let v = view_in s c.args.n in
    let to = c.comes_down-found.new in
    let kind = known_leaf s.world v c.base_of.result c.base_of.ensures.known c.base_of.ensures.base c.base_of.ensures.kind in
    let some = subst (λ (l : Lane). c.comes_down-found.result ≡ true → lane_down s.world v l false ≡ Some (to.lane, to.back)) c.lane_of_part-lane.ensures.lane c.comes_down-found.ensures.some in
    let none = subst (λ (l : Lane). c.comes_down-found.result ≡ false → lane_down s.world v l false ≡ None) c.lane_of_part-lane.ensures.lane c.comes_down-found.ensures.none in
    let part = part_comes_down s.world v c.args.side c.args.x.now false c.base_of.ensures.known kind c.base_of.ensures.made c.requires.unique in
    is_course s.world v (of_part c.args.side c.args.x.now) to.lane false to.back c.comes_down-found.result c.base_of.result c.base_of.ensures.known c.base_of.ensures.base part.down some none
