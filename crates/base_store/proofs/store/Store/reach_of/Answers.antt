use Rattle.base_store.specs.Stored.{view_in}
use Rattle.base_store.proofs.ReachLemmas.{course_served, hit_on_course}
use Rattle.base_store.proofs.store.Store.reach_of.Goals as goal

pub returns : goal.returns
returns g c =
    let s = c.args.self.now in
    let v = view_in s c.args.n in
    let course = c.args.course.now in (
      course_served s.world v course c.requires.course,
      λ row fits hit. hit_on_course s.world v c.base_of-base.ensures.known c.is_lawful.ensures.formed c.is_lawful.ensures.by_row (g.T.RowTest.passes c.args.test.now) row fits hit course c.requires.course,
    )
