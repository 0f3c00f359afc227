use Rattle.std.proofs.Common.{rules}
use Rattle.elem.specs.Places.{place}
use Rattle.discrete_set.specs.Numbers.{numbers_below}
use Rattle.discrete_set.proofs.SetLaws.{within_runs, within_members, window_is}
use Rattle.discrete_set.proofs.discrete_rows.DiscreteRows.within.Goals as goal

pub returns-clause-runs : goal.returns-clause-runs
returns-clause-runs g c =
    within_runs c.args.self.now c.self.inside.runs.items c.in_ok-windowed.field-0.items (numbers_below (place c.args.r.now.lo)) (numbers_below (place c.args.r.now.hi)) c.self.view_is c.self.invariant c.in_ok-windowed.ensures.counted
    (window_is c.self.inside.runs.items c.deref.result.now c.in_ok-windowed.field-0.items c.numbers_below-first.result (numbers_below (place c.args.r.now.lo)) c.numbers_below-end.result (numbers_below (place c.args.r.now.hi)) c.deref.ensures.value (search rules) (search rules) c.in_ok-windowed.ensures.members)

pub returns-clause-members : goal.returns-clause-members
returns-clause-members g c =
    within_members c.args.self.now c.self.inside.runs.items c.in_ok-windowed.field-0.items c.args.r.now c.self.view_is c.requires.lo c.requires.hi c.place.ensures.cut c.place-2.ensures.cut
    (window_is c.self.inside.runs.items c.deref.result.now c.in_ok-windowed.field-0.items c.numbers_below-first.result (numbers_below (place c.args.r.now.lo)) c.numbers_below-end.result (numbers_below (place c.args.r.now.hi)) c.deref.ensures.value (search rules) (search rules) c.in_ok-windowed.ensures.members)
