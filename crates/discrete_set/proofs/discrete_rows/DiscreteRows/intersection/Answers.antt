use Rattle.discrete_set.proofs.SetLaws.{common_runs, common_is}
use Rattle.discrete_set.proofs.discrete_rows.DiscreteRows.intersection.Goals as goal

pub returns-clause-runs : goal.returns-clause-runs
returns-clause-runs g c =
    common_runs c.args.self.now c.args.other.now c.self.inside.runs.items c.other.inside.runs.items c.in_ok-merged.field-0.items c.self.view_is c.other.view_is c.self.invariant c.other.invariant c.in_ok-merged.ensures.counted
    (common_is c.self.inside.runs.items c.deref.result.now c.other.inside.runs.items c.deref-2.result.now c.in_ok-merged.field-0.items c.deref.ensures.value c.deref-2.ensures.value c.in_ok-merged.ensures.members)
