use Rattle.discrete_set.proofs.KeptLaws.{AreRuns-counted}
use Rattle.discrete_set.proofs.discrete_rows.DiscreteRows.runs.Goals as goal

pub returns-clause-valid : goal.returns-clause-valid
returns-clause-valid c = rw (← c.self.view_is) (AreRuns-counted c.self.inside.runs.items c.self.invariant)
