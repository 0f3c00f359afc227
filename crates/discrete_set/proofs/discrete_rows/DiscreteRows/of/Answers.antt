use Rattle.discrete_set.proofs.SetLaws.{of_runs}
use Rattle.discrete_set.proofs.discrete_rows.DiscreteRows.of.Goals as goal

pub returns-clause-runs : goal.returns-clause-runs
returns-clause-runs g c = of_runs c.args.rows.now c.in_ok-joined.field-0.items c.in_ok-joined.ensures.counted c.in_ok-joined.ensures.members
