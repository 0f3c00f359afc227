use Rattle.range_base.proofs.range_rows.RangeRows.runs_law.Goals as goal

pub returns-clause-runs : goal.returns-clause-runs
returns-clause-runs c = rw (← c.self.view_is) c.runs_law.ensures.runs
