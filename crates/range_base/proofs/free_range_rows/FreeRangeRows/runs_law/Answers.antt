use Rattle.std.proofs.Common.{refl}
use Rattle.range_base.specs.Rows.{part}
use Rattle.range_base.proofs.UnitLaws.{same_cover}
use Rattle.range_base.proofs.CallLaws.{maximal_run}
use Rattle.range_base.proofs.free_range_rows.FreeRangeRows.runs_law.Goals as goal

pub returns-clause-runs : goal.returns-clause-runs
returns-clause-runs c = rw (← c.self.view_is) (λ lo hi e. maximal_run lo (part hi tt) c.self.inside.rows.entries c.self.invariant.apart e)

pub returns-clause-told : goal.returns-clause-told
returns-clause-told c = rw (← c.self.view_is) (λ rows s h. same_cover (λ x y. refl) 0 0 rows c.self.inside.rows.entries s c.self.invariant.apart h)
