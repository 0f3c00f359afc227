use Rattle.std.proofs.Common.{◌≡◌, ◌≤◌}
use Rattle.std.specs.List.{remove_range}
use Rattle.base_rows.proofs.base_rows.placing.listed.remove_run.Given as goal

abbrev pub invariant-loop-end : goal.invariant-loop-end
invariant-loop-end g l = record { above : l.from ≤ l.end; below : l.end ≤ l.to; left : l.rows ≡ remove_range l.fn.rows l.end l.to }

abbrev pub decreases-loop-end : goal.decreases-loop-end
decreases-loop-end g l = l.end
