use Rattle.std.proofs.Common.{◌≡◌, ℕ, ◌+◌, ◌-◌, ◌^◌, ◌≤◌, min, List, Some}
use Rattle.machine.specs.RowCounts.{ChangesUpTo}
use Rattle.shelf.specs.Feed.{Coming}
use Rattle.shelf.proofs.top.run_script.Given as goal

-- so many bytes were taken and fed, and no count has fallen
abbrev pub invariant-loop-count : goal.invariant-loop-count
invariant-loop-count g l = record {
  within : l.taken ≤ 2 ^ 40;
  changes : ChangesUpTo l.taken l.session.bases;
  given : min (g.I.Inputs.given l.fn.inputs + l.taken) (2 ^ 64 - 1) ≤ g.I.Inputs.given l.inputs;
  reads : g.I.Inputs.read_faults l.fn.inputs ≤ g.I.Inputs.read_faults l.inputs;
  writes : g.S.Sink.faults l.fn.sink ≤ g.S.Sink.faults l.sink;
  coming : (bytes : List ℕ) → g.I.Inputs.left l.fn.inputs ≡ Some bytes →
      Coming bytes (g.I.Inputs.left l.inputs) l.taken l.session l.line (g.S.Sink.taken l.fn.sink) (g.S.Sink.taken l.sink);
}

abbrev pub decreases-loop-count : goal.decreases-loop-count
decreases-loop-count g l = 2 ^ 40 + 1 - l.taken
