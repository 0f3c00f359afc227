use Rattle.std.proofs.Common.{◌≡◌, find, length}
use Rattle.read_chain.specs.Reads.{shown_in}
use Rattle.read_chain.specs.Walks.{IsWalk, to_come}
use Rattle.read_chain.proofs.finding.find.Given as goal

abbrev pub invariant-loop-item : goal.invariant-loop-item
invariant-loop-item g l = record {
  walk : IsWalk l.store l.walk;
  rest : find (g.T.RowTest.passes l.test) (to_come l.store l.walk) ≡ find (g.T.RowTest.passes l.test) (shown_in l.store l.fn.n);
}

abbrev pub decreases-loop-item : goal.decreases-loop-item
decreases-loop-item g l = length (to_come l.store l.walk)
