use Rattle.std.proofs.Common.{◌≡◌, false, drop, find, length}
use Rattle.base_store.specs.Stored.{view_in}
use Rattle.read_chain.specs.Walks.{IsWalk}
use Rattle.machine.specs.CallEdits.{is_hit}
use Rattle.machine.specs.Views.{candidates}
use Rattle.read_chain.proofs.finding.find_place.Given as goal

abbrev pub invariant-loop-found : goal.invariant-loop-found
invariant-loop-found g l = record {
  walk : IsWalk l.store l.walk;
  node : l.walk.node ≡ l.fn.n;
  front : l.walk.back ≡ false;
  rest : find (is_hit (g.T.RowTest.passes l.test)) (drop l.walk.passed (candidates l.store.world (view_in l.store l.fn.n))) ≡ find (is_hit (g.T.RowTest.passes l.test)) (candidates l.store.world (view_in l.store l.fn.n));
}

abbrev pub decreases-loop-found : goal.decreases-loop-found
decreases-loop-found g l = length (drop l.walk.passed (candidates l.store.world (view_in l.store l.fn.n)))
