use Rattle.std.proofs.Common.{◌≡◌, ◌++◌, length}
use Rattle.base_store.specs.Stored.{view_in}
use Rattle.read_chain.specs.Walks.{IsWalk, to_come}
use Rattle.machine.specs.Views.{shown}
use Rattle.write_chain.proofs.members.collected.Given as goal

abbrev pub invariant-loop-item : goal.invariant-loop-item
invariant-loop-item g l = record {
  walk : IsWalk l.store l.walk;
  rest : l.found.items ++ to_come l.store l.walk ≡ shown l.store.world (view_in l.store l.fn.n);
}

abbrev pub decreases-loop-item : goal.decreases-loop-item
decreases-loop-item g l = length (to_come l.store l.walk)
