use Rattle.std.proofs.Common.{◌≡◌, length}
use Rattle.std.specs.List.{list_all}
use Rattle.read_chain.specs.Reads.{shown_in}
use Rattle.read_chain.specs.Walks.{IsWalk, to_come}
use Rattle.machine.specs.Shown.{is_shown}
use Rattle.read_chain.proofs.reads.contains_all.Given as goal

abbrev pub invariant-loop-item : goal.invariant-loop-item
invariant-loop-item g l = record {
  walk : IsWalk l.store l.walk;
  rest : list_all (is_shown (shown_in l.store l.fn.n)) (to_come l.store l.walk) ≡ list_all (is_shown (shown_in l.store l.fn.n)) (shown_in l.store l.fn.other);
}

abbrev pub decreases-loop-item : goal.decreases-loop-item
decreases-loop-item g l = length (to_come l.store l.walk)
