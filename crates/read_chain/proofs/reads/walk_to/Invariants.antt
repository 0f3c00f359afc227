use Rattle.std.proofs.Common.{◌≡◌, ◌+◌, length}
use Rattle.std.specs.List.{position_or_len}
use Rattle.read_chain.specs.Reads.{shown_in}
use Rattle.read_chain.specs.Walks.{IsWalk, to_come}
use Rattle.vocabulary.specs.Items.{same_item}
use Rattle.read_chain.proofs.reads.walk_to.Given as goal

abbrev pub invariant-loop-shown : goal.invariant-loop-shown
invariant-loop-shown g l = record {
  walk : IsWalk l.store l.walk;
  counted : l.passed + length (to_come l.store l.walk) ≡ length (shown_in l.store l.fn.n);
  first : l.passed + position_or_len (same_item l.item) (to_come l.store l.walk) ≡ position_or_len (same_item l.item) (shown_in l.store l.fn.n);
}

abbrev pub decreases-loop-shown : goal.decreases-loop-shown
decreases-loop-shown g l = length (to_come l.store l.walk)
