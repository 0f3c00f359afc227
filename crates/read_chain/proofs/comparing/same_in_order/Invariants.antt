use Rattle.std.proofs.Common.{◌≡◌, length}
use Rattle.std.specs.Cmp.Lexicographic.{pointwise}
use Rattle.read_chain.specs.Reads.{shown_in}
use Rattle.read_chain.specs.Walks.{IsWalk, to_come}
use Rattle.vocabulary.specs.Items.{same_item}
use Rattle.read_chain.proofs.comparing.same_in_order.Given as goal

abbrev pub invariant-loop-item : goal.invariant-loop-item
invariant-loop-item g l = record {
  walk : IsWalk l.store l.walk;
  beside : IsWalk l.store l.beside;
  rest : pointwise same_item (to_come l.store l.walk) (to_come l.store l.beside) ≡ pointwise same_item (shown_in l.store l.fn.n) (shown_in l.store l.fn.other);
}

abbrev pub decreases-loop-item : goal.decreases-loop-item
decreases-loop-item g l = length (to_come l.store l.walk)
