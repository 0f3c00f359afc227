use Rattle.mm_base.proofs.MovingLemmas.{IsMoving}
use Rattle.mm_base.proofs.free_flat_pairs.FreeFlatPairs.key_to_end.Given as goal

abbrev pub invariant-loop-step : goal.invariant-loop-step
invariant-loop-step l = IsMoving l.k l.fn.self l.self l._step
