use Rattle.std.proofs.Common.{take}
use Rattle.mm_base.specs.Exchanging.{IsPlaced}
use Rattle.mm_base.proofs.free_flat_pairs.FreeFlatPairs.place_all.Given as goal

abbrev pub invariant-loop-placed : goal.invariant-loop-placed
invariant-loop-placed l = IsPlaced l.k (take l.placed l.vs) l.next l.fn.self l.self
