use Rattle.std.proofs.Common.{take}
use Rattle.mm_base.specs.Replacing.{IsAppended}
use Rattle.mm_base.proofs.free_flat_pairs.FreeFlatPairs.append.Given as goal

abbrev pub invariant-loop-placed : goal.invariant-loop-placed
invariant-loop-placed l = IsAppended l.k (take l.placed l.vs) l.fn.self l.self
