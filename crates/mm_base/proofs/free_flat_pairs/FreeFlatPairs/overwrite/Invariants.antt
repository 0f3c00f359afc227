use Rattle.std.proofs.Common.{drop}
use Rattle.mm_base.proofs.ReplacingLemmas.{IsWriting}
use Rattle.mm_base.proofs.free_flat_pairs.FreeFlatPairs.overwrite.Given as goal

abbrev pub invariant-loop-v : goal.invariant-loop-v
invariant-loop-v l = IsWriting l.k l.vs (drop l.v-index l.vs) l.fn.self l.self l.at
