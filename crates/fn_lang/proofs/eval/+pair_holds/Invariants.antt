use Rattle.std.proofs.Common.{length}
use Rattle.fn_lang.proofs.eval.+pair_holds.Given as goal

abbrev pub decreases-pair_holds : goal.decreases-pair_holds
decreases-pair_holds l = length l.parts.now
