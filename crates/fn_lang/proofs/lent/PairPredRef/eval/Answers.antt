use Rattle.fn_lang.proofs.FlatLaws.{pair_meaning}
use Rattle.fn_lang.proofs.lent.PairPredRef.eval.Goals as goal

pub returns : goal.returns
returns c = pair_meaning c.args.k c.args.v c.self.inside.parts.now _ c.pair_holds-truth.result.0 c.args.self.now c.pair_holds-truth.ensures.value c.self.invariant.0 c.self.view_is
