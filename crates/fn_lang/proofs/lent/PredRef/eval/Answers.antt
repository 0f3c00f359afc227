use Rattle.fn_lang.proofs.FlatLaws.{pred_meaning}
use Rattle.fn_lang.proofs.lent.PredRef.eval.Goals as goal

pub returns : goal.returns
returns c = pred_meaning c.args.x c.self.inside.parts.now _ c.holds-truth.result.0 c.args.self.now c.holds-truth.ensures.value c.self.invariant.0 c.self.view_is
