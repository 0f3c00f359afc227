use Rattle.fn_lang.proofs.FlatLaws.{func_meaning}
use Rattle.fn_lang.proofs.lent.FuncRef.eval.Goals as goal

pub returns : goal.returns
returns c = func_meaning c.args.x c.self.inside.parts.now _ c.apply-value.result.0 c.args.self.now c.apply-value.ensures.value c.self.invariant.0 c.self.view_is
