use Rattle.fn_lang.specs.Flat.{pred_whole}
use Rattle.fn_lang.proofs.values.Pred.of_parts.Goals as goal

pub returns : goal.returns
returns c = pred_whole c.args.parts.items c.requires
