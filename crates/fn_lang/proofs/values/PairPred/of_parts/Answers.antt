use Rattle.fn_lang.specs.Flat.{pair_whole}
use Rattle.fn_lang.proofs.values.PairPred.of_parts.Goals as goal

pub returns : goal.returns
returns c = pair_whole c.args.parts.items c.requires
