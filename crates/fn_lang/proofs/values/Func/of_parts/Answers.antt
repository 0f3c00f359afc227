use Rattle.fn_lang.specs.Flat.{func_whole}
use Rattle.fn_lang.proofs.values.Func.of_parts.Goals as goal

pub returns : goal.returns
returns c = func_whole c.args.parts.items c.requires
