use Rattle.std.proofs.Common.{sym, ap, ◌∙◌}
use Rattle.fn_lang.specs.Flat.{func_whole}
use Rattle.fn_lang.specs.Trees.{func_parts}
use Rattle.fn_lang.proofs.lent.FuncRef.parts.Goals as goal

pub returns-clause-parts : goal.returns-clause-parts
returns-clause-parts c = sym (func_whole c.self.inside.parts.now c.self.invariant.0) ∙ ap func_parts c.self.view_is
