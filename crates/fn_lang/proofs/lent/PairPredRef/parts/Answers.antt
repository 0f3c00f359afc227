use Rattle.std.proofs.Common.{sym, ap, ◌∙◌}
use Rattle.fn_lang.specs.Flat.{pair_whole}
use Rattle.fn_lang.specs.Trees.{pair_parts}
use Rattle.fn_lang.proofs.lent.PairPredRef.parts.Goals as goal

pub returns-clause-parts : goal.returns-clause-parts
returns-clause-parts c = sym (pair_whole c.self.inside.parts.now c.self.invariant.0) ∙ ap pair_parts c.self.view_is
