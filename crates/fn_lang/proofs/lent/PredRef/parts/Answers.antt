use Rattle.std.proofs.Common.{sym, ap, ◌∙◌}
use Rattle.fn_lang.specs.Flat.{pred_whole}
use Rattle.fn_lang.specs.Trees.{pred_parts}
use Rattle.fn_lang.proofs.lent.PredRef.parts.Goals as goal

pub returns-clause-parts : goal.returns-clause-parts
returns-clause-parts c = sym (pred_whole c.self.inside.parts.now c.self.invariant.0) ∙ ap pred_parts c.self.view_is
