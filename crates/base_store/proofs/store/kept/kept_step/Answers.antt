use Rattle.std.proofs.Common.{ap, sym, ◌∙◌}
use Rattle.fn_lang.specs.PartTrees.{func_of, func_of-parts, pair_of, pair_of-parts, pred_of, pred_of-parts}
use Rattle.fn_lang.specs.Trees.{FuncTree, PairTree, PredTree}
use Rattle.vocabulary.specs.declared.steps.Step.TheVariants as step
use Rattle.base_store.proofs.store.kept.kept_step.Goals as goal

pub returns-in-Filter-clause-step : goal.returns-in-Filter-clause-step
returns-in-Filter-clause-step c =
    ap (λ (p : PredTree). step.Filter c.in-Filter.word p) (ap pred_of (c.add_parts.ensures.run ∙ c.parts.ensures.parts) ∙ pred_of-parts c.in-Filter.p) ∙ sym c.in-Filter.is

pub returns-in-FilterPairs-clause-step : goal.returns-in-FilterPairs-clause-step
returns-in-FilterPairs-clause-step c =
    ap (λ (q : PairTree). step.FilterPairs q) (ap pair_of (c.add_parts-in-FilterPairs.ensures.run ∙ c.parts-in-FilterPairs.ensures.parts) ∙ pair_of-parts c.in-FilterPairs.q) ∙ sym c.in-FilterPairs.is

pub returns-in-Change-clause-step : goal.returns-in-Change-clause-step
returns-in-Change-clause-step c =
    ap (λ (f : FuncTree). step.Change c.in-Change.word f) (ap func_of (c.add_parts-in-Change.ensures.run ∙ c.parts-in-Change.ensures.parts) ∙ func_of-parts c.in-Change.f) ∙ sym c.in-Change.is
