use Rattle.std.proofs.Common.{ap, sym, ◌∙◌}
use Rattle.fn_lang.specs.PartTrees.{pred_of, pred_of-parts}
use Rattle.fn_lang.specs.Trees.{PredTree, pred_parts}
use Rattle.vocabulary.specs.declared.steps.Step.TheVariants as step
use Rattle.session.proofs.FollowLemmas.{read_made}
use Rattle.session.proofs.taking.take_filter.Goals as goal

pub returns-in-Ok : goal.returns-in-Ok
returns-in-Ok c =
    read_made _ _ _ (λ parts. step.Filter c.args.word (pred_of parts)) _ (pred_parts c.in-Ok.p) _ _ c.in-Ok.ensures.exact (ap (λ (t : PredTree). step.Filter c.args.word t) (pred_of-parts c.in-Ok.p ∙ sym c.lend.ensures)) c.make_step.ensures
