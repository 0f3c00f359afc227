use Rattle.std.proofs.Common.{ap, sym, ◌∙◌}
use Rattle.fn_lang.specs.PartTrees.{func_of, func_of-parts}
use Rattle.fn_lang.specs.Trees.{FuncTree, func_parts}
use Rattle.vocabulary.specs.declared.steps.Step.TheVariants as step
use Rattle.session.proofs.FollowLemmas.{read_made}
use Rattle.session.proofs.taking.take_change.Goals as goal

pub returns-in-Ok : goal.returns-in-Ok
returns-in-Ok c =
    read_made _ _ _ (λ parts. step.Change c.args.word (func_of parts)) _ (func_parts c.in-Ok.f) _ _ c.in-Ok.ensures.exact (ap (λ (t : FuncTree). step.Change c.args.word t) (func_of-parts c.in-Ok.f ∙ sym c.lend.ensures)) c.make_step.ensures
