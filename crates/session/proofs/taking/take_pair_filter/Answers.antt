use Rattle.std.proofs.Common.{ap, sym, ◌∙◌}
use Rattle.fn_lang.specs.PartTrees.{pair_of, pair_of-parts}
use Rattle.fn_lang.specs.Trees.{PairTree, pair_parts}
use Rattle.vocabulary.specs.declared.steps.Step.TheVariants as step
use Rattle.session.proofs.FollowLemmas.{read_made}
use Rattle.session.proofs.taking.take_pair_filter.Goals as goal

pub returns-in-Ok : goal.returns-in-Ok
returns-in-Ok c =
    read_made _ _ _ (λ parts. step.FilterPairs (pair_of parts)) _ (pair_parts c.in-Ok.q) _ _ c.in-Ok.ensures.exact (ap (λ (t : PairTree). step.FilterPairs t) (pair_of-parts c.in-Ok.q ∙ sym c.lend.ensures)) c.make_step.ensures
