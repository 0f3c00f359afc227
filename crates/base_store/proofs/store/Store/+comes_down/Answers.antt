use Rattle.std.proofs.Common.{arith, ap, sym, ◌∙◌}
use Rattle.view_steps.specs.KnownViews.{is_known_view}
use Rattle.base_store.specs.Stored.{view_in}
use Rattle.view_steps.proofs.KnownLemmas.{known_over}
use Rattle.base_store.proofs.store.Store.+comes_down.Goals as goal

pub passes_down-requires-clause-known : goal.passes_down-requires-clause-known
passes_down-requires-clause-known t c =
    let at = rw c.in-Step.is at c.node.ensures in
    (known_over c.in-Step.step (view_in c.args.self.now c.in-Step.parent) (ap is_known_view (sym at.0) ∙ c.base_of-base.ensures.known)).0

pub comes_down-requires : goal.comes_down-requires
comes_down-requires t c =
    let at = rw c.in-Step.is at c.node.ensures in
    (omega (arith, at.1), (omega (arith, at.1, c.requires.node), c.passes_down.ensures.each c.if-not-passes_down.false))
