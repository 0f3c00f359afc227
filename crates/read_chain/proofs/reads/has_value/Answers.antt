use Rattle.std.proofs.Common.{sym, ◌∙◌, ap}
use Rattle.std.specs.Prelude.{is_some}
use Rattle.base_store.specs.Stored.{view_in}
use Rattle.read_chain.specs.Reads.{shown_in}
use Rattle.machine.specs.Shown.{has_value}
use Rattle.vocabulary.specs.Shapes.{is_bimap}
use Rattle.read_chain.proofs.LookUpLemmas.{value_told}
use Rattle.read_chain.proofs.reads.has_value.Goals as goal
use Rattle.view_steps.proofs.KeyLemmas.{any_found}

pub returns-then-goes_by_value-clause-value : goal.returns-then-goes_by_value-clause-value
returns-then-goes_by_value-clause-value g c =
    let s = c.args.store.now in
    c.is_some.ensures
    ∙ sym (value_told s.world (view_in s c.args.n) c.args.v.now c.shown_with.result c.is_lawful.ensures.formed (ap is_bimap (sym c.shape.ensures) ∙ sym c.goes_by_value.ensures ∙ c.if-goes_by_value.true) c.shown_with.ensures.item)

pub returns-else-goes_by_value-clause-value : goal.returns-else-goes_by_value-clause-value
returns-else-goes_by_value-clause-value g c =
    c.is_some-else-goes_by_value.ensures ∙ sym (any_found (has_value c.args.v.now) (shown_in c.args.store.now c.args.n) ∙ ap is_some (sym c.find.ensures))
