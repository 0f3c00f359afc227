use Rattle.std.proofs.Common.{not, sym, ap, ◌∙◌}
use Rattle.std.specs.Prelude.{is_some}
use Rattle.mm_base.proofs.KeyedRowsLemmas.{contains_keys}
use Rattle.graph_base.proofs.degrees.put_node.Goals as goal

pub returns-then-is_some-clause-answer : goal.returns-then-is_some-clause-answer
returns-then-is_some-clause-answer c = sym (ap not (contains_keys c.args.a.now c.args.nodes.now ∙ ap is_some (sym c.probe.ensures) ∙ sym c.is_some.ensures ∙ c.if-is_some.true))

pub returns-clause-answer : goal.returns-clause-answer
returns-clause-answer c = sym (ap not (contains_keys c.args.a.now c.args.nodes.now ∙ ap is_some (sym c.probe.ensures) ∙ sym c.is_some.ensures ∙ c.if-is_some.false))
