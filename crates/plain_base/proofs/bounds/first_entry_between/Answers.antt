use Rattle.plain_base.proofs.SortedLemmas.{in_order, first_found, first_missing}
use Rattle.plain_base.proofs.bounds.first_entry_between.Goals as goal

pub returns-in-Some-clause-key : goal.returns-in-Some-clause-key
returns-in-Some-clause-key g c = first_found _ _ _ _ _ (c.range.ensures.between tt) c.in-Some.ensures.steps c.elem.ensures

pub returns-in-None-clause-key : goal.returns-in-None-clause-key
returns-in-None-clause-key g c = first_missing _ _ (c.range.ensures.between tt) c.in-None.ensures.steps.0

pub returns-in-Some-clause-order : goal.returns-in-Some-clause-order
returns-in-Some-clause-order g c = in_order g.C.Compare.before c.args.rows.now.entries c.range.ensures.ordered

pub returns-in-None-clause-order : goal.returns-in-None-clause-order
returns-in-None-clause-order g c = in_order g.C.Compare.before c.args.rows.now.entries c.range.ensures.ordered
