use Rattle.plain_base.proofs.SortedLemmas.{distinct_keys, in_order, last_found, last_missing}
use Rattle.plain_base.proofs.WholeRows.{last_value}
use Rattle.plain_base.proofs.bounds.last_entry_between.Goals as goal

pub returns-in-Some-clause-key : goal.returns-in-Some-clause-key
returns-in-Some-clause-key g c = last_found _ _ _ _ _ (c.range.ensures.between tt) c.in-Some.ensures.steps c.elem.ensures

pub returns-in-None-clause-key : goal.returns-in-None-clause-key
returns-in-None-clause-key g c = last_missing _ _ (c.range.ensures.between tt) c.in-None.ensures.steps.0

pub returns-in-Some-clause-value : goal.returns-in-Some-clause-value
returns-in-Some-clause-value g c =
    let distinct = distinct_keys g.C.Compare.before c.args.rows.now.entries c.range.ensures.ordered in
    last_value _ c.args.rows.now.entries _ _ _ c.elem.result distinct (c.range.ensures.between tt) c.in-Some.ensures.steps c.elem.ensures

pub returns-in-Some-clause-order : goal.returns-in-Some-clause-order
returns-in-Some-clause-order g c = in_order g.C.Compare.before c.args.rows.now.entries c.range.ensures.ordered

pub returns-in-None-clause-order : goal.returns-in-None-clause-order
returns-in-None-clause-order g c = in_order g.C.Compare.before c.args.rows.now.entries c.range.ensures.ordered
