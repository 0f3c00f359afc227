use Rattle.std.proofs.Common.{ap, ◌∙◌}
use Rattle.std.specs.Prelude.{Option}
use Rattle.elem.specs.declared.elements.Elem.{Elem}
use Rattle.base_rows.specs.Adding.{is_other}
use Rattle.base_rows.proofs.PairPuts.{own_bound, swapped_bound}
use Rattle.base_rows.proofs.base_rows.placing.pairs.is_bound.Goals as goal

pub returns-in-Own-clause-bound : goal.returns-in-Own-clause-bound
returns-in-Own-clause-bound g c =
    c.is_other.ensures ∙ ap (λ (o : Option Elem). is_other o c.key_of-k.result) c.by_value.ensures.key
    ∙ own_bound c.args.spot c.args.row.now c.requires.fits c.key_of-k.result c.value_of-v.result c.key_of-k.ensures c.value_of-v.ensures c.args.rows.now c.len-len.ensures.keys c.len-len.ensures.values c.in-Own.is

pub returns-in-Swapped-clause-bound : goal.returns-in-Swapped-clause-bound
returns-in-Swapped-clause-bound g c =
    c.is_other-in-Swapped.ensures
    ∙ swapped_bound c.args.spot c.args.row.now c.requires.fits c.key_of-k.result c.value_of-v.result c.key_of-k.ensures c.value_of-v.ensures c.args.rows.now c.len-len.ensures.keys c.len-len.ensures.values c.in-Swapped.is c.by_key.result c.by_key.ensures.value
