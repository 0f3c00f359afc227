use Rattle.std.proofs.Common.{sym, ap, ◌∙◌}
use Rattle.std.proofs.lemmas.List.{map-set}
use Rattle.base_rows.specs.BaseRows.{items}
use Rattle.base_rows.proofs.ListRowLemmas.{own_item}
use Rattle.base_rows.proofs.PutLemmas.{on_ok}
use Rattle.vocabulary.specs.declared.edits.Spot.{Spot}
use Rattle.vocabulary.specs.declared.items.Item.TheVariants.{One}
use Rattle.vocabulary.specs.declared.kinds.Kind.TheVariants.{ArrayList}
use Rattle.machine.specs.Placing.{placed_at}
use Rattle.base_rows.proofs.base_rows.placing.listed.place_item.Goals as goal
use Rattle.base_rows.proofs.ListLemmas.{map-insert}

pub returns-in-Own-clause-ok : goal.returns-in-Own-clause-ok
returns-in-Own-clause-ok g c = on_ok c.insert_at.result (λ e. ap items e ∙ own_item c.args.rows.now c.len-size.result c.args.x c.len-size.ensures ∙ sym (ap (λ (spot : Spot). placed_at ArrayList spot (items c.args.rows.now) (One c.args.x)) c.in-Own.is)) c.insert_at.ensures.ok

pub returns-in-Before-clause-ok : goal.returns-in-Before-clause-ok
returns-in-Before-clause-ok g c = on_ok c.insert_at-in-Before.result (λ e. ap items e ∙ map-insert One c.args.rows.now c.in-Before.i c.args.x ∙ sym (ap (λ (spot : Spot). placed_at ArrayList spot (items c.args.rows.now) (One c.args.x)) c.in-Before.is)) c.insert_at-in-Before.ensures.ok

pub returns-in-Instead-clause-ok : goal.returns-in-Instead-clause-ok
returns-in-Instead-clause-ok g c = ap items c.set_at.ensures.items ∙ map-set One c.args.rows.now c.in-Instead.i c.args.x ∙ sym (ap (λ (spot : Spot). placed_at ArrayList spot (items c.args.rows.now) (One c.args.x)) c.in-Instead.is)
