use Rattle.std.proofs.Common.{sym, ap, ◌∙◌}
use Rattle.std.specs.Prelude.{is_some}
use Rattle.mm_base.specs.PairRows.{without_id}
use Rattle.mm_base.proofs.PairRowsLemmas.{pair_is_live}
use Rattle.mm_base.proofs.pair_places.remove_found.Goals as goal

pub remove_place-requires-clause-place : goal.remove_place-requires-clause-place
remove_place-requires-clause-place c = pair_is_live c.args.k.now c.args.v.now c.args.pairs.now c.in-Some.place (sym (c.requires.found c.args.k.now c.args.v.now) ∙ sym c.pair_place.ensures ∙ c.in-Some.is)

pub returns-in-None-clause-answer : goal.returns-in-None-clause-answer
returns-in-None-clause-answer c = ap is_some (sym c.in-None.is ∙ c.pair_place.ensures ∙ c.requires.found c.args.k.now c.args.v.now)

pub returns-in-None-clause-rows : goal.returns-in-None-clause-rows
returns-in-None-clause-rows c = ap (λ o. without_id o c.args.pairs.now) (sym c.in-None.is ∙ c.pair_place.ensures ∙ c.requires.found c.args.k.now c.args.v.now)

pub returns-in-Some-clause-answer : goal.returns-in-Some-clause-answer
returns-in-Some-clause-answer c = ap is_some (sym c.in-Some.is ∙ c.pair_place.ensures ∙ c.requires.found c.args.k.now c.args.v.now)

pub returns-in-Some-clause-rows : goal.returns-in-Some-clause-rows
returns-in-Some-clause-rows c = c.remove_place.ensures.rows ∙ ap (λ o. without_id o c.args.pairs.now) (sym c.in-Some.is ∙ c.pair_place.ensures ∙ c.requires.found c.args.k.now c.args.v.now)
