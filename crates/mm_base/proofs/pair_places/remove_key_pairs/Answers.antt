use Rattle.std.proofs.Common.{[], sym, ◌∙◌, subst, append-nil}
use Rattle.std.specs.HashMap as hash
use Rattle.mm_base.specs.PairRows.{without_key}
use Rattle.mm_base.specs.KeyValues.{same_pair}
use Rattle.mm_base.specs.PairPlaces.{FindsPairs}
use Rattle.mm_base.proofs.pair_places.remove_key_pairs.Goals as goal

pub returns-clause-rows : goal.returns-clause-rows
returns-clause-rows c =
    let old = c.args.pairs.now in
    c.remove_first_pairs.ensures.rows old [] (sym (append-nil old)) c.count_of-count.ensures ∙ append-nil (without_key c.args.k.now old)

pub returns-clause-found : goal.returns-clause-found
returns-clause-found c =
    let old = c.args.pairs.now in
    let whole = sym (append-nil old) in
    let rows = c.remove_first_pairs.ensures.rows old [] whole c.count_of-count.ensures ∙ append-nil (without_key c.args.k.now old) in
    subst (λ rs. FindsPairs rs (hash.get same_pair c.remove_first_pairs.new.places)) (sym rows) (c.remove_first_pairs.ensures.found old [] whole c.count_of-count.ensures c.requires.distinct c.requires.found)
