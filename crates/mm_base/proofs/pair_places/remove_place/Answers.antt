use Rattle.std.proofs.Common.{sym, subst}
use Rattle.std.specs.HashMap as hash
use Rattle.mm_base.specs.KeyValues.{same_pair}
use Rattle.mm_base.specs.PairPlaces.{FindsPairs}
use Rattle.mm_base.proofs.FoundPairs.{found_removed}
use Rattle.mm_base.proofs.pair_places.remove_place.Goals as goal

pub returns-clause-found : goal.returns-clause-found
returns-clause-found c =
    let found = hash.get same_pair c.forget_pair_place.new.places in
    subst (λ rs. FindsPairs rs found) (sym c.remove_at.ensures)
    (found_removed c.args.place c.args.pairs.now c.pair_at-key.result c.pair_at-key.ensures.pair c.requires.distinct (hash.get same_pair c.args.places.now) c.requires.found found c.forget_pair_place.ensures.updates)
