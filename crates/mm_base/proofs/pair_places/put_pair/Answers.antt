use Rattle.std.proofs.Common.{cond, refl, sym, ◌∙◌, subst}
use Rattle.std.specs.Prelude.{IsSome}
use Rattle.std.specs.HashMap as hash
use Rattle.mm_base.specs.KeyValues.{key_value, same_pair}
use Rattle.mm_base.specs.PairPlaces.{FindsPairs}
use Rattle.mm_base.proofs.Results.{on_ok_of}
use Rattle.mm_base.proofs.FoundPairs.{last_put, found_last}
use Rattle.mm_base.proofs.pair_places.put_pair.Goals as goal

pub unwrap-place-requires : goal.unwrap-place-requires
unwrap-place-requires c =
    let put = on_ok_of c.link.result (sym c.is_err-2.ensures.value ∙ c.if-is_err-2.false) c.link.ensures.ok in
    subst IsSome (sym (c.last_place.ensures.place ∙ last_put c.args.k.now c.args.v.now c.args.pairs.now c.link.new.self put)) refl

pub returns-clause-found : goal.returns-clause-found
returns-clause-found c =
    let k = c.args.k.now in
    let v = c.args.v.now in
    let old = c.args.pairs.now in
    let put = on_ok_of c.link.result (sym c.is_err-2.ensures.value ∙ c.if-is_err-2.false) c.link.ensures.ok in
    let place = sym c.unwrap-place.ensures ∙ c.last_place.ensures.place ∙ last_put k v old c.link.new.self put in
    let found = hash.get same_pair c.write_pair_place.new.places in
    subst (λ rs. FindsPairs rs found) (sym put.2)
    (found_last old put.0 k v (hash.get same_pair c.args.places.now) found c.requires.found c.requires.new (λ q. c.write_pair_place.ensures.updates q ∙ (λ i. cond (same_pair (key_value k v) q) (place i) (c.reserve.ensures.entries.2 q i))))
