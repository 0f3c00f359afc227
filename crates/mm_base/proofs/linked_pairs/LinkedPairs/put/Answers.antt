use Rattle.std.proofs.Common.{sym, ◌∙◌, subst}
use Rattle.std.specs.Map.{keys_of}
use Rattle.mm_base.specs.LinkedPairs.{AreLinked}
use Rattle.mm_base.proofs.Results.{on_ok_of}
use Rattle.mm_base.proofs.KeyedRowsLemmas.{keyed_with, pairs_with, none_of}
use Rattle.mm_base.proofs.linked_pairs.LinkedPairs.put.Goals as goal

pub put_pair-requires-clause-new : goal.put_pair-requires-clause-new
put_pair-requires-clause-new g c = sym (c.self.invariant.found c.args.k c.args.v) ∙ sym c.pair_place.ensures ∙ none_of c.pair_place.result (sym c.is_some.ensures ∙ c.if-is_some.false)

pub invariant_of-self-else-is_err : goal.invariant_of-self-else-is_err
invariant_of-self-else-is_err g c =
    let m = c.self.inside in
    let k = c.args.k in
    let v = c.args.v in
    let put = on_ok_of c.put_pair.result (sym c.is_err.ensures.value ∙ c.if-is_err.false) c.put_pair.ensures.ok in
    let none = sym (c.self.invariant.found k v) ∙ sym c.pair_place.ensures ∙ none_of c.pair_place.result (sym c.is_some.ensures ∙ c.if-is_some.false) in
    record {
      linked = subst (λ rows. AreLinked rows c.add_key.new.keys) (sym put.2)
          (record {
            keyed = keyed_with m.pairs (keys_of m.keys) (keys_of c.add_key.new.keys) put.0 k v c.self.invariant.linked.keyed c.in_ok-added.ensures.keys c.in_ok-added.ensures.distinct;
            pairs = pairs_with m.pairs put.0 k v c.self.invariant.linked.pairs none;
          });
      found = c.put_pair.ensures.found;
    }
