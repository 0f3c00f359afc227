use Rattle.std.proofs.Common.{sym, ap, ◌∙◌, subst}
use Rattle.mm_base.specs.KeyedRows.{KeyedRows, keys_with_rows}
use Rattle.mm_base.proofs.KeyedRowsLemmas.{IsLess, less_keys, less_linked, less_id, live_index}
use Rattle.mm_base.proofs.linked_pairs.LinkedPairs.remove_id.Goals as goal

pub invariant_of-self : goal.invariant_of-self
invariant_of-self g c =
    let m = c.self.inside in
    let k = c.pair_at-key.result.0 in
    let i = live_index k c.pair_at-key.result.1 m.pairs c.place_of-place.result c.pair_at-key.ensures.pair in
    let less = subst (IsLess k m.pairs) (sym c.remove_place.ensures.rows) (less_id k m.pairs i.0 c.place_of-place.result i.1 c.pair_at-key.ensures.distinct) in
    record { linked = less_linked m.pairs c.remove_place.new.pairs k m.keys c.settle_key.new.keys less c.self.invariant.linked c.settle_key.ensures.rows c.settle_key.ensures.distinct; found = c.remove_place.ensures.found }

pub returns-clause-keys : goal.returns-clause-keys
returns-clause-keys g c =
    let m = c.self.inside in
    let k = c.pair_at-key.result.0 in
    let i = live_index k c.pair_at-key.result.1 m.pairs c.place_of-place.result c.pair_at-key.ensures.pair in
    let less = subst (IsLess k m.pairs) (sym c.remove_place.ensures.rows) (less_id k m.pairs i.0 c.place_of-place.result i.1 c.pair_at-key.ensures.distinct) in
    less_keys m.pairs c.remove_place.new.pairs k m.keys c.settle_key.new.keys less c.self.invariant.linked c.settle_key.ensures.rows ∙ ap (λ (x : KeyedRows). keys_with_rows c.remove_place.new.pairs x.keys) c.self.view_is
