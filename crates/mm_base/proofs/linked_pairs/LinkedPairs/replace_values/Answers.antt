use Rattle.std.proofs.Common.{map, sym, ap, ◌∙◌, subst}
use Rattle.mm_base.specs.KeyedRows.{KeyedRows, has_key, with_key, keys_with_rows, HasDistinctPairs}
use Rattle.mm_base.proofs.Results.{on_ok_of}
use Rattle.mm_base.proofs.ExchangingLemmas.{exchanged_pairs, exchanged_others, exchanged_keys, exchanged_linked}
use Rattle.mm_base.proofs.linked_pairs.LinkedPairs.replace_values.Goals as goal

pub invariant_of-self-2 : goal.invariant_of-self-2
invariant_of-self-2 g c =
    let m = c.self.inside in
    let k = c.args.k in
    let vs = c.args.vs.now in
    let new = c.exchange_pairs.new.pairs in
    let done = on_ok_of c.exchange_pairs.result (sym c.is_err.ensures.value ∙ c.if-is_err.false) c.exchange_pairs.ensures.ok in
    let values = done.2 ∙ ap (map (λ v. (k, v))) (c.deref.ensures.value ∙ c.in_ok-values.ensures) in
    let pairs = subst HasDistinctPairs (sym done.1) (exchanged_pairs k vs m.pairs done.0 values c.self.invariant.linked.pairs) in
    record { linked = exchanged_linked m.pairs new k m.keys c.add_key.new.keys c.settle_key.new.keys c.self.invariant.linked (λ x f. ap (λ rs. has_key rs x) done.1 ∙ exchanged_others k vs m.pairs done.0 values x f) c.in_ok-added.ensures.keys c.in_ok-added.ensures.distinct c.settle_key.ensures.rows pairs c.settle_key.ensures.distinct; found = c.exchange_pairs.ensures.found }

pub returns-clause-keys : goal.returns-clause-keys
returns-clause-keys g c =
    let m = c.self.inside in
    let k = c.args.k in
    let vs = c.args.vs.now in
    let new = c.exchange_pairs.new.pairs in
    let done = on_ok_of c.exchange_pairs.result (sym c.is_err.ensures.value ∙ c.if-is_err.false) c.exchange_pairs.ensures.ok in
    let values = done.2 ∙ ap (map (λ v. (k, v))) (c.deref.ensures.value ∙ c.in_ok-values.ensures) in
    exchanged_keys m.pairs new k m.keys c.add_key.new.keys c.settle_key.new.keys c.self.invariant.linked (λ x f. ap (λ rs. has_key rs x) done.1 ∙ exchanged_others k vs m.pairs done.0 values x f) c.in_ok-added.ensures.keys c.in_ok-added.ensures.distinct c.settle_key.ensures.rows
    ∙ ap (λ (x : KeyedRows). keys_with_rows new (with_key k x.keys)) c.self.view_is
