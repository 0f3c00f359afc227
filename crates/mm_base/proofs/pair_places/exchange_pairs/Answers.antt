use Rattle.std.proofs.Common.{map, sym, ap, ◌∙◌, subst, arith}
use Rattle.mm_base.specs.PairRows.{count_of, without_key}
use Rattle.mm_base.specs.KeyedRows.{HasDistinctPairs}
use Rattle.mm_base.specs.KeyValues.{key_value}
use Rattle.mm_base.proofs.Results.{on_ok_of}
use Rattle.mm_base.proofs.ExchangingLemmas.{none_of_key, all_pairs, all_values, exchanged_pairs}
use Rattle.mm_base.proofs.FoundPairs.{exchanged_count}
use Rattle.mm_base.proofs.pair_places.exchange_pairs.Goals as goal

pub name_pairs-requires : goal.name_pairs-requires
name_pairs-requires c =
    let k = c.args.k.now in
    let old = c.args.pairs.now in
    let h = on_ok_of c.append.result (sym c.is_err-2.ensures.value ∙ c.if-is_err-2.false) c.append.ensures.ok in
    let rows = c.remove_first_pairs.ensures.rows old h.0 h.1 c.count_of-count.ensures in
    let count = ap (count_of k) rows ∙ exchanged_count k c.args.values.now old h.0 h.2 in
    let room = on_ok_of c.reserve.result (sym c.is_err.ensures.value ∙ c.if-is_err.false) c.reserve.ensures.ok in
    let kept = c.remove_first_pairs.ensures.room in
    omega arith

pub returns-clause-found : goal.returns-clause-found
returns-clause-found c =
    let k = c.args.k.now in
    let old = c.args.pairs.now in
    let h = on_ok_of c.append.result (sym c.is_err-2.ensures.value ∙ c.if-is_err-2.false) c.append.ensures.ok in
    let rows = c.remove_first_pairs.ensures.rows old h.0 h.1 c.count_of-count.ensures in
    let once = c.requires.once in
    let distinct = subst HasDistinctPairs (sym rows) (exchanged_pairs k once.0 old h.0 (h.2 ∙ ap (map (λ v. (k, v))) once.1) c.requires.distinct) in
    let all = all_pairs k h.0 (all_values k c.args.values.now h.0 h.2) in
    c.name_pairs.ensures (without_key k old) h.0 rows (none_of_key k old) all distinct (c.remove_first_pairs.ensures.found old h.0 h.1 c.count_of-count.ensures c.requires.distinct (λ x y. c.reserve.ensures.entries.2 (key_value x y) ∙ c.requires.found x y))
