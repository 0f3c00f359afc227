use Rattle.std.proofs.Common.{◌≡◌, ◌++◌, take, ◌+◌, refl, sym, ◌∙◌, subst, arith}
use Rattle.std.proofs.lemmas.List.{length-take}
use Rattle.mm_base.specs.PairRows.{count_of}
use Rattle.mm_base.specs.Exchanging.{IsPlaced}
use Rattle.mm_base.proofs.Results.{on_err_of, on_ok_of}
use Rattle.mm_base.proofs.ReplacingLemmas.{take_value, take_all, length_added}
use Rattle.mm_base.proofs.ExchangingLemmas.{placing_starts, placed_live, placed_in_key, placed_one, placed_count, placed_back, placed_whole}
use Rattle.mm_base.proofs.free_flat_pairs.FreeFlatPairs.place_all.Goals as goal

pub loop-placed-init : goal.loop-placed-init
loop-placed-init c = placing_starts c.args.k.now c.args.next c.args.self.now c.requires.0 c.requires.1 (take 0 c.args.vs.now) refl c.requires.2

pub loop-placed-preserved : goal.loop-placed-preserved
loop-placed-preserved c =
    let put = on_ok_of c.link.result (sym c.is_err.ensures.value ∙ c.if-is_err.false) c.link.ensures.ok in
    let i = c.loop-placed.placed in
    let v = c.index-vs-placed.result in
    let vs = c.args.vs.now in
    placed_one c.args.k.now c.args.next (take i vs) c.args.self.now c.loop-placed.self c.loop-placed.invariant v (take (i + 1) vs) c.link.new.self c.len-len.ensures.distinct put (take_value vs i v c.loop-placed-test.true c.index-vs-placed.is)

pub link-requires-clause-next : goal.link-requires-clause-next
link-requires-clause-next c q e = placed_live c.args.k.now c.args.next (take c.loop-placed.placed c.args.vs.now) c.args.self.now c.loop-placed.self c.loop-placed.invariant q e

pub link-requires-clause-in_key : goal.link-requires-clause-in_key
link-requires-clause-in_key c = placed_in_key c.args.k.now c.args.next (take c.loop-placed.placed c.args.vs.now) c.args.self.now c.loop-placed.self c.loop-placed.invariant c.len-len.ensures.distinct

pub returns-then-is_err-clause-err : goal.returns-then-is_err-clause-err
returns-then-is_err-clause-err c =
    let same_rows = on_err_of c.link.result (sym c.is_err.ensures.value ∙ c.if-is_err.true) c.link.ensures.err in
    let k = c.args.k.now in
    let next = c.args.next in
    let vs = take c.loop-placed.placed c.args.vs.now in
    let old = c.args.self.now in
    let now = c.loop-placed.self in
    let h = c.loop-placed.invariant in
    let bound = c.loop-placed-test.true in
    let both = length-take c.loop-placed.placed c.args.vs.now in
    let total = length_added k vs h.added h.values in
    let own = placed_count k next vs old now h in
    let count : c.loop-placed.placed ≡ count_of k (h.front ++ h.added) = omega arith in
    placed_back k next vs old now h c.remove_first.new.self (c.remove_first.ensures (h.front ++ h.added) h.back (same_rows ∙ placed_whole k next vs old now h) count)

pub returns-clause-ok : goal.returns-clause-ok
returns-clause-ok c = subst (λ vs. IsPlaced c.args.k.now vs c.args.next c.args.self.now c.loop-placed.self) (take_all c.args.vs.now c.loop-placed.placed c.loop-placed-test.false) c.loop-placed.invariant
