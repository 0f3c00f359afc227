use Rattle.std.proofs.Common.{◌≡◌, [], length, take, map, ◌+◌, refl, sym, ap, ◌∙◌, append-nil, arith}
use Rattle.std.proofs.lemmas.List.{length-take}
use Rattle.mm_base.proofs.Results.{on_err_of, on_ok_of}
use Rattle.mm_base.proofs.ReplacingLemmas.{appended_one, take_value, take_all, length_added}
use Rattle.mm_base.proofs.free_flat_pairs.FreeFlatPairs.append.Goals as goal

pub loop-placed-init : goal.loop-placed-init
loop-placed-init c = ([], sym (append-nil c.args.self.now), refl)

pub loop-placed-preserved : goal.loop-placed-preserved
loop-placed-preserved c =
    let put = on_ok_of c.link.result (sym c.is_err.ensures.value ∙ c.if-is_err.false) c.link.ensures.ok in
    let i = c.loop-placed.placed in
    let v = c.index-vs-placed.result in
    let vs = c.args.vs.now in
    appended_one c.args.k.now v (take i vs) (take (i + 1) vs) c.args.self.now c.loop-placed.self c.link.new.self c.loop-placed.invariant put (take_value vs i v c.loop-placed-test.true c.index-vs-placed.is)

pub returns-then-is_err-clause-err : goal.returns-then-is_err-clause-err
returns-then-is_err-clause-err c =
    let same_rows = on_err_of c.link.result (sym c.is_err.ensures.value ∙ c.if-is_err.true) c.link.ensures.err in
    let h = c.loop-placed.invariant in
    let bound = c.loop-placed-test.true in
    let both = length-take c.loop-placed.placed c.args.vs.now in
    let whole = length_added c.args.k.now (take c.loop-placed.placed c.args.vs.now) h.0 h.2 in
    let count : length h.0 ≡ c.loop-placed.placed = omega arith in
    c.remove_last.ensures c.args.self.now h.0 (same_rows ∙ h.1) count

pub returns-clause-ok : goal.returns-clause-ok
returns-clause-ok c =
    let h = c.loop-placed.invariant in
    (h.0, h.1, h.2 ∙ ap (λ l. map (λ v. (c.args.k.now, v)) l) (take_all c.args.vs.now c.loop-placed.placed c.loop-placed-test.false))
