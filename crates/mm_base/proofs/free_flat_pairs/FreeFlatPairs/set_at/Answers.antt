use Rattle.std.proofs.Common.{Some, sym, ap, ◌∙◌, subst}
use Rattle.std.specs.Prelude.{IsSome}
use Rattle.mm_base.specs.PairRows.{pair_at, with_pair}
use Rattle.mm_base.proofs.PairRowsLemmas.{its_row, nth_is_live, nth_pair, id_some}
use Rattle.mm_base.proofs.free_flat_pairs.FreeFlatPairs.set_at.Goals as goal

pub unwrap-place-requires : goal.unwrap-place-requires
unwrap-place-requires c = subst IsSome (sym c.place_at.ensures.place) (id_some c.args.k c.args.self.now c.args.i c.requires)

pub write-requires : goal.write-requires
write-requires c = nth_is_live c.args.k c.args.self.now c.args.i c.unwrap-place.result (sym c.place_at.ensures.place ∙ c.unwrap-place.ensures)

pub returns-clause-value : goal.returns-clause-value
returns-clause-value c =
    let e = sym c.place_at.ensures.place ∙ c.unwrap-place.ensures in
    let r = its_row c.args.k c.args.self.now c.args.i c.unwrap-place.result e in
    let pair = nth_pair c.args.k c.args.self.now c.args.i c.unwrap-place.result e c.place_at.ensures.distinct in
    ap (λ o. pair_at o c.args.self.now) e ∙ pair ∙ ap (λ w. Some (c.args.k, w)) (sym (c.write.ensures.value c.args.k r.0.1.1 pair))

pub returns-clause-rows : goal.returns-clause-rows
returns-clause-rows c =
    let e = sym c.place_at.ensures.place ∙ c.unwrap-place.ensures in
    let r = its_row c.args.k c.args.self.now c.args.i c.unwrap-place.result e in
    let pair = nth_pair c.args.k c.args.self.now c.args.i c.unwrap-place.result e c.place_at.ensures.distinct in
    c.write.ensures.rows c.args.k r.0.1.1 pair ∙ ap (λ o. with_pair o (c.args.k, c.args.v) c.args.self.now) (sym e)
