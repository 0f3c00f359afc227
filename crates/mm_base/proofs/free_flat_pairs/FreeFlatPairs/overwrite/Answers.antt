use Rattle.std.proofs.Common.{◌+◌, drop, sym, ◌∙◌, subst}
use Rattle.mm_base.proofs.PairRowsLemmas.{first_id_of}
use Rattle.mm_base.proofs.ReplacingLemmas.{IsWriting, writing_starts, wrote, its_pair, its_split, values_ended, rows_ended, drop_value, drop_all, next_is_live}
use Rattle.mm_base.proofs.free_flat_pairs.FreeFlatPairs.overwrite.Goals as goal

pub loop-v-init : goal.loop-v-init
loop-v-init c = writing_starts c.args.k.now c.args.vs.now c.args.self.now c.place_at-at.result (c.place_at-at.ensures.place ∙ first_id_of c.args.k.now c.args.self.now)

pub next_in_key-at-requires : goal.next_in_key-at-requires
next_in_key-at-requires c =
    let h = c.loop-v.invariant in
    next_is_live c.args.k.now h.front h.back c.loop-v.self c.loop-v.at c.in-Some.place h.cut h.start c.in-Some.is

pub write-requires : goal.write-requires
write-requires c =
    let h = c.loop-v.invariant in
    next_is_live c.args.k.now h.front h.back c.loop-v.self c.loop-v.at c.in-Some.place h.cut h.start c.in-Some.is

pub loop-v-preserved : goal.loop-v-preserved
loop-v-preserved c =
    let k = c.args.k.now in
    let vs = c.args.vs.now in
    let i = c.loop-v.v-index in
    let v = c.v-item.result in
    let p = c.in-Some.place in
    let rest = drop_value vs i v c.loop-v-test.true c.v-item.is in
    let h = subst (λ ws. IsWriting k vs ws c.args.self.now c.loop-v.self c.loop-v.at) rest c.loop-v.invariant in
    let d = c.next_in_key-at.ensures.distinct in
    let pair = its_pair k c.loop-v.self h.front h.back c.loop-v.at p h.cut h.start c.in-Some.is d in
    let s = its_split k c.loop-v.self h.front h.back c.loop-v.at p h.cut h.start c.in-Some.is in
    subst (λ rs. IsWriting k vs (drop (i + 1) vs) c.args.self.now rs c.next_in_key-at.result) (sym (c.write.ensures.rows k s.1 pair))
    (wrote k vs v (drop (i + 1) vs) c.args.self.now c.loop-v.self c.loop-v.at p h c.in-Some.is d c.next_in_key-at.result c.next_in_key-at.ensures.place)

pub returns : goal.returns
returns c = values_ended c.args.k.now c.args.vs.now c.args.self.now c.loop-v.self c.loop-v.at (drop c.loop-v.v-index c.args.vs.now) (drop_all c.args.vs.now c.loop-v.v-index c.loop-v-test.false) c.loop-v.invariant

pub returns-in_default : goal.returns-in_default
returns-in_default c = rows_ended c.args.k.now c.args.vs.now c.args.self.now c.loop-v.self c.loop-v.at (drop c.loop-v.v-index c.args.vs.now) c.in_default.is c.loop-v.invariant
