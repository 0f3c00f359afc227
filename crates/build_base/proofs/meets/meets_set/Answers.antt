use Rattle.build_base.proofs.MeetLemmas.{free_of_set, either_first, either_second}
use Rattle.build_base.proofs.meets.meets_set.Goals as goal

pub returns-then-before-clause-free : goal.returns-then-before-clause-free
returns-then-before-clause-free c =
    let s = c.args.span.now in
    let a = c.overlaps-before.result in
    let b = c.overlaps-after.result in
    free_of_set s (record { whole = c.requires.whole; lo = c.place-lo.ensures.cut; hi = c.place-hi.ensures.cut; length = c.requires.length }) c.place-lo.result c.place-hi.result c.place-lo.ensures.value c.place-hi.ensures.value a b a (either_first a b c.if-before.true) c.args.rows.now c.len-in_order.ensures.valid.apart c.probe.result c.after.result c.probe.ensures.row c.after.ensures.row c.overlaps-before.ensures c.overlaps-after.ensures

pub returns-else-before-clause-free : goal.returns-else-before-clause-free
returns-else-before-clause-free c =
    let s = c.args.span.now in
    let a = c.overlaps-before.result in
    let b = c.overlaps-after.result in
    free_of_set s (record { whole = c.requires.whole; lo = c.place-lo.ensures.cut; hi = c.place-hi.ensures.cut; length = c.requires.length }) c.place-lo.result c.place-hi.result c.place-lo.ensures.value c.place-hi.ensures.value a b b (either_second a b c.if-before.false) c.args.rows.now c.len-in_order.ensures.valid.apart c.probe.result c.after.result c.probe.ensures.row c.after.ensures.row c.overlaps-before.ensures c.overlaps-after.ensures
