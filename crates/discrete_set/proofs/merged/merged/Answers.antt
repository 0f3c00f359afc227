use Rattle.std.proofs.Common.{rules, ◌+◌, get_or, refl}
use Rattle.discrete_set.specs.declared.run.Run.{Run}
use Rattle.discrete_set.proofs.MergeLaws.{merged_none, merged_first, merged_second}
use Rattle.discrete_set.proofs.merged.merged.Goals as goal

pub loop-i-init : goal.loop-i-init
loop-i-init c = rw c.new-found.ensures.items (merged_none c.args.runs.now c.args.others.now c.requires.runs c.requires.others)

pub loop-i-preserved-then-run-other : goal.loop-i-preserved-then-run-other
loop-i-preserved-then-run-other c =
    let d : Run = record { first = 0; last = 0; before = 0 } in
    merged_first c.args.runs.now c.args.others.now c.loop-i.i c.loop-i.j c.loop-i.found.items c.add_run.new.runs.items c.from.result (c.from-in-loop-i.result + 1) (get_or c.args.runs.now c.loop-i.i d) (get_or c.args.others.now c.loop-i.j d) d c.loop-i.invariant c.loop-i-test.true c.if-j-others.true refl refl c.if-run-other.true (search rules) (search rules)
    c.in_ok-add_run.ensures.counted c.in_ok-add_run.ensures.after c.in_ok-add_run.ensures.units

pub loop-i-preserved : goal.loop-i-preserved
loop-i-preserved c =
    let d : Run = record { first = 0; last = 0; before = 0 } in
    merged_second c.args.runs.now c.args.others.now c.loop-i.i c.loop-i.j c.loop-i.found.items c.add_run.new.runs.items c.from.result (c.from-in-loop-i.result + 1) (get_or c.args.runs.now c.loop-i.i d) (get_or c.args.others.now c.loop-i.j d) d c.loop-i.invariant c.loop-i-test.true c.if-j-others.true refl refl c.if-run-other.false (search rules) (search rules)
    c.in_ok-add_run.ensures.counted c.in_ok-add_run.ensures.after c.in_ok-add_run.ensures.units
