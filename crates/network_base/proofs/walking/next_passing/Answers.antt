use Rattle.std.proofs.Common.{refl, sym, ◌∙◌, ◌+◌, ◌≤◌, length, arith}
use Rattle.network_base.specs.Shown.{around, passes}
use Rattle.network_base.proofs.Passing.{walk_over, walk_end, walk_found, walk_passed}
use Rattle.network_base.proofs.NextPassing.{after_here, none_here, fails_here, place_here, start_here}
use Rattle.network_base.proofs.walking.next_passing.Goals as goal

pub returns-in_err-from : goal.returns-in_err-from
returns-in_err-from c = c.from_residual.ensures ∙ sym (none_here c.args.directed c.args.edges.now c.args.step.now c.args.x.now (sym c.ends.ensures ∙ c.in_err-from.was))

pub returns-then-not-passes : goal.returns-then-not-passes
returns-then-not-passes c = sym (fails_here c.args.directed c.args.edges.now c.args.step.now c.args.x.now c.len-len.ensures.distinct (c.in_ok-from.from, c.in_ok-from.to) (sym c.ends.ensures ∙ c.in_ok-from.was) (sym c.passes.ensures ∙ c.if-not-passes.true))

pub after_around-at-requires : goal.after_around-at-requires
after_around-at-requires c = place_here c.args.directed c.args.edges.now c.args.step.now c.args.x.now c.len-len.ensures.distinct (c.in_ok-from.from, c.in_ok-from.to) (sym c.ends.ensures ∙ c.in_ok-from.was) (sym c.passes.ensures ∙ c.if-not-passes.false) c.centre-centre.result c.centre-centre.ensures

pub loop-step-init : goal.loop-step-init
loop-step-init c =
    let place = place_here c.args.directed c.args.edges.now c.args.step.now c.args.x.now c.len-len.ensures.distinct (c.in_ok-from.from, c.in_ok-from.to) (sym c.ends.ensures ∙ c.in_ok-from.was) (sym c.passes.ensures ∙ c.if-not-passes.false) c.centre-centre.result c.centre-centre.ensures in
    start_here c.args.directed c.args.edges.now c.args.step.now c.args.x.now c.len-len.ensures.distinct (c.in_ok-from.from, c.in_ok-from.to) (sym c.ends.ensures ∙ c.in_ok-from.was) (sym c.passes.ensures ∙ c.if-not-passes.false) c.centre-centre.result c.centre-centre.ensures c.after_around-at.result (c.after_around-at.ensures place.0 place.1)

pub returns-in_default : goal.returns-in_default
returns-in_default c = walk_over (passes c.args.directed c.args.edges.now c.args.step.now) (around c.centre-centre.result c.args.edges.now) (after_here c.args.directed c.args.edges.now c.args.step.now c.args.x.now) c.loop-step.invariant.number c.loop-step.at 0 c.loop-step.invariant.walking c.in_default.is

pub returns-then-passes : goal.returns-then-passes
returns-then-passes c = walk_found (passes c.args.directed c.args.edges.now c.args.step.now) (around c.centre-centre.result c.args.edges.now) (after_here c.args.directed c.args.edges.now c.args.step.now c.args.x.now) c.loop-step.invariant.number c.loop-step.at 0 c.loop-step.invariant.walking c.in-Some.e c.in-Some.is (sym c.passes-in-loop-step.ensures ∙ c.if-passes.true) refl

pub loop-step-preserved : goal.loop-step-preserved
loop-step-preserved c =
    let here = sym c.loop-step.invariant.walking.here ∙ c.in-Some.is in
    let far = c.loop-step.invariant.far in
    record {
      number = c.loop-step.invariant.number + 1;
      far = omega arith;
      walking = walk_passed (passes c.args.directed c.args.edges.now c.args.step.now) (around c.centre-centre.result c.args.edges.now) (after_here c.args.directed c.args.edges.now c.args.step.now c.args.x.now) c.loop-step.invariant.number c.loop-step.at 0 c.loop-step.invariant.walking c.in-Some.e c.in-Some.is (sym c.passes-in-loop-step.ensures ∙ c.if-passes.false) c.after_around-at-in-loop-step.result (c.after_around-at-in-loop-step.ensures c.loop-step.invariant.number here);
    }

pub returns : goal.returns
returns c =
    let far = c.loop-step.invariant.far in
    let count = c.count_around-step-end.ensures in
    let end : length (around c.centre-centre.result c.args.edges.now) ≤ c.loop-step.invariant.number = omega arith in
    walk_end (passes c.args.directed c.args.edges.now c.args.step.now) (around c.centre-centre.result c.args.edges.now) (after_here c.args.directed c.args.edges.now c.args.step.now c.args.x.now) c.loop-step.invariant.number c.loop-step.at 0 c.loop-step.invariant.walking end
