use Rattle.std.specs.List.{filter}
use Rattle.std.proofs.Common.{sym, ◌∙◌, slice_get, ◌+◌, subst}
use Rattle.network_base.specs.Shown.{around, passes}
use Rattle.network_base.proofs.Passing.{IsWalking, counted_down, walk_found, walk_passed, walk_counted}
use Rattle.network_base.proofs.walking.nth_passing.Goals as goal
use Rattle.network_base.proofs.walking.nth_passing.Goals.{then-passes+else-left-eq0, else-passes}

pub returns-then-left-eq0 : goal.returns-then-left-eq0
returns-then-left-eq0 c =
    walk_found (passes c.args.directed c.args.edges.now c.args.step.now) (around c.args.centre.now c.args.edges.now) (slice_get (filter (passes c.args.directed c.args.edges.now c.args.step.now) (around c.args.centre.now c.args.edges.now)) c.args.i) c.loop-step._step c.loop-step.at c.loop-step.left c.loop-step.invariant c.in-Some.e c.in-Some.is (sym c.passes.ensures ∙ c.if-passes.true) c.if-left-eq0.true

pub loop-step-preserved : goal.loop-step-preserved
loop-step-preserved c =
    let here = sym c.loop-step.invariant.here ∙ c.in-Some.is in
    elim c.if-passes.branch [
      | then-passes+else-left-eq0 w ↦
          (let some = w.if-left-eq0.false in
          let less = w.left-is in
          walk_counted (passes c.args.directed c.args.edges.now c.args.step.now) (around c.args.centre.now c.args.edges.now) (slice_get (filter (passes c.args.directed c.args.edges.now c.args.step.now) (around c.args.centre.now c.args.edges.now)) c.args.i) c.loop-step._step c.loop-step.at c.loop-step.left c.loop-step.invariant c.in-Some.e c.in-Some.is (sym c.passes.ensures ∙ w.if-passes.true) c.if-passes.left (counted_down c.loop-step.left c.if-passes.left some less) c.after_around-at.result (c.after_around-at.ensures c.loop-step._step here))
      | else-passes w ↦ (subst (λ m. IsWalking (passes c.args.directed c.args.edges.now c.args.step.now) (around c.args.centre.now c.args.edges.now) (slice_get (filter (passes c.args.directed c.args.edges.now c.args.step.now) (around c.args.centre.now c.args.edges.now)) c.args.i) (c.loop-step._step + 1) c.after_around-at.result m) (sym w.left-is) (walk_passed (passes c.args.directed c.args.edges.now c.args.step.now) (around c.args.centre.now c.args.edges.now) (slice_get (filter (passes c.args.directed c.args.edges.now c.args.step.now) (around c.args.centre.now c.args.edges.now)) c.args.i) c.loop-step._step c.loop-step.at c.loop-step.left c.loop-step.invariant c.in-Some.e c.in-Some.is (sym c.passes.ensures ∙ w.if-passes.false) c.after_around-at.result (c.after_around-at.ensures c.loop-step._step here)))
    ]
