use Rattle.std.proofs.Common.{refl, sym, ap, ◌∙◌, ◌+◌, ◌≤◌, length, arith, None}
use Rattle.std.specs.List.{filter}
use Rattle.network_base.specs.declared.net_steps.NetStep.TheVariants.{AdjacentEdges}
use Rattle.network_base.specs.Shown.{passes, edge_after}
use Rattle.network_base.proofs.Merged.{none_beside}
use Rattle.network_base.proofs.Passing.{walk_over, walk_end, walk_found, walk_passed}
use Rattle.network_base.proofs.NextPassing.{none_here, fails_here, place_here, first_here, start_here}
use Rattle.network_base.proofs.after_beside.next_beside.Goals as goal

pub returns-in_err-from : goal.returns-in_err-from
returns-in_err-from c = c.from_residual.ensures ∙ sym (none_here c.args.directed c.args.edges.now (AdjacentEdges c.args.x.now) c.args.spot.now (sym c.ends.ensures ∙ c.in_err-from.was))

pub returns-in_err-ends : goal.returns-in_err-ends
returns-in_err-ends c = c.from_residual-in_err-ends.ensures ∙ sym (ap (edge_after c.args.spot.now) (none_beside c.args.edges.now c.args.edges.now c.args.x.now (sym c.ends-2.ensures ∙ c.in_err-ends.was)))

pub returns-then-not-passes : goal.returns-then-not-passes
returns-then-not-passes c = sym (fails_here c.args.directed c.args.edges.now (AdjacentEdges c.args.x.now) c.args.spot.now c.len-len.ensures.distinct (c.in_ok-from.from, c.in_ok-from.to) (sym c.ends.ensures ∙ c.in_ok-from.was) (sym c.passes.ensures ∙ c.if-not-passes.true))

pub after-along-requires : goal.after-along-requires
after-along-requires c = place_here c.args.directed c.args.edges.now (AdjacentEdges c.args.x.now) c.args.spot.now c.len-len.ensures.distinct (c.in_ok-from.from, c.in_ok-from.to) (sym c.ends.ensures ∙ c.in_ok-from.was) (sym c.passes.ensures ∙ c.if-not-passes.false) None refl

pub begin-first-requires : goal.begin-first-requires
begin-first-requires c = place_here c.args.directed c.args.edges.now (AdjacentEdges c.args.x.now) c.args.spot.now c.len-len.ensures.distinct (c.in_ok-from.from, c.in_ok-from.to) (sym c.ends.ensures ∙ c.in_ok-from.was) (sym c.passes.ensures ∙ c.if-not-passes.false) None refl

pub begin-second-requires : goal.begin-second-requires
begin-second-requires c = place_here c.args.directed c.args.edges.now (AdjacentEdges c.args.x.now) c.args.spot.now c.len-len.ensures.distinct (c.in_ok-from.from, c.in_ok-from.to) (sym c.ends.ensures ∙ c.in_ok-from.was) (sym c.passes.ensures ∙ c.if-not-passes.false) None refl

pub loop-step-init : goal.loop-step-init
loop-step-init c =
    let place = place_here c.args.directed c.args.edges.now (AdjacentEdges c.args.x.now) c.args.spot.now c.len-len.ensures.distinct (c.in_ok-from.from, c.in_ok-from.to) (sym c.ends.ensures ∙ c.in_ok-from.was) (sym c.passes.ensures ∙ c.if-not-passes.false) None refl in
    (start_here c.args.directed c.args.edges.now (AdjacentEdges c.args.x.now) c.args.spot.now c.len-len.ensures.distinct (c.in_ok-from.from, c.in_ok-from.to) (sym c.ends.ensures ∙ c.in_ok-from.was) (sym c.passes.ensures ∙ c.if-not-passes.false) None refl c.after-along.result (c.after-along.ensures place.0 place.1), c.begin-first.ensures, c.begin-second.ensures)

pub returns-in_default : goal.returns-in_default
returns-in_default c = let m = c.loop-step.invariant.0 in walk_over (passes c.args.directed c.args.edges.now (AdjacentEdges c.args.x.now)) c.args.edges.now (edge_after c.args.spot.now (filter (passes c.args.directed c.args.edges.now (AdjacentEdges c.args.x.now)) c.args.edges.now)) m.number c.loop-step.along 0 m.walking c.in_default.is

pub returns-then-passes : goal.returns-then-passes
returns-then-passes c = let m = c.loop-step.invariant.0 in walk_found (passes c.args.directed c.args.edges.now (AdjacentEdges c.args.x.now)) c.args.edges.now (edge_after c.args.spot.now (filter (passes c.args.directed c.args.edges.now (AdjacentEdges c.args.x.now)) c.args.edges.now)) m.number c.loop-step.along 0 m.walking c.in-Some.e c.in-Some.is (sym c.passes-in-loop-step.ensures ∙ c.if-passes.true) refl

pub merged_behind-requires-clause-ends : goal.merged_behind-requires-clause-ends
merged_behind-requires-clause-ends c = sym c.ends-2.ensures ∙ c.in_ok-ends.was

pub merged_behind-requires-clause-place : goal.merged_behind-requires-clause-place
merged_behind-requires-clause-place c = place_here c.args.directed c.args.edges.now (AdjacentEdges c.args.x.now) c.args.spot.now c.len-len.ensures.distinct (c.in_ok-from.from, c.in_ok-from.to) (sym c.ends.ensures ∙ c.in_ok-from.was) (sym c.passes.ensures ∙ c.if-not-passes.false) None refl

pub merged_behind-requires-clause-first : goal.merged_behind-requires-clause-first
merged_behind-requires-clause-first c = c.loop-step.invariant.1

pub merged_behind-requires-clause-second : goal.merged_behind-requires-clause-second
merged_behind-requires-clause-second c = c.loop-step.invariant.2

pub returns-in-Some-merged_behind : goal.returns-in-Some-merged_behind
returns-in-Some-merged_behind c =
    let place = place_here c.args.directed c.args.edges.now (AdjacentEdges c.args.x.now) c.args.spot.now c.len-len.ensures.distinct (c.in_ok-from.from, c.in_ok-from.to) (sym c.ends.ensures ∙ c.in_ok-from.was) (sym c.passes.ensures ∙ c.if-not-passes.false) None refl in
    c.in-Some-merged_behind.ensures place.0 place.1
    ∙ first_here c.args.directed c.args.edges.now (AdjacentEdges c.args.x.now) c.args.spot.now c.len-len.ensures.distinct (c.in_ok-from.from, c.in_ok-from.to) (sym c.ends.ensures ∙ c.in_ok-from.was) (sym c.passes.ensures ∙ c.if-not-passes.false) None refl

pub after-along-requires-in-loop-step : goal.after-along-requires-in-loop-step
after-along-requires-in-loop-step c = let m = c.loop-step.invariant.0 in (m.number, sym m.walking.here ∙ c.in-Some.is)

pub nearer-first-requires-clause-place : goal.nearer-first-requires-clause-place
nearer-first-requires-clause-place c = place_here c.args.directed c.args.edges.now (AdjacentEdges c.args.x.now) c.args.spot.now c.len-len.ensures.distinct (c.in_ok-from.from, c.in_ok-from.to) (sym c.ends.ensures ∙ c.in_ok-from.was) (sym c.passes.ensures ∙ c.if-not-passes.false) None refl

pub nearer-first-requires-clause-nearing : goal.nearer-first-requires-clause-nearing
nearer-first-requires-clause-nearing c = c.loop-step.invariant.1

pub nearer-second-requires-clause-place : goal.nearer-second-requires-clause-place
nearer-second-requires-clause-place c = place_here c.args.directed c.args.edges.now (AdjacentEdges c.args.x.now) c.args.spot.now c.len-len.ensures.distinct (c.in_ok-from.from, c.in_ok-from.to) (sym c.ends.ensures ∙ c.in_ok-from.was) (sym c.passes.ensures ∙ c.if-not-passes.false) None refl

pub nearer-second-requires-clause-nearing : goal.nearer-second-requires-clause-nearing
nearer-second-requires-clause-nearing c = c.loop-step.invariant.2

pub loop-step-preserved : goal.loop-step-preserved
loop-step-preserved c =
    let m = c.loop-step.invariant.0 in
    let here = sym m.walking.here ∙ c.in-Some.is in
    let far = m.far in (
      record {
        number = m.number + 1;
        far = omega arith;
        walking = walk_passed (passes c.args.directed c.args.edges.now (AdjacentEdges c.args.x.now)) c.args.edges.now (edge_after c.args.spot.now (filter (passes c.args.directed c.args.edges.now (AdjacentEdges c.args.x.now)) c.args.edges.now)) m.number c.loop-step.along 0 m.walking c.in-Some.e c.in-Some.is (sym c.passes-in-loop-step.ensures ∙ c.if-passes.false) c.after-along-in-loop-step.result (c.after-along-in-loop-step.ensures m.number here);
      },
      c.nearer-first.ensures,
      c.nearer-second.ensures,
    )

pub returns : goal.returns
returns c =
    let m = c.loop-step.invariant.0 in
    let far = m.far in
    let count = c.len-step-end.ensures.len in
    let end : length c.args.edges.now ≤ m.number = omega arith in
    walk_end (passes c.args.directed c.args.edges.now (AdjacentEdges c.args.x.now)) c.args.edges.now (edge_after c.args.spot.now (filter (passes c.args.directed c.args.edges.now (AdjacentEdges c.args.x.now)) c.args.edges.now)) m.number c.loop-step.along 0 m.walking end
