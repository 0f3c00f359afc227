use Rattle.std.proofs.Common.{◌≤◌, ◌+◌, sym, ◌∙◌, subst, length, drop, arith, slice_get}
use Rattle.std.specs.List.{filter}
use Rattle.network_base.specs.Beside.{is_beside}
use Rattle.network_base.proofs.Passing.{counted_down}
use Rattle.network_base.proofs.Merged.{IsMerged, merged_begin, merged_end, merged_first, merged_second, merged_over, merged_found, merged_place_first, merged_place_second, merged_counted, merged_passed}
use Rattle.network_base.proofs.beside.nth_merged.Goals as goal
use Rattle.network_base.proofs.beside.nth_merged.Goals.{then-not-same+else-left-eq0, else-not-same}

pub loop-step-init : goal.loop-step-init
loop-step-init c k f s = merged_begin c.args.edges.now c.args.x.now c.args.ends.now.0 c.args.ends.now.1 c.requires.ends k c.args.first.now c.args.second.now c.args.i f s

pub earlier-requires-clause-first : goal.earlier-requires-clause-first
earlier-requires-clause-first c e h =
    let b = c.requires.begun in
    merged_first c.args.edges.now c.args.x.now c.args.ends.now.0 c.args.ends.now.1 c.requires.ends (slice_get (filter (is_beside c.args.edges.now c.args.x.now) (drop b.0 c.args.edges.now)) c.args.i) c.loop-step._step c.loop-step.at_first c.loop-step.at_second c.loop-step.left (c.loop-step.invariant b.0 b.1 b.2) e h

pub earlier-requires-clause-second : goal.earlier-requires-clause-second
earlier-requires-clause-second c e h =
    let b = c.requires.begun in
    merged_second c.args.edges.now c.args.x.now c.args.ends.now.0 c.args.ends.now.1 c.requires.ends (slice_get (filter (is_beside c.args.edges.now c.args.x.now) (drop b.0 c.args.edges.now)) c.args.i) c.loop-step._step c.loop-step.at_first c.loop-step.at_second c.loop-step.left (c.loop-step.invariant b.0 b.1 b.2) e h

pub returns-in_default : goal.returns-in_default
returns-in_default c k f s = merged_over c.args.edges.now c.args.x.now c.args.ends.now.0 c.args.ends.now.1 c.requires.ends (slice_get (filter (is_beside c.args.edges.now c.args.x.now) (drop k c.args.edges.now)) c.args.i) c.loop-step._step c.loop-step.at_first c.loop-step.at_second c.loop-step.left (c.loop-step.invariant k f s) c.in_ok-found.found c.in_ok-found.ensures c.in_default.is

pub returns-then-left-eq0 : goal.returns-then-left-eq0
returns-then-left-eq0 c k f s = merged_found c.args.edges.now c.args.x.now c.args.ends.now.0 c.args.ends.now.1 c.requires.ends (slice_get (filter (is_beside c.args.edges.now c.args.x.now) (drop k c.args.edges.now)) c.args.i) c.loop-step._step c.loop-step.at_first c.loop-step.at_second c.loop-step.left (c.loop-step.invariant k f s) c.in_ok-found.found c.in_ok-found.ensures c.in-Some.e c.in-Some.is (sym c.same.ensures.test ∙ c.if-not-same.true) c.if-left-eq0.true

pub advance-at_first-requires : goal.advance-at_first-requires
advance-at_first-requires c t =
    let b = c.requires.begun in
    merged_place_first c.args.edges.now c.args.x.now c.args.ends.now.0 c.args.ends.now.1 c.requires.ends (slice_get (filter (is_beside c.args.edges.now c.args.x.now) (drop b.0 c.args.edges.now)) c.args.i) c.loop-step._step c.loop-step.at_first c.loop-step.at_second c.loop-step.left (c.loop-step.invariant b.0 b.1 b.2) c.in_ok-found.found c.in_ok-found.ensures c.in-Some.e c.in-Some.is t

pub advance-at_second-requires : goal.advance-at_second-requires
advance-at_second-requires c t =
    let b = c.requires.begun in
    merged_place_second c.args.edges.now c.args.x.now c.args.ends.now.0 c.args.ends.now.1 c.requires.ends (slice_get (filter (is_beside c.args.edges.now c.args.x.now) (drop b.0 c.args.edges.now)) c.args.i) c.loop-step._step c.loop-step.at_first c.loop-step.at_second c.loop-step.left (c.loop-step.invariant b.0 b.1 b.2) c.in_ok-found.found c.in_ok-found.ensures c.in-Some.e c.in-Some.is t

pub loop-step-preserved : goal.loop-step-preserved
loop-step-preserved c k f s =
    let target = slice_get (filter (is_beside c.args.edges.now c.args.x.now) (drop k c.args.edges.now)) c.args.i in
    elim c.if-not-same.branch [
      | then-not-same+else-left-eq0 w ↦ (merged_counted c.args.edges.now c.args.x.now c.args.ends.now.0 c.args.ends.now.1 c.requires.ends target c.loop-step._step c.loop-step.at_first c.loop-step.at_second c.loop-step.left (c.loop-step.invariant k f s) c.in_ok-found.found c.in_ok-found.ensures c.in-Some.e c.in-Some.is c.advance-at_first.result c.advance-at_second.result c.advance-at_first.ensures c.advance-at_second.ensures (sym c.same.ensures.test ∙ w.if-not-same.true) c.if-not-same.left (counted_down c.loop-step.left c.if-not-same.left w.if-left-eq0.false w.left-is))
      | else-not-same w ↦ (subst (λ m. IsMerged c.args.edges.now c.args.x.now c.args.ends.now.0 c.args.ends.now.1 c.requires.ends target (c.loop-step._step + 1) c.advance-at_first.result c.advance-at_second.result m) (sym w.left-is) (merged_passed c.args.edges.now c.args.x.now c.args.ends.now.0 c.args.ends.now.1 c.requires.ends target c.loop-step._step c.loop-step.at_first c.loop-step.at_second c.loop-step.left (c.loop-step.invariant k f s) c.in_ok-found.found c.in_ok-found.ensures c.in-Some.e c.in-Some.is c.advance-at_first.result c.advance-at_second.result c.advance-at_first.ensures c.advance-at_second.ensures (sym c.same.ensures.test ∙ w.if-not-same.false)))
    ]

pub returns : goal.returns
returns c k f s =
    let count = c.len-step-end.ensures.len in
    let end : length c.args.edges.now ≤ c.loop-step._step = omega arith in
    merged_end c.args.edges.now c.args.x.now c.args.ends.now.0 c.args.ends.now.1 c.requires.ends (slice_get (filter (is_beside c.args.edges.now c.args.x.now) (drop k c.args.edges.now)) c.args.i) c.loop-step._step c.loop-step.at_first c.loop-step.at_second c.loop-step.left (c.loop-step.invariant k f s) end
