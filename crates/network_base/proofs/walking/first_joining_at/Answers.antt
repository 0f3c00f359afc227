use Rattle.std.specs.List.{filter}
use Rattle.std.proofs.Common.{sym, ap, ◌∙◌, slice_get, length, arith, ◌≤◌, refl}
use Rattle.graph_base.specs.Edges.{joins, incident}
use Rattle.network_base.proofs.Passing.{walk_over, walk_end, walk_found, walk_passed}
use Rattle.network_base.proofs.Centres.{joining_around}
use Rattle.network_base.proofs.walking.first_joining_at.Goals as goal

pub returns-in_default : goal.returns-in_default
returns-in_default c =
    let a = c.args.a.now in
    let b = c.args.b.now in
    walk_over (joins c.args.directed a b) (incident c.args.end.now c.args.edges.now) (slice_get (filter (joins c.args.directed a b) (incident c.args.end.now c.args.edges.now)) 0) c.loop-step._step c.loop-step.at 0 c.loop-step.invariant c.in_default.is
    ∙ ap (λ es. slice_get es 0) (joining_around c.args.directed c.args.edges.now a b c.args.end.now c.requires)

pub returns-then-are_joined : goal.returns-then-are_joined
returns-then-are_joined c =
    let a = c.args.a.now in
    let b = c.args.b.now in
    walk_found (joins c.args.directed a b) (incident c.args.end.now c.args.edges.now) (slice_get (filter (joins c.args.directed a b) (incident c.args.end.now c.args.edges.now)) 0) c.loop-step._step c.loop-step.at 0 c.loop-step.invariant c.in-Some.e c.in-Some.is (sym (c.are_joined.ensures c.in-Some.e.2) ∙ c.if-are_joined.true) refl
    ∙ ap (λ es. slice_get es 0) (joining_around c.args.directed c.args.edges.now a b c.args.end.now c.requires)

pub loop-step-preserved : goal.loop-step-preserved
loop-step-preserved c =
    let here = sym c.loop-step.invariant.here ∙ c.in-Some.is in
    walk_passed (joins c.args.directed c.args.a.now c.args.b.now) (incident c.args.end.now c.args.edges.now) (slice_get (filter (joins c.args.directed c.args.a.now c.args.b.now) (incident c.args.end.now c.args.edges.now)) 0) c.loop-step._step c.loop-step.at 0 c.loop-step.invariant c.in-Some.e c.in-Some.is (sym (c.are_joined.ensures c.in-Some.e.2) ∙ c.if-are_joined.false) c.after_at-at.result
    (c.after_at-at.ensures c.loop-step._step here)

pub returns : goal.returns
returns c =
    let a = c.args.a.now in
    let b = c.args.b.now in
    let count = c.count_at-step-end.ensures in
    let end : length (incident c.args.end.now c.args.edges.now) ≤ c.loop-step._step = omega arith in
    walk_end (joins c.args.directed a b) (incident c.args.end.now c.args.edges.now) (slice_get (filter (joins c.args.directed a b) (incident c.args.end.now c.args.edges.now)) 0) c.loop-step._step c.loop-step.at 0 c.loop-step.invariant end
    ∙ ap (λ es. slice_get es 0) (joining_around c.args.directed c.args.edges.now a b c.args.end.now c.requires)
