use Rattle.std.proofs.Common.{◌≡◌, ◌+◌, true, false, ◌||◌, length, [], ◌∷◌, refl, ap, sym, ◌∙◌, subst, arith}
use Rattle.std.proofs.lemmas.Bool.{both_ways}
use Rattle.elem.specs.Elements.{same}
use Rattle.graph_walk.specs.Graphs.{is_in, nexts}
use Rattle.graph_walk.specs.Places.{left_at, IsAmong}
use Rattle.graph_walk.proofs.NextsLemmas.{nexts_distinct}
use Rattle.graph_walk.proofs.TurnLemmas.{left-after, left_on, fewer_left, still_among, all_left, begins_among, none_left}
use Rattle.graph_walk.proofs.LateLemmas.{closed_by, closed_now, closed_later, closed_skip, does_close, is_closed}
use Rattle.graph_walk.proofs.cycles.closes.Goals as goal
use Rattle.graph_walk.proofs.cycles.closes.Goals.{then-one_is_late-via-then-one_is_late, then-one_is_late-via-else-one_is_late+then-same, then-not-has+else-one_is_late+else-same, else-not-has}

pub loop-next-init : goal.loop-next-init
loop-next-init g c =
    let all = nexts (g.W.Walkable.graph c.args.g.now) c.args.x.now in
    let whole = all_left all c.first_next-next.result c.first_next-next.ensures.answer in record {
      among = begins_among all c.first_next-next.result c.first_next-next.ensures.answer;
      closed = ap (closed_by c.args.directed c.args.before.now c.args.x.now) whole;
      steps = ap (λ ys. c.first_next-next.new.steps + length ys) whole;
    }

pub returns-then-one_is_late-clause-closes : goal.returns-then-one_is_late-clause-closes
returns-then-one_is_late-clause-closes g c =
    let graph = g.W.Walkable.graph c.args.g.now in
    let x = c.args.x.now in
    let y = c.in-Some.y in
    let all = nexts graph x in
    let distinct = nexts_distinct graph c.directed-directed.ensures.valid x in
    let there = subst (λ o. IsAmong o all) c.in-Some.is c.loop-next.invariant.among in
    let turned = ap (λ o. left_at o all) c.in-Some.is ∙ left-after y all distinct there in
    let t : (c.loop-next.one_is_late || same x y) ≡ true = elim c.then-one_is_late.branch [ then-one_is_late-via-then-one_is_late w ↦ ap (λ b. b || same x y) w.if-one_is_late.true | then-one_is_late-via-else-one_is_late+then-same w ↦ ap (λ b. b || same x y) w.if-one_is_late.false ∙ sym w.same.ensures.test ∙ w.if-same.true ] in
    let o : is_in y c.args.before.now ≡ false = sym c.has.ensures ∙ c.if-not-has.true in
    let closed : closed_by c.args.directed c.args.before.now x all ≡ true = sym c.loop-next.invariant.closed ∙ ap (closed_by c.loop-next.one_is_late c.args.before.now x) turned ∙ closed_now c.loop-next.one_is_late c.args.before.now x y _ o t in
    (λ k. does_close (nexts graph) c.args.before.now x c.args.directed distinct closed, λ k. refl)

pub loop-next-smaller : goal.loop-next-smaller
loop-next-smaller g c =
    let graph = g.W.Walkable.graph c.args.g.now in
    let all = nexts graph c.args.x.now in
    let fewer = fewer_left all (nexts_distinct graph c.directed-directed.ensures.valid c.args.x.now) c.loop-next.next c.next_after-next.result c.in-Some.y c.in-Some.is c.loop-next.invariant.among c.next_after-next.ensures.answer in
    omega arith

pub loop-next-preserved : goal.loop-next-preserved
loop-next-preserved g c =
    let graph = g.W.Walkable.graph c.args.g.now in
    let x = c.args.x.now in
    let y = c.in-Some.y in
    let before = c.args.before.now in
    let all = nexts graph x in
    let left = left_on all (nexts_distinct graph c.directed-directed.ensures.valid x) c.loop-next.next c.next_after-next.result y c.in-Some.is c.loop-next.invariant.among c.next_after-next.ensures.answer in
    let fewer = fewer_left all (nexts_distinct graph c.directed-directed.ensures.valid x) c.loop-next.next c.next_after-next.result y c.in-Some.is c.loop-next.invariant.among c.next_after-next.ensures.answer in
    let rest = left_at c.next_after-next.result all in
    let step : closed_by c.loop-next.one_is_late before x (y ∷ rest) ≡ closed_by c.if-not-has.one_is_late before x rest = elim c.if-not-has.branch [
      | then-not-has+else-one_is_late+else-same w ↦ closed_later c.loop-next.one_is_late before x y rest (sym c.has.ensures ∙ w.if-not-has.true) w.if-one_is_late.false (sym w.same.ensures.test ∙ w.if-same.false) ∙ ap (λ b. closed_by b before x rest) (sym w.one_is_late-is)
      | else-not-has w ↦ closed_skip c.loop-next.one_is_late before x y rest (sym c.has.ensures ∙ w.if-not-has.false) ∙ ap (λ b. closed_by b before x rest) (sym w.one_is_late-is)
    ] in record {
      among = still_among all (nexts_distinct graph c.directed-directed.ensures.valid x) c.loop-next.next c.next_after-next.result y c.in-Some.is c.loop-next.invariant.among c.next_after-next.ensures.answer;
      closed = sym step ∙ sym (ap (closed_by c.loop-next.one_is_late before x) left) ∙ c.loop-next.invariant.closed;
      steps = omega arith;
    }

pub returns-clause-closes : goal.returns-clause-closes
returns-clause-closes g c =
    let graph = g.W.Walkable.graph c.args.g.now in
    let all = nexts graph c.args.x.now in
    let none : left_at c.loop-next.next all ≡ [] = none_left c.loop-next.next all c.in_default.not-Some in
    let closed : closed_by c.args.directed c.args.before.now c.args.x.now all ≡ false = sym c.loop-next.invariant.closed ∙ ap (closed_by c.loop-next.one_is_late c.args.before.now c.args.x.now) none in
    (λ k. absurd (both_ways _ refl k), λ k. absurd (both_ways _ closed (is_closed (nexts graph) c.args.before.now c.args.x.now c.args.directed k)))
