use Rattle.std.proofs.Common.{None, refl, sym, ap, ◌∙◌, arith, length, ◌≤◌}
use Rattle.std.specs.Option.{option_map}
use Rattle.linked_base.specs.Thread.{head_or}
use Rattle.linked_base.specs.Group.{has}
use Rattle.linked_base.proofs.NthLemmas.{head_nth, nth_next, nth_there}
use Rattle.mm_base.specs.declared.pair_nodes.PairNode.{PairNode}
use Rattle.mm_base.specs.PairNodes.{key_links, value_at}
use Rattle.mm_base.proofs.PairRowsLemmas.{find_next, find_here, find_end}
use Rattle.mm_base.proofs.pair_nodes.find_value.Goals as goal

pub loop-step-init : goal.loop-step-init
loop-step-init c ps h = (h.thread.first ∙ head_nth ps, refl)

pub loop-step-preserved : goal.loop-step-preserved
loop-step-preserved c ps h =
    let kept = c.loop-step.invariant ps h in
    let read = sym c.in-Some-get.ensures in
    let fails = ap (λ o. has c.args.v.now (option_map (λ (n : PairNode). n.value) o)) read ∙ sym c.same.ensures.test ∙ c.if-same.false in (
      nth_next key_links c.args.nodes.now c.args.group.now.ends ps h.thread c.loop-step._step c.in-Some.place c.loop-step.at kept.0 c.in-Some.is c.in-Some-get.node.now c.in-Some-get.node.now.of_key read refl,
      kept.1 ∙ find_next (λ p. has c.args.v.now (value_at c.args.nodes.now p)) ps c.loop-step._step c.in-Some.place (sym kept.0 ∙ c.in-Some.is) fails,
    )

pub returns-in_default-get : goal.returns-in_default-get
returns-in_default-get c ps h =
    absurd (nth_there key_links c.args.nodes.now c.args.group.now.ends ps h.thread c.loop-step._step c.in-Some.place c.loop-step.at (c.loop-step.invariant ps h).0 c.in-Some.is (sym c.in_default-get.ensures))

pub returns-then-same : goal.returns-then-same
returns-then-same c ps h =
    let kept = c.loop-step.invariant ps h in
    let read = sym c.in-Some-get.ensures in
    let passes = ap (λ o. has c.args.v.now (option_map (λ (n : PairNode). n.value) o)) read ∙ sym c.same.ensures.test ∙ c.if-same.true in
    sym (ap (head_or None) kept.1 ∙ find_here (λ p. has c.args.v.now (value_at c.args.nodes.now p)) ps c.loop-step._step c.in-Some.place (sym kept.0 ∙ c.in-Some.is) passes)

pub returns : goal.returns
returns c ps h =
    let kept = c.loop-step.invariant ps h in
    let count = h.count in
    let done : length ps ≤ c.loop-step._step = omega arith in
    sym (ap (head_or None) (kept.1 ∙ find_end (λ p. has c.args.v.now (value_at c.args.nodes.now p)) ps c.loop-step._step done))
