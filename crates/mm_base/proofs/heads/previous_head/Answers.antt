use Rattle.std.proofs.Common.{◌≤◌, length, sym, ap, ◌∙◌, arith, length-append}
use Rattle.mm_base.specs.PairNodes.{is_head, starts_key}
use Rattle.linked_base.proofs.Walks.{back_start, back_next, back_here, back_none, back_end}
use Rattle.linked_base.proofs.HeadLemmas.{none_is}
use Rattle.mm_base.proofs.HeldKeys.{previous_back, there_back}
use Rattle.mm_base.proofs.heads.previous_head.Goals as goal

pub loop-step-init : goal.loop-step-init
loop-step-init c us vs all find h e = back_start (is_head c.args.nodes.now) us c.args.from e

pub loop-step-preserved : goal.loop-step-preserved
loop-step-preserved c us vs all find h e =
    let w = c.loop-step.invariant us vs all find h e in
    let test = is_head c.args.nodes.now in
    let found = sym c.in-Some-get.ensures in
    let fails = ap starts_key found ∙ none_is c.in-Some-get.node.now.of_key.previous c.is_none.result c.is_none.ensures ∙ c.if-is_none.false in
    let next = previous_back c.args.nodes.now all find us vs h test c.loop-step.at c.loop-step._step c.in-Some.place c.in-Some.is w c.in-Some-get.node.now found in
    back_next test us c.loop-step.at c.loop-step._step w c.in-Some.place c.in-Some.is fails c.in-Some-get.node.now.all.previous next

pub returns-clause-head : goal.returns-clause-head
returns-clause-head c us vs all find h e =
    let w = c.loop-step.invariant us vs all find h e in
    let count = h.count in
    let len = c.len-step-end.ensures in
    let both = length-append us vs in
    let done : length us ≤ c.loop-step._step = omega arith in
    sym (back_end (is_head c.args.nodes.now) us c.loop-step.at c.loop-step._step w done)

pub returns-in_default-clause-head : goal.returns-in_default-clause-head
returns-in_default-clause-head c us vs all find h e = sym (back_none (is_head c.args.nodes.now) us c.loop-step.at c.loop-step._step (c.loop-step.invariant us vs all find h e) c.in_default.is)

pub returns-in_default-get-clause-head : goal.returns-in_default-get-clause-head
returns-in_default-get-clause-head c us vs all find h e =
    absurd (there_back c.args.nodes.now all find us vs h (is_head c.args.nodes.now) c.loop-step.at c.loop-step._step c.in-Some.place c.in-Some.is (c.loop-step.invariant us vs all find h e) (sym c.in_default-get.ensures))

pub returns-then-is_none-clause-head : goal.returns-then-is_none-clause-head
returns-then-is_none-clause-head c us vs all find h e =
    let passes = ap starts_key (sym c.in-Some-get.ensures) ∙ none_is c.in-Some-get.node.now.of_key.previous c.is_none.result c.is_none.ensures ∙ c.if-is_none.true in
    sym (back_here (is_head c.args.nodes.now) us c.loop-step.at c.loop-step._step (c.loop-step.invariant us vs all find h e) c.in-Some.place c.in-Some.is passes)
