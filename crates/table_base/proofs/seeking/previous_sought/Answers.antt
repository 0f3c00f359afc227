use Rattle.std.proofs.Common.{◌≤◌, length, sym, ap, ◌∙◌, arith}
use Rattle.linked_base.proofs.Walks.{back_start, back_next, back_here, back_none, back_end}
use Rattle.table_base.specs.CellNodes.{all_links}
use Rattle.table_base.specs.Seeking.{passes_at, node_passes}
use Rattle.table_base.proofs.ThreadReads.{previous_back, there_back}
use Rattle.table_base.proofs.seeking.previous_sought.Goals as goal

pub loop-step-init : goal.loop-step-init
loop-step-init c us vs all e t few = back_start (passes_at c.args.sought.now c.args.nodes.now) us c.args.from e

pub loop-step-preserved : goal.loop-step-preserved
loop-step-preserved c us vs all e t few =
    let w = c.loop-step.invariant us vs all e t few in
    let test = passes_at c.args.sought.now c.args.nodes.now in
    let found = sym c.in-Some-get.ensures in
    let fails = ap (node_passes c.args.sought.now) found ∙ sym c.passes.ensures ∙ c.if-passes.false in
    let next = previous_back all_links c.args.nodes.now all us vs t test c.loop-step.at c.loop-step._step c.in-Some.place c.in-Some.is w c.in-Some-get.node.now found in
    back_next test us c.loop-step.at c.loop-step._step w c.in-Some.place c.in-Some.is fails c.in-Some-get.node.now.all.previous next

pub returns-clause-found : goal.returns-clause-found
returns-clause-found c us vs all e t few =
    let w = c.loop-step.invariant us vs all e t few in
    let len = c.len-step-end.ensures in
    let done : length us ≤ c.loop-step._step = omega arith in
    sym (back_end (passes_at c.args.sought.now c.args.nodes.now) us c.loop-step.at c.loop-step._step w done)

pub returns-in_default-clause-found : goal.returns-in_default-clause-found
returns-in_default-clause-found c us vs all e t few = sym (back_none (passes_at c.args.sought.now c.args.nodes.now) us c.loop-step.at c.loop-step._step (c.loop-step.invariant us vs all e t few) c.in_default.is)

pub returns-in_default-get-clause-found : goal.returns-in_default-get-clause-found
returns-in_default-get-clause-found c us vs all e t few =
    absurd (there_back all_links c.args.nodes.now all us vs t (passes_at c.args.sought.now c.args.nodes.now) c.loop-step.at c.loop-step._step c.in-Some.place c.in-Some.is (c.loop-step.invariant us vs all e t few) (sym c.in_default-get.ensures))

pub returns-then-passes-clause-found : goal.returns-then-passes-clause-found
returns-then-passes-clause-found c us vs all e t few =
    let passes = ap (node_passes c.args.sought.now) (sym c.in-Some-get.ensures) ∙ sym c.passes.ensures ∙ c.if-passes.true in
    sym (back_here (passes_at c.args.sought.now c.args.nodes.now) us c.loop-step.at c.loop-step._step (c.loop-step.invariant us vs all e t few) c.in-Some.place c.in-Some.is passes)
