use Rattle.std.proofs.Common.{◌≡◌, ◌+◌, ◌≤◌, Some, None, length, ap, sym, ◌∙◌, slice_get, arith, add-one}
use Rattle.graph_base.specs.Edges.{incident}
use Rattle.graph_base.specs.Nexts.{end_from}
use Rattle.graph_base.proofs.NextLemmas.{first_from, none_from, end_of_all, found_at, passed_on}
use Rattle.graph_base.proofs.next_nodes.next_from.Goals as goal

pub loop-step-init : goal.loop-step-init
loop-step-init c = λ k e.
    let at_node = incident c.args.a.now c.args.edges.now.edges in
    let leads = end_from c.args.edges.now.directed c.args.turned c.args.a.now in
    let here : k + 0 ≡ k = omega arith in
    (ap (λ n. slice_get at_node n) here ∙ e, ap (first_from leads at_node) here)

pub returns-in_default : goal.returns-in_default
returns-in_default c = λ k e.
    let at_node = incident c.args.a.now c.args.edges.now.edges in
    let leads = end_from c.args.edges.now.directed c.args.turned c.args.a.now in
    let i = c.loop-step.invariant k e in
    sym (none_from leads at_node (k + c.loop-step._step) (i.0 ∙ c.in_default.is)) ∙ i.1

pub returns-in-Some-end_from : goal.returns-in-Some-end_from
returns-in-Some-end_from c = λ k e.
    let at_node = incident c.args.a.now c.args.edges.now.edges in
    let leads = end_from c.args.edges.now.directed c.args.turned c.args.a.now in
    let i = c.loop-step.invariant k e in
    let there : leads c.in-Some.e ≡ Some c.in-Some-end_from.b = ap (λ d. end_from d c.args.turned c.args.a.now c.in-Some.e) (sym c.directed-directed.ensures) ∙ sym c.end_from.ensures ∙ c.in-Some-end_from.is in
    sym (found_at leads at_node (k + c.loop-step._step) c.in-Some.e c.in-Some-end_from.b (i.0 ∙ c.in-Some.is) there) ∙ i.1

pub after_at-at-requires : goal.after_at-at-requires
after_at-at-requires c = let i = c.loop-step.invariant c.requires.0 c.requires.1 in (c.requires.0 + c.loop-step._step, i.0 ∙ c.in-Some.is)

pub loop-step-preserved : goal.loop-step-preserved
loop-step-preserved c = λ k e.
    let at_node = incident c.args.a.now c.args.edges.now.edges in
    let leads = end_from c.args.edges.now.directed c.args.turned c.args.a.now in
    let i = c.loop-step.invariant k e in
    let n = k + c.loop-step._step in
    let here = i.0 ∙ c.in-Some.is in
    let nowhere : leads c.in-Some.e ≡ None = ap (λ d. end_from d c.args.turned c.args.a.now c.in-Some.e) (sym c.directed-directed.ensures) ∙ sym c.end_from.ensures ∙ c.in_default-end_from.is in
    let next : k + (c.loop-step._step + 1) ≡ n + 1 = omega arith in
    (ap (λ m. slice_get at_node m) next ∙ sym (c.after_at-at.ensures n here), ap (first_from leads at_node) (next ∙ add-one n) ∙ passed_on leads at_node n c.in-Some.e here nowhere ∙ i.1)

pub returns : goal.returns
returns c = λ k e.
    let at_node = incident c.args.a.now c.args.edges.now.edges in
    let leads = end_from c.args.edges.now.directed c.args.turned c.args.a.now in
    let i = c.loop-step.invariant k e in
    let count = c.count_at-step-end.ensures in
    let end : length at_node ≤ k + c.loop-step._step = omega arith in
    sym (end_of_all leads at_node (k + c.loop-step._step) end) ∙ i.1
