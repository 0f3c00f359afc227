use Rattle.std.proofs.Common.{◌≤◌, length, None, sym, ap, ◌∙◌, arith}
use Rattle.linked_base.specs.Thread.{head_or}
use Rattle.linked_base.proofs.Walks.{on_start, on_next, on_here, on_none, on_end, back_start, back_next, back_here, back_none}
use Rattle.table_base.specs.declared.seeking.Sought.TheVariants.{OfColumn}
use Rattle.table_base.specs.CellNodes.{all_links}
use Rattle.table_base.specs.Seeking.{passes_at, node_passes}
use Rattle.table_base.proofs.SideReads.{passing_column}
use Rattle.table_base.proofs.ThreadReads.{next_on, there_on, previous_back, there_back}
use Rattle.table_base.proofs.ColumnPlaces.{first_behind, next_behind}
use Rattle.table_base.proofs.seeking.next_of_column.Goals as goal

pub loop-step-init : goal.loop-step-init
loop-step-init c us vs all e f t few =
    let test = passes_at (OfColumn c.args.c.now) c.args.nodes.now in
    (on_start test vs c.args.from e, back_start test us c.args.before f)

pub loop-step-preserved : goal.loop-step-preserved
loop-step-preserved c us vs all e f t few =
    let w = c.loop-step.invariant us vs all e f t few in
    let nodes = c.args.nodes.now in
    let sought = OfColumn c.args.c.now in
    let test = passes_at sought nodes in
    let later = sym c.in-Some-get.ensures in
    let earlier = sym c.in-Some-get-2.ensures in
    let fails = ap (node_passes sought) later ∙ sym c.passes.ensures ∙ c.if-passes.false in
    let fails_too = ap (node_passes sought) earlier ∙ sym c.passes-in-loop-step.ensures ∙ c.if-passes-2.false in
    let next = next_on all_links nodes all us vs t test c.loop-step.ahead c.loop-step._step c.in-Some.next c.in-Some.is w.0 c.in-Some-get.later.now later in
    let previous = previous_back all_links nodes all us vs t test c.loop-step.behind c.loop-step._step c.in-Some-behind.previous c.in-Some-behind.is w.1 c.in-Some-get-2.earlier.now earlier in (
      on_next test vs c.loop-step.ahead c.loop-step._step w.0 c.in-Some.next c.in-Some.is fails c.in-Some-get.later.now.all.next next,
      back_next test us c.loop-step.behind c.loop-step._step w.1 c.in-Some-behind.previous c.in-Some-behind.is fails_too c.in-Some-get-2.earlier.now.all.previous previous,
    )

pub returns : goal.returns
returns c us vs all e f t few g =
    let nodes = c.args.nodes.now in
    let w = c.loop-step.invariant us vs all e f t few in
    let len = c.len-step-end.ensures in
    let done : length vs ≤ c.loop-step._step = omega arith in
    sym (on_end (passes_at (OfColumn c.args.c.now) nodes) vs c.loop-step.ahead c.loop-step._step w.0 done) ∙ ap (head_or None) (passing_column nodes c.args.c.now vs)

pub returns-in_default : goal.returns-in_default
returns-in_default c us vs all e f t few g =
    let nodes = c.args.nodes.now in
    let w = c.loop-step.invariant us vs all e f t few in
    sym (on_none (passes_at (OfColumn c.args.c.now) nodes) vs c.loop-step.ahead c.loop-step._step w.0 c.in_default.is) ∙ ap (head_or None) (passing_column nodes c.args.c.now vs)

pub returns-in_default-get : goal.returns-in_default-get
returns-in_default-get c us vs all e f t few g =
    let nodes = c.args.nodes.now in
    let w = c.loop-step.invariant us vs all e f t few in
    absurd (there_on all_links nodes all us vs t (passes_at (OfColumn c.args.c.now) nodes) c.loop-step.ahead c.loop-step._step c.in-Some.next c.in-Some.is w.0 (sym c.in_default-get.ensures))

pub returns-then-passes : goal.returns-then-passes
returns-then-passes c us vs all e f t few g =
    let nodes = c.args.nodes.now in
    let sought = OfColumn c.args.c.now in
    let w = c.loop-step.invariant us vs all e f t few in
    let passes = ap (node_passes sought) (sym c.in-Some-get.ensures) ∙ sym c.passes.ensures ∙ c.if-passes.true in
    sym (on_here (passes_at sought nodes) vs c.loop-step.ahead c.loop-step._step w.0 c.in-Some.next c.in-Some.is passes) ∙ ap (head_or None) (passing_column nodes c.args.c.now vs)

pub returns-in_default-behind : goal.returns-in_default-behind
returns-in_default-behind c us vs all e f t few g =
    let nodes = c.args.nodes.now in
    let w = c.loop-step.invariant us vs all e f t few in
    first_behind nodes c.args.in_column.now c.args.c.now us vs g (back_none (passes_at (OfColumn c.args.c.now) nodes) us c.loop-step.behind c.loop-step._step w.1 c.in_default-behind.is)

pub returns-in_default-get-2 : goal.returns-in_default-get-2
returns-in_default-get-2 c us vs all e f t few g =
    let nodes = c.args.nodes.now in
    let w = c.loop-step.invariant us vs all e f t few in
    absurd (there_back all_links nodes all us vs t (passes_at (OfColumn c.args.c.now) nodes) c.loop-step.behind c.loop-step._step c.in-Some-behind.previous c.in-Some-behind.is w.1 (sym c.in_default-get-2.ensures))

pub returns-then-passes-2 : goal.returns-then-passes-2
returns-then-passes-2 c us vs all e f t few g =
    let nodes = c.args.nodes.now in
    let sought = OfColumn c.args.c.now in
    let w = c.loop-step.invariant us vs all e f t few in
    let passes = ap (node_passes sought) (sym c.in-Some-get-2.ensures) ∙ sym c.passes-in-loop-step.ensures ∙ c.if-passes-2.true in
    next_behind nodes c.args.in_column.now c.args.c.now us vs g c.in-Some-behind.previous (back_here (passes_at sought nodes) us c.loop-step.behind c.loop-step._step w.1 c.in-Some-behind.previous c.in-Some-behind.is passes) c.in-Some-get-2.earlier.now (sym c.in-Some-get-2.ensures)
