use Rattle.std.proofs.Common.{◌-◌, refl, sym, ◌∙◌, subst, arith}
use Rattle.std.specs.Prelude.{IsSome}
use Rattle.elem.specs.Keyed.{value_at}
use Rattle.graph_base.proofs.CountedLemmas.{counted_less, ends_there, leaves_some, enters_between, there}
use Rattle.graph_base.proofs.degrees.uncount_edge.Goals as goal

pub unwrap-before-requires : goal.unwrap-before-requires
unwrap-before-requires c =
    let r = c.requires in
    subst IsSome (sym c.probe.ensures) (ends_there r.0 c.args.from.now c.args.to.now r.1 r.2 (value_at c.args.nodes.now) r.3).0

pub overflow_sub-before : goal.overflow_sub-before
overflow_sub-before c =
    let r = c.requires in
    let some = leaves_some r.0 c.args.from.now c.args.to.now r.1 r.2 (value_at c.args.nodes.now) r.3 c.unwrap-before.result (sym c.probe.ensures ∙ c.unwrap-before.ensures) in
    omega arith

pub unwrap-between-requires : goal.unwrap-between-requires
unwrap-between-requires c =
    let r = c.requires in
    let d = c.unwrap-before.result in
    subst IsSome (sym c.probe-2.ensures)
    (there (value_at c.args.nodes.now) (value_at c.write_degrees.new.nodes) c.args.from.now (record { leaving = d.leaving - 1; entering = d.entering }) c.write_degrees.ensures.found c.args.to.now (ends_there r.0 c.args.from.now c.args.to.now r.1 r.2 (value_at c.args.nodes.now) r.3).1)

pub overflow_sub-between : goal.overflow_sub-between
overflow_sub-between c =
    let r = c.requires in
    let d = c.unwrap-before.result in
    let some = enters_between r.0 c.args.from.now c.args.to.now r.1 r.2 (value_at c.args.nodes.now) (value_at c.write_degrees.new.nodes) d (record { leaving = d.leaving - 1; entering = d.entering }) (sym c.probe.ensures ∙ c.unwrap-before.ensures) c.write_degrees.ensures.found refl refl r.3 c.unwrap-between.result
    (sym c.probe-2.ensures ∙ c.unwrap-between.ensures) in
    omega arith

pub returns-clause-counted : goal.returns-clause-counted
returns-clause-counted c us v vs h =
    let d = c.unwrap-before.result in
    let y = c.unwrap-between.result in
    counted_less us c.args.from.now c.args.to.now v vs (value_at c.args.nodes.now) (value_at c.write_degrees.new.nodes) (value_at c.write_degrees-2.new.nodes) d (record { leaving = d.leaving - 1; entering = d.entering }) y (record { leaving = y.leaving; entering = y.entering - 1 })
    (sym c.probe.ensures ∙ c.unwrap-before.ensures) c.write_degrees.ensures.found (sym c.probe-2.ensures ∙ c.unwrap-between.ensures) c.write_degrees-2.ensures.found refl refl refl refl h
