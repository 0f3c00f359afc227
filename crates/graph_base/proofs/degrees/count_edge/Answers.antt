use Rattle.std.proofs.Common.{◌+◌, [], refl, sym, ◌∙◌, subst, append-nil}
use Rattle.elem.specs.Keyed.{value_at}
use Rattle.graph_base.specs.Counted.{AreCounted}
use Rattle.graph_base.proofs.CountedLemmas.{counted_more}
use Rattle.graph_base.proofs.degrees.count_edge.Goals as goal

pub returns-clause-counted : goal.returns-clause-counted
returns-clause-counted c edges v h =
    let d = c.unwrap-before.result in
    let y = c.unwrap-between.result in
    counted_more edges c.args.from.now c.args.to.now v [] (value_at c.args.nodes.now) (value_at c.write_degrees.new.nodes) (value_at c.write_degrees-2.new.nodes) d (record { leaving = d.leaving + 1; entering = d.entering }) y (record { leaving = y.leaving; entering = y.entering + 1 })
    (sym c.probe.ensures ∙ c.unwrap-before.ensures) c.write_degrees.ensures.found (sym c.probe-2.ensures ∙ c.unwrap-between.ensures) c.write_degrees-2.ensures.found refl refl refl refl (subst (AreCounted (value_at c.args.nodes.now)) (sym (append-nil edges)) h) c.requires.from
    c.requires.to
