use Rattle.std.proofs.Common.{sym, ap, ◌∙◌, slice_get}
use Rattle.std.specs.List.{filter}
use Rattle.network_base.specs.Shown.{passes, around}
use Rattle.network_base.proofs.Centres.{all_around}
use Rattle.network_base.proofs.beside.nth_edge.Goals as goal

pub returns-in-AdjacentEdges : goal.returns-in-AdjacentEdges
returns-in-AdjacentEdges c = c.nth_beside.ensures ∙ ap (λ s. slice_get (filter (passes c.args.directed c.args.edges.now s) c.args.edges.now) c.args.i) (sym c.in-AdjacentEdges.is)

pub returns-in_default : goal.returns-in_default
returns-in_default c =
    c.nth_passing.ensures ∙ ap (λ o. slice_get (filter (passes c.args.directed c.args.edges.now c.args.step.now) (around o c.args.edges.now)) c.args.i) c.centre.ensures ∙ ap (λ l. slice_get l c.args.i) (all_around c.args.directed c.args.edges.now c.args.step.now)
