use Rattle.std.proofs.Common.{sym, ap, ◌∙◌}
use Rattle.std.specs.List.{filter}
use Rattle.network_base.specs.Shown.{passes, edge_after}
use Rattle.network_base.proofs.after_beside.next_edge.Goals as goal

pub returns-in-AdjacentEdges : goal.returns-in-AdjacentEdges
returns-in-AdjacentEdges c = c.next_beside.ensures ∙ ap (λ s. edge_after c.args.spot.now (filter (passes c.args.directed c.args.edges.now s) c.args.edges.now)) (sym c.in-AdjacentEdges.is)
