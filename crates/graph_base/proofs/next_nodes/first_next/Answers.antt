use Rattle.std.proofs.Common.{sym, ap, ◌∙◌, slice_get}
use Rattle.graph_base.proofs.NextLemmas.{nexts_incident}
use Rattle.graph_base.proofs.next_nodes.first_next.Goals as goal

pub returns : goal.returns
returns c =
    let edges = c.args.edges.now in
    c.next_from.ensures 0 (sym c.incident_at-first.ensures) ∙ ap (λ xs. slice_get xs 0) (nexts_incident edges.directed c.args.turned c.args.a.now edges.edges)
