use Rattle.std.proofs.Common.{◌+◌, sym, ap, ◌∙◌, add-one}
use Rattle.graph_base.specs.Edges.{incident}
use Rattle.graph_base.specs.Nexts.{end_from, behind}
use Rattle.graph_base.proofs.NextLemmas.{nexts_incident, edge_before, not_next, first_from}
use Rattle.graph_base.proofs.next_nodes.next_after.Goals as goal

pub returns-in_err-e : goal.returns-in_err-e
returns-in_err-e c =
    let edges = c.args.edges.now in
    c.from_residual.ensures ∙ sym (not_next edges.directed c.args.turned c.args.a.now c.args.b.now edges.edges (sym c.edge_to.ensures ∙ c.in_err-e.was))

pub after_at-next-requires : goal.after_at-next-requires
after_at-next-requires c =
    let edges = c.args.edges.now in
    let found = edge_before edges.directed c.args.turned c.args.a.now c.args.b.now edges.edges c.in_ok-e.e (sym c.edge_to.ensures ∙ c.in_ok-e.was) in
    (found.0, found.1)

pub next_from-requires : goal.next_from-requires
next_from-requires c =
    let edges = c.args.edges.now in
    let found = edge_before edges.directed c.args.turned c.args.a.now c.args.b.now edges.edges c.in_ok-e.e (sym c.edge_to.ensures ∙ c.in_ok-e.was) in
    (found.0 + 1, sym (c.after_at-next.ensures found.0 found.1))

pub returns : goal.returns
returns c =
    let edges = c.args.edges.now in
    let a = c.args.a.now in
    let b = c.args.b.now in
    let found = edge_before edges.directed c.args.turned a b edges.edges c.in_ok-e.e (sym c.edge_to.ensures ∙ c.in_ok-e.was) in
    c.next_from.ensures (found.0 + 1) (sym (c.after_at-next.ensures found.0 found.1))
    ∙ ap (first_from (end_from edges.directed c.args.turned a) (incident a edges.edges)) (add-one found.0)
    ∙ sym found.2
    ∙ ap (behind b) (nexts_incident edges.directed c.args.turned a edges.edges)
