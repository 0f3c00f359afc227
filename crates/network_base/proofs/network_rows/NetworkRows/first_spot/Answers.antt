use Rattle.std.proofs.Common.{Some, None, sym, ap, ◌∙◌, slice_get}
use Rattle.network_base.specs.Shown.{spots}
use Rattle.network_base.proofs.SpotLemmas.{first_node_spot, first_edge_spot}
use Rattle.network_base.proofs.network_rows.NetworkRows.first_spot.Goals as goal

pub returns-in_err-a : goal.returns-in_err-a
returns-in_err-a c =
    let m = c.self.inside in
    c.from_residual.ensures ∙ sym (first_node_spot m.nodes m.edges m.directed m.loops c.args.step.now (sym c.gives_nodes.ensures ∙ c.if-gives_nodes.true) None (sym c.first.ensures ∙ c.in_err-a.was)) ∙ ap (λ x. slice_get (spots c.args.step.now x) 0) c.self.view_is

pub returns-then-gives_nodes : goal.returns-then-gives_nodes
returns-then-gives_nodes c =
    let m = c.self.inside in
    ap Some c.node_spot.ensures ∙ sym (first_node_spot m.nodes m.edges m.directed m.loops c.args.step.now (sym c.gives_nodes.ensures ∙ c.if-gives_nodes.true) (Some c.in_ok-a.a) (sym c.first.ensures ∙ c.in_ok-a.was)) ∙ ap (λ x. slice_get (spots c.args.step.now x) 0) c.self.view_is

pub returns-in_err-e : goal.returns-in_err-e
returns-in_err-e c =
    let m = c.self.inside in
    c.from_residual-in_err-e.ensures ∙ sym (first_edge_spot m.nodes m.edges m.directed m.loops c.args.step.now (sym c.gives_nodes.ensures ∙ c.if-gives_nodes.false) None (sym c.nth_edge.ensures ∙ c.in_err-e.was)) ∙ ap (λ x. slice_get (spots c.args.step.now x) 0) c.self.view_is

pub returns : goal.returns
returns c =
    let m = c.self.inside in
    ap Some c.edge_spot.ensures ∙ sym (first_edge_spot m.nodes m.edges m.directed m.loops c.args.step.now (sym c.gives_nodes.ensures ∙ c.if-gives_nodes.false) (Some c.in_ok-e.e) (sym c.nth_edge.ensures ∙ c.in_ok-e.was)) ∙ ap (λ x. slice_get (spots c.args.step.now x) 0) c.self.view_is
