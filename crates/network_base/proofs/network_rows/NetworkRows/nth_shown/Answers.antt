use Rattle.std.proofs.Common.{Some, None, sym, ap, ◌∙◌, slice_get}
use Rattle.network_base.specs.Shown.{shown}
use Rattle.network_base.proofs.ShownLemmas.{node_shown, edge_shown}
use Rattle.network_base.proofs.network_rows.NetworkRows.nth_shown.Goals as goal

pub returns-then-gives_nodes : goal.returns-then-gives_nodes
returns-then-gives_nodes c =
    let m = c.self.inside in
    sym (node_shown m.nodes m.edges m.directed m.loops c.args.step.now c.args.i (sym c.gives_nodes.ensures ∙ c.if-gives_nodes.true) (c.in_ok-a.a, c.in_ok-a._degrees) (sym c.row_at.ensures ∙ c.in_ok-a.was)) ∙ ap (λ x. slice_get (shown c.args.step.now x) c.args.i) c.self.view_is

pub returns-in_err-e : goal.returns-in_err-e
returns-in_err-e c =
    let m = c.self.inside in
    let found = sym c.nth_edge.ensures ∙ c.in_err-e.was in
    c.from_residual-in_err-e.ensures ∙ sym (edge_shown m.nodes m.edges m.directed m.loops c.args.step.now c.args.i (sym c.gives_nodes.ensures ∙ c.if-gives_nodes.false) None found) ∙ ap (λ x. slice_get (shown c.args.step.now x) c.args.i) c.self.view_is

pub returns : goal.returns
returns c =
    let m = c.self.inside in
    let found = sym c.nth_edge.ensures ∙ c.in_ok-e.was in
    ap Some c.item.ensures ∙ sym (edge_shown m.nodes m.edges m.directed m.loops c.args.step.now c.args.i (sym c.gives_nodes.ensures ∙ c.if-gives_nodes.false) (Some c.in_ok-e.e) found) ∙ ap (λ x. slice_get (shown c.args.step.now x) c.args.i) c.self.view_is
