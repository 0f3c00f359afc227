use Rattle.std.proofs.Common.{Some, None, sym, ap, ◌∙◌, not}
use Rattle.std.specs.Prelude.{is_some}
use Rattle.mm_base.proofs.KeyedRowsLemmas.{none_of}
use Rattle.network_base.specs.Shown.{spots, row_after}
use Rattle.network_base.proofs.SpotLemmas.{next_node_spot, no_node_spot, next_edge_spot}
use Rattle.network_base.proofs.network_rows.NetworkRows.spot_after.Goals as goal

pub returns-then-is_none : goal.returns-then-is_none
returns-then-is_none c =
    let m = c.self.inside in
    sym (no_node_spot m.nodes m.edges m.directed m.loops c.args.step.now (sym c.gives_nodes.ensures ∙ c.if-gives_nodes.true) c.args.spot.now (sym c.probe.ensures ∙ none_of c.probe.result (c.is_none.ensures ∙ ap not c.if-is_none.true))) ∙ ap (λ x. row_after c.args.spot.now (spots c.args.step.now x)) c.self.view_is

pub after-requires : goal.after-requires
after-requires c = sym (ap is_some c.probe.ensures) ∙ c.is_none.ensures ∙ ap not c.if-is_none.false

pub returns-in_err-a : goal.returns-in_err-a
returns-in_err-a c =
    let m = c.self.inside in
    c.from_residual.ensures ∙ sym (next_node_spot m.nodes m.edges m.directed m.loops c.args.step.now (sym c.gives_nodes.ensures ∙ c.if-gives_nodes.true) c.args.spot.now None (sym c.after.ensures ∙ c.in_err-a.was)) ∙ ap (λ x. row_after c.args.spot.now (spots c.args.step.now x)) c.self.view_is

pub returns-then-gives_nodes : goal.returns-then-gives_nodes
returns-then-gives_nodes c =
    let m = c.self.inside in
    ap Some c.node_spot.ensures ∙ sym (next_node_spot m.nodes m.edges m.directed m.loops c.args.step.now (sym c.gives_nodes.ensures ∙ c.if-gives_nodes.true) c.args.spot.now (Some c.in_ok-a.a) (sym c.after.ensures ∙ c.in_ok-a.was)) ∙ ap (λ x. row_after c.args.spot.now (spots c.args.step.now x)) c.self.view_is

pub returns-in_err-e : goal.returns-in_err-e
returns-in_err-e c =
    let m = c.self.inside in
    c.from_residual-in_err-e.ensures ∙ sym (next_edge_spot m.nodes m.edges m.directed m.loops c.args.step.now (sym c.gives_nodes.ensures ∙ c.if-gives_nodes.false) c.args.spot.now None (sym c.next_edge.ensures ∙ c.in_err-e.was)) ∙ ap (λ x. row_after c.args.spot.now (spots c.args.step.now x)) c.self.view_is

pub returns : goal.returns
returns c =
    let m = c.self.inside in
    ap Some c.edge_spot.ensures ∙ sym (next_edge_spot m.nodes m.edges m.directed m.loops c.args.step.now (sym c.gives_nodes.ensures ∙ c.if-gives_nodes.false) c.args.spot.now (Some c.in_ok-e.e) (sym c.next_edge.ensures ∙ c.in_ok-e.was)) ∙ ap (λ x. row_after c.args.spot.now (spots c.args.step.now x)) c.self.view_is
