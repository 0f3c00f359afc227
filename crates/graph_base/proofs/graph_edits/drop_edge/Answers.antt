use Rattle.std.proofs.Common.{sym, ap, ◌∙◌, subst}
use Rattle.elem.specs.Keyed.{value_at}
use Rattle.graph_base.specs.EdgeRows.{EdgeList}
use Rattle.graph_base.specs.Counted.{AreCounted}
use Rattle.graph_base.proofs.GraphSteps.{edge_cut, no_edge_gone}
use Rattle.graph_base.proofs.graph_edits.drop_edge.Goals as goal

pub returns-in_err-from-clause-counted : goal.returns-in_err-from-clause-counted
returns-in_err-from-clause-counted c =
    let m = c.args.edges.now in
    let stay = ap (λ (x : EdgeList). x.edges) c.remove.ensures.edges ∙ no_edge_gone m.directed m.edges c.len-len.ensures.apart c.args.a.now c.args.b.now (sym c.remove.ensures.edge ∙ c.in_err-from.was) in
    subst (AreCounted (value_at c.args.nodes.now)) (sym stay) c.requires

pub uncount_edge-requires : goal.uncount_edge-requires
uncount_edge-requires c =
    let m = c.args.edges.now in
    let cut = edge_cut m.directed m.edges c.len-len.ensures.apart c.args.a.now c.args.b.now (c.in_ok-from.from, c.in_ok-from.to, c.in_ok-from.value) (sym c.remove.ensures.edge ∙ c.in_ok-from.was) in
    (cut.0, c.in_ok-from.value, cut.1, subst (AreCounted (value_at c.args.nodes.now)) cut.2 c.requires)

pub returns-clause-counted : goal.returns-clause-counted
returns-clause-counted c =
    let m = c.args.edges.now in
    let cut = edge_cut m.directed m.edges c.len-len.ensures.apart c.args.a.now c.args.b.now (c.in_ok-from.from, c.in_ok-from.to, c.in_ok-from.value) (sym c.remove.ensures.edge ∙ c.in_ok-from.was) in
    let after = c.uncount_edge.ensures.counted cut.0 c.in_ok-from.value cut.1 (subst (AreCounted (value_at c.args.nodes.now)) cut.2 c.requires) in
    subst (AreCounted (value_at c.uncount_edge.new.nodes)) (sym (ap (λ (x : EdgeList). x.edges) c.remove.ensures.edges ∙ cut.3)) after
