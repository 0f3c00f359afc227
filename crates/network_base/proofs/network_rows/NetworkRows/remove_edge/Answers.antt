use Rattle.std.proofs.Common.{◌≡◌, Bool, false, not, length, sym, ap, subst, arith}
use Rattle.elem.specs.Elements.{same}
use Rattle.graph_base.specs.Edges.{Edge}
use Rattle.graph_base.specs.Graphs.{HasNoLoop}
use Rattle.graph_base.proofs.GraphSteps.{filter_le}
use Rattle.graph_base.proofs.GraphLemmas.{length_keys, all_filter}
use Rattle.graph_base.proofs.GraphAnswers.{smaller_graph}
use Rattle.network_base.proofs.network_rows.NetworkRows.remove_edge.Goals as goal

pub invariant_of-self : goal.invariant_of-self
invariant_of-self g c =
    let m = c.self.inside in
    let less = c.drop_edge.ensures.edges in
    let test : Edge → Bool = λ e. not (same c.args.x e.2) in
    let fewer = ap length less in
    let part = filter_le test m.edges in
    let keys = ap length c.drop_edge.ensures.keys in
    let before = length_keys m.nodes in
    let after = length_keys c.drop_edge.new.nodes in
    smaller_graph m.nodes c.drop_edge.new.nodes m.edges c.drop_edge.new.edges m.loops c.drop_edge.ensures.counted
    (λ f. subst HasNoLoop (sym less) (all_filter (λ (e : Edge). same e.0 e.1 ≡ false) test m.edges (c.self.invariant.no_loops f))) (omega (arith, keys, before, after)) (omega (arith, fewer, part)) c.self.invariant.small
