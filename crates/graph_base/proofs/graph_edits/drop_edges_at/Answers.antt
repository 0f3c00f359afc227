use Rattle.std.proofs.Common.{◌≡◌, length, sym, ap, ◌∙◌, arith}
use Rattle.graph_base.specs.EdgeRows.{EdgeList}
use Rattle.graph_base.specs.Edges.{Edge, incident, without_edges_at}
use Rattle.graph_base.proofs.GraphSteps.{others_stay, one_fewer, none_incident}
use Rattle.graph_base.proofs.graph_edits.drop_edges_at.Goals as goal

pub loop-step-preserved : goal.loop-step-preserved
loop-step-preserved c =
    let m = c.loop-step.edges in
    let a = c.args.a.now in
    let e : Edge = (c.in-Some.from, c.in-Some.to, c.in-Some._value) in
    let f = sym c.incident_at.ensures ∙ c.in-Some.is in
    let apart = c.len-len.ensures.apart in
    let less = ap (λ (x : EdgeList). x.edges) c.drop_edge.ensures.edges in
    let fewer = ap (λ es. length (incident a es)) less in
    let one = one_fewer m.directed m.edges apart a e f in
    let before = c.loop-step.invariant.fewer in
    record {
      counted = c.drop_edge.ensures.counted;
      keys = c.drop_edge.ensures.keys ∙ c.loop-step.invariant.keys;
      directed = ap (λ (x : EdgeList). x.directed) c.drop_edge.ensures.edges ∙ c.loop-step.invariant.directed;
      others = ap (without_edges_at a) less ∙ others_stay m.directed m.edges apart a e f ∙ c.loop-step.invariant.others;
      fewer = omega arith;
    }

pub returns-clause-edges : goal.returns-clause-edges
returns-clause-edges c =
    let m = c.loop-step.edges in
    let before = c.loop-step.invariant.fewer in
    let none : length (incident c.args.a.now m.edges) ≡ 0 = omega arith in
    let whole = sym (none_incident c.args.a.now m.edges none) ∙ c.loop-step.invariant.others in
    (λ i. record { edges = whole i; directed = c.loop-step.invariant.directed i })
