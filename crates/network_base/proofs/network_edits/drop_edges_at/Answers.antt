use Rattle.std.proofs.Common.{◌≡◌, length, sym, ap, ◌∙◌, arith}
use Rattle.graph_base.specs.Edges.{Edge, incident, without_edges_at}
use Rattle.graph_base.proofs.GraphSteps.{none_incident}
use Rattle.network_base.proofs.NetworkLemmas.{others_stay, one_fewer}
use Rattle.network_base.proofs.network_edits.drop_edges_at.Goals as goal

pub loop-step-preserved : goal.loop-step-preserved
loop-step-preserved c =
    let edges = c.loop-step.edges in
    let a = c.args.a.now in
    let e : Edge = (c.in-Some._from, c.in-Some._to, c.in-Some.x) in
    let f = sym c.first_at.ensures ∙ c.in-Some.is in
    let distinct = c.len-len.ensures.distinct in
    let fewer = ap (λ es. length (incident a es)) c.drop_edge.ensures.edges in
    let one = one_fewer edges distinct a e f in
    let before = c.loop-step.invariant.fewer in
    record {
      counted = c.drop_edge.ensures.counted;
      keys = c.drop_edge.ensures.keys ∙ c.loop-step.invariant.keys;
      others = ap (without_edges_at a) c.drop_edge.ensures.edges ∙ others_stay edges distinct a e f ∙ c.loop-step.invariant.others;
      fewer = omega arith;
    }

pub returns-clause-edges : goal.returns-clause-edges
returns-clause-edges c =
    let edges = c.loop-step.edges in
    let before = c.loop-step.invariant.fewer in
    let none : length (incident c.args.a.now edges) ≡ 0 = omega arith in
    sym (none_incident c.args.a.now edges none) ∙ c.loop-step.invariant.others
