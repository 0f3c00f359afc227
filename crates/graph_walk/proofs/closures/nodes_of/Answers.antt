use Rattle.std.proofs.Common.{[], ◌∷◌, ◌++◌, ap, sym, ◌∙◌, arith, append_assoc}
use Rattle.graph_walk.specs.Places.{left_at}
use Rattle.graph_walk.proofs.TurnLemmas.{left_on, fewer_left, still_among, all_left, begins_among}
use Rattle.graph_walk.proofs.closures.nodes_of.Goals as goal

pub loop-next-init : goal.loop-next-init
loop-next-init g c =
    let all = (g.W.Walkable.graph c.args.g.now).nodes in
    let first = c.first_node-next.ensures.answer in record {
      among = begins_among all c.first_node-next.result first;
      list = ap (λ xs. xs ++ left_at c.first_node-next.result all) c.new-nodes.ensures.items ∙ all_left all c.first_node-next.result first;
    }

pub loop-next-smaller : goal.loop-next-smaller
loop-next-smaller g c =
    let all = (g.W.Walkable.graph c.args.g.now).nodes in
    let fewer = fewer_left all c.directed-directed.ensures.valid.nodes c.loop-next.next c.after_node-next.result c.in-Some.a c.in-Some.is c.loop-next.invariant.among c.after_node-next.ensures.answer in
    omega arith

pub loop-next-preserved : goal.loop-next-preserved
loop-next-preserved g c =
    let all = (g.W.Walkable.graph c.args.g.now).nodes in
    let rest = left_at c.after_node-next.result all in
    let left = left_on all c.directed-directed.ensures.valid.nodes c.loop-next.next c.after_node-next.result c.in-Some.a c.in-Some.is c.loop-next.invariant.among c.after_node-next.ensures.answer in record {
      among = still_among all c.directed-directed.ensures.valid.nodes c.loop-next.next c.after_node-next.result c.in-Some.a c.in-Some.is c.loop-next.invariant.among c.after_node-next.ensures.answer;
      list = ap (λ xs. xs ++ rest) c.in_ok-push.ensures ∙ append_assoc c.loop-next.nodes.items (c.in-Some.a ∷ []) rest ∙ sym (ap (λ ys. c.loop-next.nodes.items ++ ys) left) ∙ c.loop-next.invariant.list;
    }
