use Rattle.std.proofs.Common.{◌+◌, length, ap, sym, ◌∙◌, arith}
use Rattle.graph_walk.specs.Found.{with_all}
use Rattle.graph_walk.specs.Graphs.{nexts}
use Rattle.graph_walk.proofs.NextsLemmas.{nexts_distinct}
use Rattle.graph_walk.specs.Places.{left_at}
use Rattle.graph_walk.proofs.TurnLemmas.{left_on, fewer_left, still_among, all_left, begins_among}
use Rattle.graph_walk.proofs.breadth_walk.find_nexts.Goals as goal

pub loop-next-init : goal.loop-next-init
loop-next-init g c =
    let all = nexts (g.W.Walkable.graph c.args.g.now) c.args.node.now in
    let whole = all_left all c.first_next-next.result c.first_next-next.ensures.answer in record {
      among = begins_among all c.first_next-next.result c.first_next-next.ensures.answer;
      found = ap (λ ys. with_all ys c.args.found.now) whole;
      steps = ap (λ ys. c.first_next-next.new.steps + length ys) whole;
    }

pub loop-next-smaller : goal.loop-next-smaller
loop-next-smaller g c =
    let graph = g.W.Walkable.graph c.args.g.now in
    let all = nexts graph c.args.node.now in
    let fewer = fewer_left all (nexts_distinct graph c.directed-directed.ensures.valid c.args.node.now) c.loop-next.next c.next_after-next.result c.in-Some.b c.in-Some.is c.loop-next.invariant.among c.next_after-next.ensures.answer in
    omega arith

pub loop-next-preserved : goal.loop-next-preserved
loop-next-preserved g c =
    let graph = g.W.Walkable.graph c.args.g.now in
    let all = nexts graph c.args.node.now in
    let left = left_on all (nexts_distinct graph c.directed-directed.ensures.valid c.args.node.now) c.loop-next.next c.next_after-next.result c.in-Some.b c.in-Some.is c.loop-next.invariant.among c.next_after-next.ensures.answer in
    let fewer = fewer_left all (nexts_distinct graph c.directed-directed.ensures.valid c.args.node.now) c.loop-next.next c.next_after-next.result c.in-Some.b c.in-Some.is c.loop-next.invariant.among c.next_after-next.ensures.answer in record {
      among = still_among all (nexts_distinct graph c.directed-directed.ensures.valid c.args.node.now) c.loop-next.next c.next_after-next.result c.in-Some.b c.in-Some.is c.loop-next.invariant.among c.next_after-next.ensures.answer;
      found = ap (with_all (left_at c.next_after-next.result all)) c.in_ok-put.ensures.list ∙ sym (ap (λ ys. with_all ys c.loop-next.found) left) ∙ c.loop-next.invariant.found;
      steps = omega arith;
    }
