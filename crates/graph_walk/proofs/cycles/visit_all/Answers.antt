use Rattle.std.proofs.Common.{◌≡◌, ◌+◌, length, [], ap, sym, subst, arith}
use Rattle.graph_walk.specs.DepthFirst.{Visits, ended}
use Rattle.graph_walk.specs.Graphs.{nexts}
use Rattle.graph_walk.specs.Paths.{calls}
use Rattle.graph_walk.specs.Places.{left_at}
use Rattle.graph_walk.proofs.StackedLemmas.{visits_on}
use Rattle.graph_walk.proofs.TurnLemmas.{left_on, fewer_left, still_among, all_left, begins_among, none_left}
use Rattle.graph_walk.proofs.cycles.visit_all.Goals as goal

pub loop-next-init : goal.loop-next-init
loop-next-init g c =
    let graph = g.W.Walkable.graph c.args.g.now in
    let next = nexts graph in
    let whole = all_left graph.nodes c.first_node-next.result c.first_node-next.ensures.answer in
    let none : calls next c.args.walk.now.entered ≡ 0 = ap (calls next) c.requires.entered in
    let lengths : length (left_at c.first_node-next.result graph.nodes) ≡ length graph.nodes = ap length whole in record {
      among = begins_among graph.nodes c.first_node-next.result c.first_node-next.ensures.answer;
      idle = c.requires.idle;
      visits = λ e l v. subst (λ xs. Visits next xs [] [] e l) whole (subst (λ xs. Visits next (left_at c.first_node-next.result graph.nodes) xs [] e l) c.requires.entered (subst (λ xs. Visits next (left_at c.first_node-next.result graph.nodes) c.args.walk.now.entered xs e l) c.requires.left v));
      steps = omega arith;
    }

pub loop-next-smaller : goal.loop-next-smaller
loop-next-smaller g c =
    let all = (g.W.Walkable.graph c.args.g.now).nodes in
    let fewer = fewer_left all c.directed-directed.ensures.valid.nodes c.loop-next.next c.after_node-next.result c.in-Some.a c.in-Some.is c.loop-next.invariant.among c.after_node-next.ensures.answer in
    omega arith

pub loop-next-preserved : goal.loop-next-preserved
loop-next-preserved g c =
    let graph = g.W.Walkable.graph c.args.g.now in
    let next = nexts graph in
    let all = graph.nodes in
    let left = left_on all c.directed-directed.ensures.valid.nodes c.loop-next.next c.after_node-next.result c.in-Some.a c.in-Some.is c.loop-next.invariant.among c.after_node-next.ensures.answer in
    let fewer = fewer_left all c.directed-directed.ensures.valid.nodes c.loop-next.next c.after_node-next.result c.in-Some.a c.in-Some.is c.loop-next.invariant.among c.after_node-next.ensures.answer in
    let made : c.visit.new.steps + calls next c.loop-next.walk.entered ≡ c.loop-next.steps + calls next c.visit.new.walk.entered = c.in_ok-visit.ensures.steps in record {
      among = still_among all c.directed-directed.ensures.valid.nodes c.loop-next.next c.after_node-next.result c.in-Some.a c.in-Some.is c.loop-next.invariant.among c.after_node-next.ensures.answer;
      idle = c.in_ok-visit.ensures.idle;
      visits = λ e l v. c.loop-next.invariant.visits e l (subst (λ xs. Visits next xs c.loop-next.walk.entered c.loop-next.walk.left.items e l) (sym left) (visits_on next c.in_ok-visit.ensures.visits v));
      steps = omega arith;
    }

pub returns-clause-visits : goal.returns-clause-visits
returns-clause-visits g c =
    let graph = g.W.Walkable.graph c.args.g.now in
    let next = nexts graph in
    let walk = c.loop-next.walk in
    c.loop-next.invariant.visits walk.entered walk.left.items (subst (λ xs. Visits next xs walk.entered walk.left.items walk.entered walk.left.items) (sym (none_left c.loop-next.next graph.nodes c.in_default.not-Some)) ended)
