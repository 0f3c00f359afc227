use Rattle.std.proofs.Common.{◌≡◌, ◌+◌, ◌≤◌, true, [], ap, sym, subst, arith, length}
use Rattle.std.specs.List.{AllByRecursion}
use Rattle.graph_walk.specs.Graphs.{is_in, nexts}
use Rattle.graph_walk.specs.Late.{ClosesSome}
use Rattle.graph_walk.specs.Paths.{calls}
use Rattle.graph_walk.proofs.CycleLemmas.{few_calls, as_many, left_nodes, found_cycle, cycle_found}
use Rattle.graph_walk.proofs.cycles.has_cycle.Goals as goal

pub closes_some-requires : goal.closes_some-requires
closes_some-requires g c =
    let graph = g.W.Walkable.graph c.args.g.now in
    let walk = c.visit_all.new.walk in
    subst (λ xs. AllByRecursion (λ x. is_in x graph.nodes ≡ true) xs) (sym c.deref.ensures.value) (left_nodes graph c.directed-directed.ensures.valid walk.entered walk.left.items c.in_ok-visit_all.ensures.visits)

pub returns-clause-answer : goal.returns-clause-answer
returns-clause-answer g c =
    let graph = g.W.Walkable.graph c.args.g.now in
    let walk = c.visit_all.new.walk in
    let valid = c.directed-directed.ensures.valid in
    let visits = c.in_ok-visit_all.ensures.visits in
    let told = c.in_ok-found.ensures.closes in (
      λ k. found_cycle graph valid walk.entered walk.left.items visits (subst (λ xs. ClosesSome (nexts graph) graph.directed [] xs) c.deref.ensures.value (told.0 k)),
      λ k. told.1 (subst (λ xs. ClosesSome (nexts graph) graph.directed [] xs) (sym c.deref.ensures.value) (cycle_found graph valid walk.entered walk.left.items visits k)),
    )

pub returns-clause-steps : goal.returns-clause-steps
returns-clause-steps g c =
    let graph = g.W.Walkable.graph c.args.g.now in
    let next = nexts graph in
    let walk = c.visit_all.new.walk in
    let valid = c.directed-directed.ensures.valid in
    let visits = c.in_ok-visit_all.ensures.visits in
    let few : calls next walk.entered ≤ calls next graph.nodes = few_calls graph valid walk.entered walk.left.items visits in
    let many : calls next walk.left.items ≡ calls next walk.entered = as_many graph valid walk.entered walk.left.items visits in
    let list : calls next c.deref.result.now ≡ calls next walk.left.items = ap (calls next) c.deref.ensures.value in
    let first : c.visit_all.new.steps ≡ c.args.steps.now + 1 + length graph.nodes + calls next walk.entered = c.in_ok-visit_all.ensures.steps in
    let second : c.closes_some.new.steps ≤ c.visit_all.new.steps + calls next c.deref.result.now = c.in_ok-found.ensures.steps in
    omega arith
