use Rattle.std.proofs.Common.{◌≡◌, ◌+◌, ◌<◌, ◌≤◌, true, length, take, get_or, [], ◌∷◌, ap, sym, ◌∙◌, subst, arith}
use Rattle.graph_walk.specs.Graphs.{is_in, nexts}
use Rattle.graph_walk.specs.Paths.{calls}
use Rattle.graph_walk.specs.Found.{with_all}
use Rattle.graph_walk.proofs.PlaceLemmas.{at_default, at-is_in}
use Rattle.graph_walk.proofs.NextsLemmas.{reached_nodes, nodes_bound}
use Rattle.graph_walk.proofs.GrownLemmas.{IsGrown}
use Rattle.graph_walk.proofs.GrownSteps.{grown_start, grown_more, calls_more}
use Rattle.graph_walk.proofs.BreadthLemmas.{breadth_first}
use Rattle.graph_walk.proofs.breadth_walk.find_from.Goals as goal

pub loop-next-init : goal.loop-next-init
loop-next-init g c = record {
  grown = subst (λ xs. IsGrown (nexts (g.W.Walkable.graph c.args.g.now)) c.args.a.now 0 xs) (sym (c.in_ok-put.ensures.list ∙ ap (λ xs. with_all (c.args.a.now ∷ []) xs) c.requires.empty)) (grown_start (nexts (g.W.Walkable.graph c.args.g.now)) c.args.a.now);
  calls = omega arith;
}

pub find_nexts-requires : goal.find_nexts-requires
find_nexts-requires g c =
    let graph = g.W.Walkable.graph c.args.g.now in
    let xs = c.loop-next.found in
    let l : c.loop-next.next < length xs = omega arith in
    let is : c.at-node.result ≡ get_or xs c.loop-next.next c.args.a.now = c.at-node.ensures ∙ at_default xs c.loop-next.next c.at-node.result c.args.a.now l in
    let there : is_in c.args.a.now graph.nodes ≡ true = c.requires.node in
    reached_nodes graph c.directed-directed.ensures.valid c.args.a.now c.at-node.result there (c.loop-next.invariant.grown.reached c.at-node.result (ap (λ z. is_in z xs) is ∙ at-is_in xs c.loop-next.next c.args.a.now l))

pub loop-next-smaller : goal.loop-next-smaller
loop-next-smaller g c =
    let graph = g.W.Walkable.graph c.args.g.now in
    let xs = c.loop-next.found in
    let grown = c.loop-next.invariant.grown in
    let there : is_in c.args.a.now graph.nodes ≡ true = c.requires.node in
    let bound : length xs ≤ length graph.nodes = nodes_bound graph c.directed-directed.ensures.valid xs grown.distinct (λ x i. reached_nodes graph c.directed-directed.ensures.valid c.args.a.now x there (grown.reached x i)) in
    omega arith

pub loop-next-preserved : goal.loop-next-preserved
loop-next-preserved g c =
    let next = nexts (g.W.Walkable.graph c.args.g.now) in
    let xs = c.loop-next.found in
    let i = c.loop-next.next in
    let l : i < length xs = omega arith in
    let is : c.at-node.result ≡ get_or xs i c.args.a.now = c.at-node.ensures ∙ at_default xs i c.at-node.result c.args.a.now l in
    let list = c.in_ok-find_nexts.ensures.found ∙ ap (λ z. with_all (next z) xs) is in
    let more = calls_more next c.args.a.now i xs c.loop-next.invariant.grown l in
    let counted : calls next (take (i + 1) c.find_nexts.new.found) ≡ calls next (take i xs) + (1 + length (next c.at-node.result)) = ap (λ zs. calls next (take (i + 1) zs)) list ∙ more ∙ ap (λ z. calls next (take i xs) + (1 + length (next z))) (sym is) in
    let told : c.find_nexts.new.steps ≡ c.loop-next.steps + 1 + length (next c.at-node.result) = c.in_ok-find_nexts.ensures.steps in record {
      grown = subst (λ zs. IsGrown next c.args.a.now (i + 1) zs) (sym list) (grown_more next c.args.a.now i xs c.loop-next.invariant.grown l);
      calls = omega arith;
    }

pub returns-clause-order : goal.returns-clause-order
returns-clause-order g c =
    let next = nexts (g.W.Walkable.graph c.args.g.now) in
    let xs = c.loop-next.found in
    let bound = c.loop-next.invariant.grown.bound in
    let all : c.loop-next.next ≡ length xs = omega arith in
    breadth_first next c.args.a.now xs (subst (λ n. IsGrown next c.args.a.now n xs) all c.loop-next.invariant.grown)
