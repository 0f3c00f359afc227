use Rattle.std.proofs.Common.{◌≡◌, ◌+◌, cond, ◌∷◌, ap, sym, ◌∙◌, subst}
use Rattle.graph_walk.specs.Graphs.{is_in, nexts}
use Rattle.graph_walk.specs.Paths.{calls}
use Rattle.graph_walk.specs.Places.{IsAmong}
use Rattle.graph_walk.specs.Stacks.{frames, begun, Finishes, AreFrames, pending}
use Rattle.graph_walk.proofs.NextsLemmas.{nexts_nodes}
use Rattle.graph_walk.proofs.StackLemmas.{stack_on, turned_on, finishes_left, finishes_same, finishes_on, frames_on, calls_on, nearer_on}
use Rattle.graph_walk.proofs.TurnLemmas.{after_among}
use Rattle.graph_walk.proofs.visits.go_on.Goals as goal

pub enter-requires : goal.enter-requires
enter-requires g c =
    let graph = g.W.Walkable.graph c.args.g.now in
    nexts_nodes graph c.directed-directed.ensures.valid c.args.frame.now.node c.in-Some.x (subst (λ o. IsAmong o (nexts graph c.args.frame.now.node)) c.in-Some.is c.requires.0.1)

pub returns-in_ok-push-in-None-clause-finishes : goal.returns-in_ok-push-in-None-clause-finishes
returns-in_ok-push-in-None-clause-finishes g c = λ e l h.
    let next = nexts (g.W.Walkable.graph c.args.g.now) in
    let walk = c.args.walk.now in
    finishes_left next c.args.frame.now (frames walk) walk.entered walk.left.items e l c.in-None.is (subst (λ m. Finishes next (frames walk) walk.entered m e l) c.in_ok-push-in-None.ensures h)

pub returns-in_ok-enter-in-Some : goal.returns-in_ok-enter-in-Some
returns-in_ok-enter-in-Some g c =
    let graph = g.W.Walkable.graph c.args.g.now in
    let next = nexts graph in
    let walk = c.args.walk.now in
    let frame = c.args.frame.now in
    let x = c.in-Some.x in
    let o = c.next_after-next.result in
    let there = subst (λ p. IsAmong p (next frame.node)) c.in-Some.is c.requires.0.1 in
    let node = nexts_nodes graph c.directed-directed.ensures.valid frame.node x there in
    let turned = turned_on graph c.directed-directed.ensures.valid frame x o c.in-Some.is there c.next_after-next.ensures.answer in
    let stack = stack_on (is_in x walk.entered) walk.stack.items _ _ (record { node = frame.node; next = o }) (begun next x) c.in_ok-push-in-Some.ensures c.in_ok-enter-in-Some.ensures.stack in
    let entered = c.in_ok-enter-in-Some.ensures.entered in
    let made : c.enter.new.steps ≡ c.args.steps.now + 1 + cond (is_in x walk.entered) 0 1 = c.in_ok-enter-in-Some.ensures.steps ∙ ap (λ n. n + cond (is_in x walk.entered) 0 1) c.next_after-next.ensures.step in record {
      finishes = λ e l h. finishes_on next frame (frames walk) x o turned walk.entered walk.left.items e l (finishes_same next _ _ _ _ _ _ e l stack entered c.in_ok-enter-in-Some.ensures.left h);
      frames = subst (λ fs. AreFrames next graph.nodes fs) (sym stack) (frames_on next frame (frames walk) x o turned graph.nodes (is_in x walk.entered) c.requires node (subst (λ p. IsAmong p (next frame.node)) (sym c.next_after-next.ensures.answer) (after_among x (next frame.node))));
      nearer = nearer_on next frame (frames walk) x o turned graph.nodes walk.entered c.enter.new.walk.entered (frames c.enter.new.walk) node entered stack;
      steps =
          ap (λ fs. c.enter.new.steps + pending next fs + calls next walk.entered) stack
          ∙ calls_on next frame (frames walk) x o turned walk.entered c.args.steps.now c.enter.new.steps made
          ∙ ap (λ e. c.args.steps.now + pending next (frame ∷ frames walk) + calls next e) (sym entered);
    }
