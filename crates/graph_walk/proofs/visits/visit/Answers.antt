use Rattle.std.proofs.Common.{◌+◌, ap, sym, ◌∙◌, subst}
use Rattle.graph_walk.specs.Graphs.{is_in, nexts}
use Rattle.graph_walk.specs.Paths.{calls}
use Rattle.graph_walk.specs.Stacks.{AreFrames, pending}
use Rattle.graph_walk.proofs.StackLemmas.{finishes_same, opened_stack, opened_visits, opened_frames, opened_calls}
use Rattle.graph_walk.proofs.visits.visit.Goals as goal

pub loop-frame-init : goal.loop-frame-init
loop-frame-init g c =
    let graph = g.W.Walkable.graph c.args.g.now in
    let next = nexts graph in
    let walk = c.args.walk.now in
    let a = c.args.a.now in
    let stack = opened_stack next a walk.entered (is_in a walk.entered) walk.stack.items c.enter.new.walk.stack.items c.requires.idle c.in_ok-enter.ensures.stack in record {
      visits = λ e l h. opened_visits next a walk.entered walk.left.items e l (finishes_same next _ _ _ _ _ _ e l stack c.in_ok-enter.ensures.entered c.in_ok-enter.ensures.left h);
      framed = subst (λ fs. AreFrames next graph.nodes fs) (sym stack) (opened_frames next a walk.entered graph.nodes (is_in a walk.entered) c.requires.node);
      steps =
          ap (λ fs. c.enter.new.steps + pending next fs + calls next walk.entered) stack
          ∙ opened_calls next a walk.entered c.args.steps.now c.enter.new.steps c.in_ok-enter.ensures.steps
          ∙ ap (λ e. c.args.steps.now + calls next e) (sym c.in_ok-enter.ensures.entered);
    }
