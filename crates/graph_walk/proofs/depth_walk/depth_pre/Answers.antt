use Rattle.std.proofs.Common.{[], ◌∷◌, sym, subst}
use Rattle.graph_walk.specs.Graphs.{nexts}
use Rattle.graph_walk.specs.DepthFirst.{Visits}
use Rattle.graph_walk.specs.Paths.{AreReached}
use Rattle.graph_walk.proofs.VisitLemmas.{pre_reached}
use Rattle.graph_walk.proofs.depth_walk.depth_pre.Goals as goal

pub returns-clause-reached : goal.returns-clause-reached
returns-clause-reached g c =
    let next = nexts (g.W.Walkable.graph c.args.g.now) in
    let visit = subst (λ e. Visits next (c.args.a ∷ []) e [] c.visit.new.walk.entered c.visit.new.walk.left.items) c.new_walk-walk.ensures.entered (subst (λ l. Visits next (c.args.a ∷ []) c.new_walk-walk.result.entered l c.visit.new.walk.entered c.visit.new.walk.left.items) c.new_walk-walk.ensures.left c.in_ok-visit.ensures.visits) in
    subst (λ xs. AreReached next c.args.a xs) (sym c.into_list.ensures) (pre_reached next c.args.a c.visit.new.walk.entered c.visit.new.walk.left.items visit)
