use Rattle.std.proofs.Common.{◌≡◌, ◌+◌, [], ◌∷◌, ap, subst, arith}
use Rattle.graph_walk.specs.Graphs.{nexts}
use Rattle.graph_walk.specs.DepthFirst.{Visits}
use Rattle.graph_walk.specs.Paths.{calls}
use Rattle.graph_walk.proofs.VisitLemmas.{post_reached, leaves_calls}
use Rattle.graph_walk.proofs.depth_walk.depth_post.Goals as goal

pub returns-clause-reached : goal.returns-clause-reached
returns-clause-reached g c =
    let next = nexts (g.W.Walkable.graph c.args.g.now) in
    let visit = subst (λ e. Visits next (c.args.a ∷ []) e [] c.visit.new.walk.entered c.visit.new.walk.left.items) c.new_walk-walk.ensures.entered (subst (λ l. Visits next (c.args.a ∷ []) c.new_walk-walk.result.entered l c.visit.new.walk.entered c.visit.new.walk.left.items) c.new_walk-walk.ensures.left c.in_ok-visit.ensures.visits) in
    post_reached next c.args.a c.visit.new.walk.entered c.visit.new.walk.left.items visit

pub returns-clause-steps : goal.returns-clause-steps
returns-clause-steps g c =
    let next = nexts (g.W.Walkable.graph c.args.g.now) in
    let visit = subst (λ e. Visits next (c.args.a ∷ []) e [] c.visit.new.walk.entered c.visit.new.walk.left.items) c.new_walk-walk.ensures.entered (subst (λ l. Visits next (c.args.a ∷ []) c.new_walk-walk.result.entered l c.visit.new.walk.entered c.visit.new.walk.left.items) c.new_walk-walk.ensures.left c.in_ok-visit.ensures.visits) in
    let same_calls : calls next c.visit.new.walk.left.items + calls next [] ≡ calls next [] + calls next c.visit.new.walk.entered = leaves_calls next visit in
    let none : calls next c.new_walk-walk.result.entered ≡ calls next [] = ap (calls next) c.new_walk-walk.ensures.entered in
    let made : c.visit.new.steps + calls next c.new_walk-walk.result.entered ≡ c.has.new.steps + calls next c.visit.new.walk.entered = c.in_ok-visit.ensures.steps in
    omega arith
