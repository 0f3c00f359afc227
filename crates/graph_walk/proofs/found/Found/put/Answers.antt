use Rattle.std.proofs.Common.{◌≡◌, [], ◌∷◌, ◌++◌, ap, sym, ◌∙◌}
use Rattle.graph_walk.specs.Graphs.{is_in}
use Rattle.graph_walk.proofs.FoundLemmas.{has_more}
use Rattle.graph_walk.proofs.found.Found.put.Goals as goal

pub invariant_of-self-in-Ok-true : goal.invariant_of-self-in-Ok-true
invariant_of-self-in-Ok-true c = λ q.
    let list : c.push_reserved.new.self.items ≡ c.self.inside.order.items ++ c.args.x.now ∷ [] = cc in
    c.in-Ok-true.ensures.updates.0 q ∙ has_more c.args.x.now q c.self.inside.order.items _ (c.self.invariant q) ∙ ap (is_in q) (sym list)
