use Rattle.std.proofs.Common.{sym, ap, ◌∙◌}
use Rattle.graph_base.specs.Nexts.{nexts}
use Rattle.graph_walk.specs.Places.{after}
use Rattle.graph_turned.proofs.TurnedLemmas.{after_it, nexts_same}
use Rattle.graph_turned.proofs.turned.TurnedWalkable.next_after.Goals as goal

pub returns-clause-answer : goal.returns-clause-answer
returns-clause-answer g c =
    let rows = c.args.self.now.rows.now in
    c.next_after.ensures.answer ∙ after_it c.args.b (nexts rows.directed c.args.self.now.turned c.args.a rows.edges) ∙ ap (after c.args.b) (sym (nexts_same rows.directed c.args.self.now.turned c.args.a rows.edges))
