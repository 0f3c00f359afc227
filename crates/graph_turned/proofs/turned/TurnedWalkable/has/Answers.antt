use Rattle.std.proofs.Common.{◌∙◌}
use Rattle.graph_turned.proofs.TurnedLemmas.{is_there}
use Rattle.graph_turned.proofs.turned.TurnedWalkable.has.Goals as goal

pub returns-clause-answer : goal.returns-clause-answer
returns-clause-answer g c = c.has_node.ensures.answer ∙ is_there c.args.a c.args.self.now.rows.now.nodes
