use Rattle.std.proofs.Common.{◌∙◌}
use Rattle.graph_turned.proofs.TurnedLemmas.{is_there}
use Rattle.graph_turned.proofs.turned.TurnedWalkable.after_node.Goals as goal

pub node_after-requires : goal.node_after-requires
node_after-requires g c = is_there c.args.a c.args.self.now.rows.now.nodes ∙ c.requires
