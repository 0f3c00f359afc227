use Rattle.graph_turned.proofs.TurnedLemmas.{turned_valid}
use Rattle.graph_turned.proofs.turned.TurnedWalkable.directed.Goals as goal

pub returns-clause-valid : goal.returns-clause-valid
returns-clause-valid c = turned_valid c.args.self.now.turned c.args.self.now.rows.now c.len-len.ensures.valid
