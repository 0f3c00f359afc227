use Rattle.base_store.proofs.NodeLemmas.{base_node, step_node}
use Rattle.base_store.proofs.store.Store.node.Goals as goal

pub returns-in-Base : goal.returns-in-Base
returns-in-Base c = rw c.at.ensures (base_node c.args.self.now _ _ _ c.in-Base.is (rw c.number.ensures at c.made.ensures.at) (rw c.number.ensures at c.made.ensures.below))

pub returns-in-Over : goal.returns-in-Over
returns-in-Over c = rw c.at-in-Over.ensures (step_node c.args.self.now _ _ _ _ c.in-Over.is (rw c.number.ensures at c.made.ensures.at) (rw c.number.ensures at c.made.ensures.below))
