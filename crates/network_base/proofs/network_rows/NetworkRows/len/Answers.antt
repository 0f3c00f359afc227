use Rattle.std.proofs.Common.{subst}
use Rattle.network_base.specs.Networks.{IsNetwork}
use Rattle.network_base.proofs.NetworkLemmas.{valid}
use Rattle.network_base.proofs.network_rows.NetworkRows.len.Goals as goal

pub returns-clause-network : goal.returns-clause-network
returns-clause-network c = let m = c.self.inside in subst IsNetwork c.self.view_is (valid m.nodes m.edges m.directed m.loops c.self.invariant c.len.ensures.distinct c.len-2.ensures.distinct)
