use Rattle.std.proofs.Common.{subst}
use Rattle.graph_base.specs.Graphs.{IsValid}
use Rattle.graph_base.proofs.GraphLemmas.{valid}
use Rattle.graph_base.proofs.value_graph_rows.ValueGraphRows.len.Goals as goal

pub returns-clause-valid : goal.returns-clause-valid
returns-clause-valid c = let m = c.self.inside in subst IsValid c.self.view_is (valid m.nodes m.edges.edges m.edges.directed m.loops c.self.invariant c.len.ensures.distinct c.len-2.ensures.apart)
