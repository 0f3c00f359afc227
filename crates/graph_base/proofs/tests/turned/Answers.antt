use Rattle.std.proofs.Common.{sym, ◌∙◌}
use Rattle.graph_base.proofs.NextLemmas.{first_there}
use Rattle.graph_base.proofs.tests.turned.Goals as goal

pub node_after-second-requires : goal.node_after-second-requires
node_after-second-requires g c = first_there c.put-3.new.g.nodes c.in-Some.first (sym c.first_node.ensures.answer ∙ c.in-Some.is)

pub incident_after-behind-requires : goal.incident_after-behind-requires
incident_after-behind-requires g c = (0, sym c.first_incident.ensures.answer ∙ c.in-Some-first_incident.is)
