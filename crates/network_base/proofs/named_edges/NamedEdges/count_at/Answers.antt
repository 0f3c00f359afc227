use Rattle.std.proofs.Common.{◌∙◌, ap, length}
use Rattle.graph_base.specs.Edges.{incident}
use Rattle.graph_base.proofs.HalvesAt.{count_held}
use Rattle.network_base.proofs.AtNode.{named}
use Rattle.network_base.proofs.named_edges.NamedEdges.count_at.Goals as goal

pub returns : goal.returns
returns c = let m = c.self.inside in c.count_of.ensures ∙ count_held named c.args.a.now m.rows m.halves c.self.invariant.halves_equal ∙ ap (λ es. length (incident c.args.a.now es)) c.self.view_is
