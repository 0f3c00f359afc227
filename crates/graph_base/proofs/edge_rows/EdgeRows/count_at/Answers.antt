use Rattle.std.proofs.Common.{◌∙◌, ap, length}
use Rattle.graph_base.specs.Edges.{incident}
use Rattle.graph_base.specs.EdgeRows.{EdgeList}
use Rattle.graph_base.proofs.AtNode.{numbered}
use Rattle.graph_base.proofs.HalvesAt.{count_held}
use Rattle.graph_base.proofs.edge_rows.EdgeRows.count_at.Goals as goal

pub returns : goal.returns
returns c = let m = c.self.inside in c.count_of.ensures ∙ count_held numbered c.args.a.now m.rows m.halves c.self.invariant.halves_equal ∙ ap (λ (x : EdgeList). length (incident c.args.a.now x.edges)) c.self.view_is
