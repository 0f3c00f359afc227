use Rattle.std.proofs.Common.{sym, ap, ◌∙◌}
use Rattle.std.specs.Prelude.{is_some}
use Rattle.graph_base.specs.Graphs.{Graph}
use Rattle.graph_base.proofs.GraphAnswers.{node_test}
use Rattle.network_base.proofs.network_rows.NetworkRows.has.Goals as goal

pub returns : goal.returns
returns c = let m = c.self.inside in c.is_some.ensures ∙ ap is_some c.probe.ensures ∙ sym (node_test m.nodes c.args.a.now c.args.self.now.nodes (ap (λ (x : Graph). x.nodes) c.self.view_is))
