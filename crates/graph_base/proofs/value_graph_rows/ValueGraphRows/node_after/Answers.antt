use Rattle.std.proofs.Common.{sym, ap, ◌∙◌}
use Rattle.graph_base.specs.Graphs.{Graph}
use Rattle.graph_base.specs.Nexts.{behind}
use Rattle.graph_base.proofs.GraphAnswers.{node_test}
use Rattle.graph_base.proofs.GraphLemmas.{key_behind}
use Rattle.graph_base.proofs.value_graph_rows.ValueGraphRows.node_after.Goals as goal

pub after-requires : goal.after-requires
after-requires g c =
    let m = c.self.inside in
    sym (node_test m.nodes c.args.a c.args.self.now.nodes (ap (λ (x : Graph). x.nodes) c.self.view_is)) ∙ c.requires

pub returns-clause-answer : goal.returns-clause-answer
returns-clause-answer g c =
    let m = c.self.inside in
    c.after.ensures ∙ key_behind c.args.a m.nodes ∙ ap (λ (x : Graph). behind c.args.a x.nodes) c.self.view_is
