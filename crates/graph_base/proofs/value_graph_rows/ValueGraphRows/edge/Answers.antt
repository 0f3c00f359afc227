use Rattle.std.proofs.Common.{not, sym, ap, ◌∙◌}
use Rattle.std.specs.Prelude.{is_some, Ok, ◌&&◌}
use Rattle.std.specs.Option.{option_map}
use Rattle.mm_base.specs.KeyedRows.{contains}
use Rattle.graph_base.specs.Edges.{Edge, value_joining}
use Rattle.graph_base.specs.Graphs.{Graph}
use Rattle.graph_base.proofs.GraphAnswers.{when_true, when_false, not_both, node_test}
use Rattle.graph_base.proofs.value_graph_rows.ValueGraphRows.edge.Goals as goal

pub returns-then-is_none-clause-answer : goal.returns-then-is_none-clause-answer
returns-then-is_none-clause-answer g c =
    let m = c.self.inside in
    let keys = ap (λ (x : Graph). x.nodes) c.self.view_is in
    let first = node_test m.nodes c.args.a c.args.self.now.nodes keys ∙ ap is_some (sym c.probe.ensures) ∙ c.is_none.ensures ∙ ap not c.if-is_none.true in
    when_false (contains c.args.a c.args.self.now.nodes && contains c.args.b c.args.self.now.nodes) _ _ (ap (λ t. t && contains c.args.b c.args.self.now.nodes) first)

pub returns-then-is_none-2-clause-answer : goal.returns-then-is_none-2-clause-answer
returns-then-is_none-2-clause-answer g c =
    let m = c.self.inside in
    let keys = ap (λ (x : Graph). x.nodes) c.self.view_is in
    let second = node_test m.nodes c.args.b c.args.self.now.nodes keys ∙ ap is_some (sym c.probe-2.ensures) ∙ c.is_none-2.ensures ∙ ap not c.if-is_none-2.true in
    when_false (contains c.args.a c.args.self.now.nodes && contains c.args.b c.args.self.now.nodes) _ _ (not_both (contains c.args.a c.args.self.now.nodes) (contains c.args.b c.args.self.now.nodes) second)

pub returns-in-None-clause-answer : goal.returns-in-None-clause-answer
returns-in-None-clause-answer g c =
    let m = c.self.inside in
    let keys = ap (λ (x : Graph). x.nodes) c.self.view_is in
    let first = node_test m.nodes c.args.a c.args.self.now.nodes keys ∙ ap is_some (sym c.probe.ensures) ∙ c.is_none.ensures ∙ ap not c.if-is_none.false in
    let second = node_test m.nodes c.args.b c.args.self.now.nodes keys ∙ ap is_some (sym c.probe-2.ensures) ∙ c.is_none-2.ensures ∙ ap not c.if-is_none-2.false in
    let value = sym (ap (option_map (λ (e : Edge). e.2)) (sym c.edge.ensures ∙ c.in-None.is)) ∙ ap (λ (x : Graph). value_joining x.directed c.args.a c.args.b x.edges) c.self.view_is in
    ap Ok value ∙ when_true (contains c.args.a c.args.self.now.nodes && contains c.args.b c.args.self.now.nodes) _ _ (λ i. first i && second i)

pub returns-in-Some-clause-answer : goal.returns-in-Some-clause-answer
returns-in-Some-clause-answer g c =
    let m = c.self.inside in
    let keys = ap (λ (x : Graph). x.nodes) c.self.view_is in
    let first = node_test m.nodes c.args.a c.args.self.now.nodes keys ∙ ap is_some (sym c.probe.ensures) ∙ c.is_none.ensures ∙ ap not c.if-is_none.false in
    let second = node_test m.nodes c.args.b c.args.self.now.nodes keys ∙ ap is_some (sym c.probe-2.ensures) ∙ c.is_none-2.ensures ∙ ap not c.if-is_none-2.false in
    let value = sym (ap (option_map (λ (e : Edge). e.2)) (sym c.edge.ensures ∙ c.in-Some.is)) ∙ ap (λ (x : Graph). value_joining x.directed c.args.a c.args.b x.edges) c.self.view_is in
    ap Ok value ∙ when_true (contains c.args.a c.args.self.now.nodes && contains c.args.b c.args.self.now.nodes) _ _ (λ i. first i && second i)
