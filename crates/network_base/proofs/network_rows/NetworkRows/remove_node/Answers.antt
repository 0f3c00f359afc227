use Rattle.std.proofs.Common.{◌≡◌, Bool, false, not, length, sym, ap, ◌∙◌, subst, arith}
use Rattle.std.specs.Prelude.{is_some}
use Rattle.std.specs.List.{IsDistinct}
use Rattle.std.specs.Map.{keys_of}
use Rattle.elem.specs.Elements.{same}
use Rattle.elem.specs.Keyed.{value_at}
use Rattle.mm_base.proofs.KeyedRowsLemmas.{contains_keys, none_of}
use Rattle.graph_base.specs.Edges.{Edge, is_at, without_edges_at}
use Rattle.graph_base.specs.Graphs.{Graph, HasNoLoop, without_node}
use Rattle.graph_base.specs.Counted.{AreCounted}
use Rattle.graph_base.proofs.GraphSteps.{filter_le, none_at}
use Rattle.graph_base.proofs.GraphLemmas.{length_keys, all_filter, less_keys, keys_stay, less_counted, without_finds, length_without}
use Rattle.graph_base.proofs.GraphAnswers.{node_test, smaller_graph}
use Rattle.network_base.proofs.network_rows.NetworkRows.remove_node.Goals as goal

pub returns-then-is_none-clause-answer : goal.returns-then-is_none-clause-answer
returns-then-is_none-clause-answer g c =
    let m = c.self.inside in
    sym (node_test m.nodes c.args.a c.args.self.now.nodes (ap (λ (x : Graph). x.nodes) c.self.view_is) ∙ ap is_some (sym c.probe.ensures) ∙ c.is_none.ensures ∙ ap not c.if-is_none.true)

pub returns-then-is_none-clause-network : goal.returns-then-is_none-clause-network
returns-then-is_none-clause-network g c =
    let m = c.self.inside in
    let a = c.args.a in
    let gone = c.is_none.ensures ∙ ap not c.if-is_none.true in
    let none = sym c.probe.ensures ∙ none_of c.probe.result gone in
    let keys = keys_stay a (keys_of m.nodes) (contains_keys a m.nodes ∙ ap is_some none) in
    let edges = none_at (value_at m.nodes) a none m.edges c.self.invariant.counts.ends in
    sym c.self.view_is ∙ (λ i. record { nodes = sym keys i; edges = sym edges i; directed = m.directed; loops = m.loops }) ∙ ap (λ (x : Graph). record x { nodes = without_node a x.nodes; edges = without_edges_at a x.edges }) c.self.view_is

pub invariant_of-self : goal.invariant_of-self
invariant_of-self g c =
    let m = c.self.inside in
    let a = c.args.a in
    let mid = c.drop_edges_at.new.nodes in
    let less = c.drop_edges_at.ensures.edges in
    let test : Edge → Bool = λ e. not (is_at a e) in
    let distinct = subst (IsDistinct same) (sym c.drop_edges_at.ensures.keys) c.len-len.ensures.distinct in
    let counted = less_counted a (value_at mid) (value_at c.remove.new.self) (λ x. ap (λ rows. value_at rows x) c.remove.ensures.rows ∙ without_finds a mid distinct x) m.edges (subst (AreCounted (value_at mid)) less c.drop_edges_at.ensures.counted) in
    let fewer = ap length less in
    let part = filter_le test m.edges in
    let keys = ap length c.drop_edges_at.ensures.keys in
    let before = length_keys m.nodes in
    let between = length_keys mid in
    let after = ap length c.remove.ensures.rows in
    let most = length_without mid a in
    smaller_graph m.nodes c.remove.new.self m.edges c.drop_edges_at.new.edges m.loops (subst (AreCounted (value_at c.remove.new.self)) (sym less) counted)
    (λ f. subst HasNoLoop (sym less) (all_filter (λ (e : Edge). same e.0 e.1 ≡ false) test m.edges (c.self.invariant.no_loops f))) (omega (arith, keys, before, between, after, most)) (omega (arith, fewer, part)) c.self.invariant.small

pub returns-clause-answer : goal.returns-clause-answer
returns-clause-answer g c =
    let m = c.self.inside in
    sym (node_test m.nodes c.args.a c.args.self.now.nodes (ap (λ (x : Graph). x.nodes) c.self.view_is) ∙ ap is_some (sym c.probe.ensures) ∙ c.is_none.ensures ∙ ap not c.if-is_none.false)

pub returns-clause-network : goal.returns-clause-network
returns-clause-network g c =
    let m = c.self.inside in
    let a = c.args.a in
    let mid = c.drop_edges_at.new.nodes in
    let distinct = subst (IsDistinct same) (sym c.drop_edges_at.ensures.keys) c.len-len.ensures.distinct in
    let keys = ap keys_of c.remove.ensures.rows ∙ less_keys a mid distinct ∙ ap (without_node a) c.drop_edges_at.ensures.keys in
    let edges = c.drop_edges_at.ensures.edges in
    (λ i. record { nodes = keys i; edges = edges i; directed = m.directed; loops = m.loops }) ∙ ap (λ (x : Graph). record x { nodes = without_node a x.nodes; edges = without_edges_at a x.edges }) c.self.view_is
