use Rattle.std.proofs.Common.{◌≡◌, sym, ap, ◌∙◌, arith, to_z, of_z, w32, to_z-of_z}
use Rattle.std.specs.Prelude.{is_some, pos, Some, None}
use Rattle.elem.specs.Keyed.{value_at}
use Rattle.mm_base.specs.KeyedRows.{contains}
use Rattle.graph_base.specs.Degrees.{degree_by, degree_of, out_of, into}
use Rattle.graph_base.specs.Graphs.{Graph}
use Rattle.graph_base.proofs.GraphSteps.{counts_fit}
use Rattle.graph_base.proofs.GraphAnswers.{when_true, when_false, node_test}
use Rattle.network_base.specs.Sides.{way_of}
use Rattle.network_base.proofs.network_rows.NetworkRows.degree.Goals as goal

pub returns-in-None-clause-answer : goal.returns-in-None-clause-answer
returns-in-None-clause-answer g c =
    let m = c.self.inside in
    when_false (contains c.args.a c.args.self.now.nodes) _ _ (node_test m.nodes c.args.a c.args.self.now.nodes (ap (λ (x : Graph). x.nodes) c.self.view_is) ∙ ap is_some (sym c.probe.ensures ∙ c.in-None.is))

pub degree_by-requires-clause-leaving : goal.degree_by-requires-clause-leaving
degree_by-requires-clause-leaving g c =
    let m = c.self.inside in
    let fit = (counts_fit (value_at m.nodes) m.edges c.self.invariant.counts c.args.a c.in-Some.degrees (sym c.probe.ensures ∙ c.in-Some.is)).0 in
    let small = c.self.invariant.small in
    omega (arith, fit, small)

pub degree_by-requires-clause-entering : goal.degree_by-requires-clause-entering
degree_by-requires-clause-entering g c =
    let m = c.self.inside in
    let fit = (counts_fit (value_at m.nodes) m.edges c.self.invariant.counts c.args.a c.in-Some.degrees (sym c.probe.ensures ∙ c.in-Some.is)).1 in
    let small = c.self.invariant.small in
    omega (arith, fit, small)

pub returns-in-Some-clause-answer : goal.returns-in-Some-clause-answer
returns-in-Some-clause-answer g c =
    let m = c.self.inside in
    let a = c.args.a in
    let found = sym c.probe.ensures ∙ c.in-Some.is in
    let counts = c.self.invariant.counts.counted a c.in-Some.degrees found in
    let directed = ap (λ (x : Graph). x.directed) c.self.view_is in
    let leaving = counts.0 ∙ ap (λ (x : Graph). out_of a x.edges) c.self.view_is in
    let entering = counts.1 ∙ ap (λ (x : Graph). into a x.edges) c.self.view_is in
    let whole : c.degree_by.result ≡ pos (degree_of c.args.self.now.directed (way_of c.args.side) a c.args.self.now.edges) = c.degree_by.ensures ∙ (λ i. pos (degree_by (directed i) (c.way_of-way.ensures i) (leaving i) (entering i))) in
    let kept : to_z w32 (of_z w32 c.degree_by.result) ≡ c.degree_by.result = grind (arith, to_z-of_z) in
    ap Some (kept ∙ whole)
    ∙ when_true (contains c.args.a c.args.self.now.nodes) (Some (pos (degree_of c.args.self.now.directed (way_of c.args.side) a c.args.self.now.edges))) None (node_test m.nodes a c.args.self.now.nodes (ap (λ (x : Graph). x.nodes) c.self.view_is) ∙ ap is_some found)
