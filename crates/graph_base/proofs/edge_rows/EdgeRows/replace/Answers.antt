use Rattle.std.proofs.Common.{sym, ap, ◌∙◌, subst}
use Rattle.std.specs.Prelude.{IsSome}
use Rattle.std.specs.Option.{option_map}
use Rattle.std.specs.HashMap as hash
use Rattle.slab.specs.Slab.{get}
use Rattle.graph_base.specs.Ends.{same_ends}
use Rattle.graph_base.specs.Edges.{Edge, value_joining, with_edge}
use Rattle.graph_base.specs.EdgeRows.{EdgeList, AreEdges, edges_of}
use Rattle.graph_base.proofs.HeldEdges.{no_edge, row_there, its_edge, written, written_edges}
use Rattle.graph_base.proofs.edge_rows.EdgeRows.replace.Goals as goal

pub returns-in_err-number-clause-value : goal.returns-in_err-number-clause-value
returns-in_err-number-clause-value c =
    let m = c.self.inside in
    c.from_residual.ensures
    ∙ sym (ap (option_map (λ (e : Edge). e.2)) (no_edge m.directed m.rows m.halves (hash.get same_ends m.index) (get m.numbers) c.self.invariant c.args.a.now c.args.b.now (sym c.find_number.ensures ∙ c.in_err-number.was)))
    ∙ ap (λ (x : EdgeList). value_joining x.directed c.args.a.now c.args.b.now x.edges) c.self.view_is

pub unwrap-row-requires : goal.unwrap-row-requires
unwrap-row-requires c =
    let m = c.self.inside in
    subst IsSome (sym c.probe.ensures)
    (row_there m.directed m.rows m.halves (hash.get same_ends m.index) (get m.numbers) c.self.invariant c.args.a.now c.args.b.now c.in_ok-number.number (sym c.find_number.ensures ∙ c.in_ok-number.was) c.len-len.ensures.distinct)

pub invariant_of-self : goal.invariant_of-self
invariant_of-self c =
    let m = c.self.inside in
    let after = written m.directed m.rows m.halves (hash.get same_ends m.index) (get m.numbers) c.self.invariant c.args.a.now c.args.b.now c.in_ok-number.number (sym c.find_number.ensures ∙ c.in_ok-number.was) c.len-len.ensures.distinct c.unwrap-row.result
    (sym c.probe.ensures ∙ c.unwrap-row.ensures) c.args.v.now in
    subst (λ rs. AreEdges m.directed rs m.halves (hash.get same_ends m.index) (get m.numbers)) (sym c.write_value.ensures) after

pub returns-clause-value : goal.returns-clause-value
returns-clause-value c =
    let m = c.self.inside in
    sym
    (ap (option_map (λ (e : Edge). e.2))
    (its_edge m.directed m.rows m.halves (hash.get same_ends m.index) (get m.numbers) c.self.invariant c.args.a.now c.args.b.now c.in_ok-number.number (sym c.find_number.ensures ∙ c.in_ok-number.was) c.len-len.ensures.distinct c.unwrap-row.result
    (sym c.probe.ensures ∙ c.unwrap-row.ensures)))
    ∙ ap (λ (x : EdgeList). value_joining x.directed c.args.a.now c.args.b.now x.edges) c.self.view_is

pub returns-clause-edges : goal.returns-clause-edges
returns-clause-edges c =
    let m = c.self.inside in
    let valued = written_edges m.directed m.rows m.halves (hash.get same_ends m.index) (get m.numbers) c.self.invariant c.args.a.now c.args.b.now c.in_ok-number.number (sym c.find_number.ensures ∙ c.in_ok-number.was) c.len-len.ensures.distinct c.unwrap-row.result
    (sym c.probe.ensures ∙ c.unwrap-row.ensures) c.args.v.now in
    let whole = ap edges_of c.write_value.ensures ∙ valued in
    (λ i. record { edges = whole i; directed = m.directed }) ∙ ap (λ (x : EdgeList). record x { edges = with_edge x.directed c.args.a.now c.args.b.now c.args.v.now x.edges }) c.self.view_is
