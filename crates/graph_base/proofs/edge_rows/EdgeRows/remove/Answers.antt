use Rattle.std.proofs.Common.{refl, sym, ap, ◌∙◌, subst}
use Rattle.std.specs.Prelude.{IsSome}
use Rattle.std.specs.HashMap as hash
use Rattle.slab.specs.Slab.{get}
use Rattle.graph_base.specs.Ends.{same_ends, ends}
use Rattle.graph_base.specs.Edges.{edge_joining, without_edge}
use Rattle.graph_base.specs.EdgeRows.{EdgeList, AreEdges, edges_of}
use Rattle.graph_base.proofs.HeldEdges.{no_edge, all_stay, taken_none, row_there, its_edge, its_halves, place_taken, removed, removed_edges}
use Rattle.graph_base.proofs.EdgeRowsSteps.{refound}
use Rattle.graph_base.proofs.edge_rows.EdgeRows.remove.Goals as goal

pub invariant_of-self : goal.invariant_of-self
invariant_of-self c =
    let m = c.self.inside in
    let find = hash.get same_ends m.index in
    refound m.directed m.rows m.halves find (hash.get same_ends c.take_number.new.index) (get m.numbers) (get m.numbers)
    (taken_none find (hash.get same_ends c.take_number.new.index) (ends m.directed c.args.a.now c.args.b.now) (sym c.take_number.ensures.number ∙ c.in_err-number.was) c.take_number.ensures.updates) (λ p. refl) c.self.invariant

pub returns-in_err-number-clause-edge : goal.returns-in_err-number-clause-edge
returns-in_err-number-clause-edge c =
    let m = c.self.inside in
    c.from_residual.ensures ∙ sym (no_edge m.directed m.rows m.halves (hash.get same_ends m.index) (get m.numbers) c.self.invariant c.args.a.now c.args.b.now (sym c.take_number.ensures.number ∙ c.in_err-number.was))
    ∙ ap (λ (x : EdgeList). edge_joining x.directed c.args.a.now c.args.b.now x.edges) c.self.view_is

pub returns-in_err-number-clause-edges : goal.returns-in_err-number-clause-edges
returns-in_err-number-clause-edges c =
    let m = c.self.inside in
    let stay = all_stay m.directed m.rows m.halves (hash.get same_ends m.index) (get m.numbers) c.self.invariant c.args.a.now c.args.b.now (sym c.take_number.ensures.number ∙ c.in_err-number.was) in
    (λ i. record { edges = sym stay i; directed = m.directed }) ∙ ap (λ (x : EdgeList). record x { edges = without_edge x.directed c.args.a.now c.args.b.now x.edges }) c.self.view_is

pub unwrap-row-requires : goal.unwrap-row-requires
unwrap-row-requires c =
    let m = c.self.inside in
    subst IsSome (sym c.remove.ensures.value)
    (row_there m.directed m.rows m.halves (hash.get same_ends m.index) (get m.numbers) c.self.invariant c.args.a.now c.args.b.now c.in_ok-number.number (sym c.take_number.ensures.number ∙ c.in_ok-number.was) c.len-len.ensures.distinct)

pub drop_halves-requires : goal.drop_halves-requires
drop_halves-requires c =
    let m = c.self.inside in
    its_halves m.directed m.rows m.halves (hash.get same_ends m.index) (get m.numbers) c.self.invariant c.args.a.now c.args.b.now c.in_ok-number.number (sym c.take_number.ensures.number ∙ c.in_ok-number.was) c.len-len.ensures.distinct c.unwrap-row.result
    (sym c.remove.ensures.value ∙ c.unwrap-row.ensures)

pub remove-requires-2 : goal.remove-requires-2
remove-requires-2 c =
    let m = c.self.inside in
    place_taken m.directed m.rows m.halves (hash.get same_ends m.index) (get m.numbers) c.self.invariant c.args.a.now c.args.b.now c.in_ok-number.number (sym c.take_number.ensures.number ∙ c.in_ok-number.was) c.len-len.ensures.distinct c.unwrap-row.result
    (sym c.remove.ensures.value ∙ c.unwrap-row.ensures)

pub invariant_of-self-2 : goal.invariant_of-self-2
invariant_of-self-2 c =
    let m = c.self.inside in
    let after = removed m.directed m.rows m.halves (hash.get same_ends m.index) (get m.numbers) c.self.invariant c.args.a.now c.args.b.now c.in_ok-number.number (sym c.take_number.ensures.number ∙ c.in_ok-number.was) c.len-len.ensures.distinct c.unwrap-row.result
    (sym c.remove.ensures.value ∙ c.unwrap-row.ensures) c.drop_halves.new.halves (hash.get same_ends c.take_number.new.index) (get c.remove-2.new.self) c.drop_halves.ensures c.take_number.ensures.updates c.remove-2.ensures.updates.others in
    subst (λ rs. AreEdges m.directed rs c.drop_halves.new.halves (hash.get same_ends c.take_number.new.index) (get c.remove-2.new.self)) (sym c.remove.ensures.rows) after

pub returns-clause-edge : goal.returns-clause-edge
returns-clause-edge c =
    let m = c.self.inside in
    sym
    (its_edge m.directed m.rows m.halves (hash.get same_ends m.index) (get m.numbers) c.self.invariant c.args.a.now c.args.b.now c.in_ok-number.number (sym c.take_number.ensures.number ∙ c.in_ok-number.was) c.len-len.ensures.distinct c.unwrap-row.result
    (sym c.remove.ensures.value ∙ c.unwrap-row.ensures))
    ∙ ap (λ (x : EdgeList). edge_joining x.directed c.args.a.now c.args.b.now x.edges) c.self.view_is

pub returns-clause-edges : goal.returns-clause-edges
returns-clause-edges c =
    let m = c.self.inside in
    let less = removed_edges m.directed m.rows m.halves (hash.get same_ends m.index) (get m.numbers) c.self.invariant c.args.a.now c.args.b.now c.in_ok-number.number (sym c.take_number.ensures.number ∙ c.in_ok-number.was) c.len-len.ensures.distinct c.unwrap-row.result
    (sym c.remove.ensures.value ∙ c.unwrap-row.ensures) in
    let whole = ap edges_of c.remove.ensures.rows ∙ less in
    (λ i. record { edges = whole i; directed = m.directed }) ∙ ap (λ (x : EdgeList). record x { edges = without_edge x.directed c.args.a.now c.args.b.now x.edges }) c.self.view_is
