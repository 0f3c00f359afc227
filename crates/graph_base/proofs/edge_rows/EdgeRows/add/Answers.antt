use Rattle.std.proofs.Common.{Some, refl, sym, ap, ◌∙◌, subst, append-nil, ◌++◌, []}
use Rattle.std.specs.HashMap as hash
use Rattle.std.proofs.lemmas.Map.{NonePasses, lookup-none}
use Rattle.slab.specs.Slab.{get, Updates}
use Rattle.elem.specs.Elements.{same}
use Rattle.mm_base.proofs.Results.{on_err_of, on_ok_of}
use Rattle.graph_base.specs.declared.edge_row.EdgeRow.{EdgeRow}
use Rattle.graph_base.specs.Ends.{same_ends}
use Rattle.graph_base.specs.Edges.{edge_joining, with_edge}
use Rattle.graph_base.specs.EdgeRows.{EdgeList, AreEdges, edges_of, halves_between}
use Rattle.graph_base.proofs.HeldEdges.{pushed, added_edges}
use Rattle.graph_base.proofs.EdgeRowsSteps.{refound}
use Rattle.graph_base.proofs.edge_rows.EdgeRows.add.Goals as goal

pub invariant_of-self-in_err-first : goal.invariant_of-self-in_err-first
invariant_of-self-in_err-first c =
    let m = c.self.inside in
    let find = hash.get same_ends m.index in
    let found = hash.get same_ends c.reserve-2.new.self in
    subst (λ hs. AreEdges m.directed m.rows hs found (get c.reserve.new.self)) (sym c.in_err-first.ensures.err)
    (refound m.directed m.rows m.halves find found (get m.numbers) (get c.reserve.new.self) c.reserve-2.ensures.entries.2 (λ p. ap (λ s. get s p) c.reserve.ensures.rest_kept) c.self.invariant)

pub insert-requires : goal.insert-requires
insert-requires c =
    let m = c.self.inside in
    let k = c.vacant_key-place.result in
    let vacant = sym (ap (λ s. get s k) c.reserve.ensures.rest_kept) ∙ c.vacant_key-place.ensures.vacant in
    lookup-none (same c.number_of-number.result) m.rows (subst (λ n. NonePasses (same n) m.rows) (sym c.number_of-number.ensures) (c.self.invariant.free k vacant))

pub invariant_of-self-then-is_err-3 : goal.invariant_of-self-then-is_err-3
invariant_of-self-then-is_err-3 c =
    let m = c.self.inside in
    let find = hash.get same_ends m.index in
    let found = hash.get same_ends c.reserve-2.new.self in
    let rows_are = on_err_of c.insert.result (sym c.is_err-3.ensures.value ∙ c.if-is_err-3.true) c.insert.ensures.err in
    let both = halves_between c.number_of-number.result c.args.a.now c.args.b.now c.in_ok-first.first c.in_ok-first.second in
    let halves_are = c.drop_halves.ensures m.halves [] (c.in_ok-first.ensures.ok ∙ ap (λ l. m.halves ++ l) (sym (append-nil both))) ∙ append-nil m.halves in
    subst (λ rs. AreEdges m.directed rs c.drop_halves.new.halves found (get c.reserve.new.self)) (sym rows_are)
    (subst (λ hs. AreEdges m.directed m.rows hs found (get c.reserve.new.self)) (sym halves_are)
    (refound m.directed m.rows m.halves find found (get m.numbers) (get c.reserve.new.self) c.reserve-2.ensures.entries.2 (λ p. ap (λ s. get s p) c.reserve.ensures.rest_kept) c.self.invariant))

pub invariant_of-self-2 : goal.invariant_of-self-2
invariant_of-self-2 c =
    let m = c.self.inside in
    let k = c.vacant_key-place.result in
    let find = hash.get same_ends m.index in
    let found = hash.get same_ends c.reserve-2.new.self in
    let row : EdgeRow = record { from = c.args.a.now; to = c.args.b.now; value = c.args.v.now; first = c.in_ok-first.first; second = c.in_ok-first.second; place = k } in
    let h = refound m.directed m.rows m.halves find found (get m.numbers) (get c.reserve.new.self) c.reserve-2.ensures.entries.2 (λ p. ap (λ s. get s p) c.reserve.ensures.rest_kept) c.self.invariant in
    let absent = ap (λ (x : EdgeList). edge_joining x.directed c.args.a.now c.args.b.now x.edges) c.self.view_is ∙ c.requires in
    let rows_are = on_ok_of c.insert.result (sym c.is_err-3.ensures.value ∙ c.if-is_err-3.false) c.insert.ensures.ok in
    let here = c.insert_reserved.ensures.key ∙ sym c.vacant_key-place.ensures.value in
    let updates = subst (λ p. Updates c.reserve.new.self c.insert_reserved.new.self p (Some tt)) here c.insert_reserved.ensures.updates in
    pushed m.directed m.rows c.insert.new.self m.halves c.add_halves.new.halves found (hash.get same_ends c.write_number.new.index) (get c.reserve.new.self) (get c.insert_reserved.new.self) k c.number_of-number.result row refl h absent c.number_of-number.ensures rows_are
    c.in_ok-first.ensures.ok c.write_number.ensures (updates.changed, updates.others)

pub returns-clause-ok : goal.returns-clause-ok
returns-clause-ok c =
    let m = c.self.inside in
    let row : EdgeRow = record { from = c.args.a.now; to = c.args.b.now; value = c.args.v.now; first = c.in_ok-first.first; second = c.in_ok-first.second; place = c.vacant_key-place.result } in
    let absent = ap (λ (x : EdgeList). edge_joining x.directed c.args.a.now c.args.b.now x.edges) c.self.view_is ∙ c.requires in
    let rows_are = on_ok_of c.insert.result (sym c.is_err-3.ensures.value ∙ c.if-is_err-3.false) c.insert.ensures.ok in
    let whole = ap edges_of rows_are ∙ added_edges m.directed m.rows m.halves (hash.get same_ends m.index) (get m.numbers) c.self.invariant c.args.a.now c.args.b.now c.number_of-number.result row absent refl refl in
    (λ i. record { edges = whole i; directed = m.directed }) ∙ ap (λ (x : EdgeList). record x { edges = with_edge x.directed c.args.a.now c.args.b.now c.args.v.now x.edges }) c.self.view_is
