use Rattle.std.proofs.Common.{◌∙◌, sym, ap}
use Rattle.std.specs.Option.{option_map}
use Rattle.linked_base.specs.declared.links.Links.{Links}
use Rattle.table_base.specs.Cells.{Table}
use Rattle.table_base.specs.CellNodes.{other_of}
use Rattle.table_base.proofs.HeldCells.{held, found_held, node_held, after_in_held}
use Rattle.table_base.proofs.WholeCells.{other_of_entry, value_of_entry, next_in_row}
use Rattle.table_base.proofs.linked_cells.LinkedCells.entry_after.Goals as goal

pub unwrap-place-requires : goal.unwrap-place-requires
unwrap-place-requires c = found_held (held c.self.invariant.indexed (ap (λ (t : Table). t.cells) c.self.view_is)) c.args.side c.args.k.now c.args.x.now c.place_at.result c.place_at.ensures c.requires

pub index-requires : goal.index-requires
index-requires c = node_held (held c.self.invariant.indexed (ap (λ (t : Table). t.cells) c.self.view_is)) c.args.side c.args.k.now c.args.x.now c.unwrap-place.result (sym c.place_at.ensures ∙ c.unwrap-place.ensures)

pub returns-clause-column : goal.returns-clause-column
returns-clause-column c =
    ap (option_map (λ x. x.0)) c.entry_at.ensures ∙ other_of_entry c.self.inside.nodes c.args.side c.links_of.result.next
    ∙ ap (λ (l : Links). other_of c.args.side c.self.inside.nodes l.next) c.links_of.ensures
    ∙ after_in_held (held c.self.invariant.indexed (ap (λ (t : Table). t.cells) c.self.view_is)) c.args.side c.args.k.now c.args.x.now c.unwrap-place.result (sym c.place_at.ensures ∙ c.unwrap-place.ensures) c.index.result.now c.index.ensures

pub returns-clause-value : goal.returns-clause-value
returns-clause-value c =
    let h = held c.self.invariant.indexed (ap (λ (t : Table). t.cells) c.self.view_is) in
    let at = sym c.place_at.ensures ∙ c.unwrap-place.ensures in
    value_of_entry h c.args.side c.args.k.now c.links_of.result.next c.entry_at.result c.entry_at.ensures
    (λ q i. next_in_row h c.args.side c.args.k.now c.args.x.now c.unwrap-place.result at c.index.result.now c.index.ensures q (sym (ap (λ (l : Links). l.next) c.links_of.ensures) ∙ i))
