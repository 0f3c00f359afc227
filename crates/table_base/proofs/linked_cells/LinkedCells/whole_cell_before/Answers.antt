use Rattle.std.proofs.Common.{◌∙◌, sym, ap}
use Rattle.std.specs.Option.{option_map}
use Rattle.table_base.specs.declared.sides.Side.TheVariants.{Row}
use Rattle.table_base.specs.Cells.{Table}
use Rattle.table_base.proofs.HeldCells.{held, found_held, node_held}
use Rattle.table_base.proofs.WholeCells.{spot_in, spot_of_cell, value_of_cell, before_cell_held, previous_of_all}
use Rattle.table_base.proofs.linked_cells.LinkedCells.whole_cell_before.Goals as goal

pub unwrap-place-requires : goal.unwrap-place-requires
unwrap-place-requires g c = found_held (held c.self.invariant.indexed (ap (λ (t : Table). t.cells) c.self.view_is)) Row c.args.r c.args.c c.place_of.result c.place_of.ensures c.requires

pub index-requires : goal.index-requires
index-requires g c = node_held (held c.self.invariant.indexed (ap (λ (t : Table). t.cells) c.self.view_is)) Row c.args.r c.args.c c.unwrap-place.result (sym c.place_of.ensures ∙ c.unwrap-place.ensures)

pub returns-clause-spot : goal.returns-clause-spot
returns-clause-spot g c =
    ap (option_map spot_in) c.cell_at_place.ensures ∙ spot_of_cell c.self.inside.nodes c.index.result.now.all.previous
    ∙ before_cell_held (held c.self.invariant.indexed (ap (λ (t : Table). t.cells) c.self.view_is)) c.args.r c.args.c c.unwrap-place.result (sym c.place_of.ensures ∙ c.unwrap-place.ensures) c.index.result.now c.index.ensures

pub returns-clause-value : goal.returns-clause-value
returns-clause-value g c =
    let h = held c.self.invariant.indexed (ap (λ (t : Table). t.cells) c.self.view_is) in
    let at = sym c.place_of.ensures ∙ c.unwrap-place.ensures in
    value_of_cell h c.index.result.now.all.previous c.cell_at_place.result c.cell_at_place.ensures (previous_of_all h c.args.r c.args.c c.unwrap-place.result at c.index.result.now c.index.ensures)
