use Rattle.std.proofs.Common.{◌∙◌, sym, ap}
use Rattle.table_base.specs.declared.sides.Side.TheVariants.{Row}
use Rattle.table_base.specs.Cells.{Table}
use Rattle.table_base.proofs.HeldCells.{held, found_held, node_held}
use Rattle.table_base.proofs.HeldSteps.{after_cell_held}
use Rattle.table_base.proofs.linked_cells.LinkedCells.after_cell.Goals as goal

pub unwrap-place-requires : goal.unwrap-place-requires
unwrap-place-requires g c = found_held (held c.self.invariant.indexed (ap (λ (t : Table). t.cells) c.self.view_is)) Row c.args.r c.args.c c.place_of.result c.place_of.ensures c.requires

pub index-requires : goal.index-requires
index-requires g c = node_held (held c.self.invariant.indexed (ap (λ (t : Table). t.cells) c.self.view_is)) Row c.args.r c.args.c c.unwrap-place.result (sym c.place_of.ensures ∙ c.unwrap-place.ensures)

pub returns-clause-spot : goal.returns-clause-spot
returns-clause-spot g c =
    c.spot_of_place.ensures
    ∙ after_cell_held (held c.self.invariant.indexed (ap (λ (t : Table). t.cells) c.self.view_is)) c.args.r c.args.c c.unwrap-place.result (sym c.place_of.ensures ∙ c.unwrap-place.ensures) c.index.result.now c.index.ensures
