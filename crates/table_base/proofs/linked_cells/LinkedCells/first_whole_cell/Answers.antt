use Rattle.std.proofs.Common.{◌∙◌, ap}
use Rattle.std.specs.Option.{option_map}
use Rattle.table_base.specs.Cells.{Table}
use Rattle.table_base.proofs.HeldCells.{held}
use Rattle.table_base.proofs.HeldSteps.{first_cell_held}
use Rattle.table_base.proofs.WholeCells.{spot_in, spot_of_cell, value_of_cell, first_of_all}
use Rattle.table_base.proofs.linked_cells.LinkedCells.first_whole_cell.Goals as goal

pub returns-clause-spot : goal.returns-clause-spot
returns-clause-spot g c = ap (option_map spot_in) c.cell_at_place.ensures ∙ spot_of_cell c.self.inside.nodes c.self.inside.all.first ∙ first_cell_held (held c.self.invariant.indexed (ap (λ (t : Table). t.cells) c.self.view_is))

pub returns-clause-value : goal.returns-clause-value
returns-clause-value g c =
    let h = held c.self.invariant.indexed (ap (λ (t : Table). t.cells) c.self.view_is) in
    value_of_cell h c.self.inside.all.first c.cell_at_place.result c.cell_at_place.ensures (first_of_all h)
