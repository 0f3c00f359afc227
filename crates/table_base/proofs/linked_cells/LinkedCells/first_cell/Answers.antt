use Rattle.std.proofs.Common.{◌∙◌, ap}
use Rattle.table_base.specs.Cells.{Table}
use Rattle.table_base.proofs.HeldCells.{held}
use Rattle.table_base.proofs.HeldSteps.{first_cell_held}
use Rattle.table_base.proofs.linked_cells.LinkedCells.first_cell.Goals as goal

pub returns-clause-spot : goal.returns-clause-spot
returns-clause-spot g c = c.spot_of_place.ensures ∙ first_cell_held (held c.self.invariant.indexed (ap (λ (t : Table). t.cells) c.self.view_is))
