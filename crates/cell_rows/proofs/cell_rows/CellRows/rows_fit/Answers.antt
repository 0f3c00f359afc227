use Rattle.cell_rows.specs.CellRows.{cells_of}
use Rattle.cell_rows.proofs.ThreadCells.{all_cells}
use Rattle.cell_rows.proofs.cell_rows.CellRows.rows_fit.Goals as goal

pub returns : goal.returns
returns c = all_cells (cells_of c.args.self.now)
