use Rattle.std.proofs.Common.{sym, ap, ◌∙◌}
use Rattle.view_laws.specs.Spots.{row_at}
use Rattle.cell_rows.specs.CellRows.{rows_of}
use Rattle.cell_rows.specs.CellSpots.{spots_of_cells}
use Rattle.cell_rows.proofs.DropLemmas.{is_cell_spot}
use Rattle.cell_rows.proofs.ThreadCells.{row_at_cell}
use Rattle.cell_rows.proofs.cell_rows.CellRows.row_at.Goals as goal

pub returns-in-Cell-clause-row : goal.returns-in-Cell-clause-row
returns-in-Cell-clause-row g c =
    let rows = rows_of c.args.self.now in
    c.row_of_cell.ensures.row ∙ sym (ap (row_at (spots_of_cells rows) rows) c.in-Cell.is ∙ row_at_cell rows c.in-Cell.r c.in-Cell.c)

pub returns-in_default : goal.returns-in_default
returns-in_default g c = absurd (is_cell_spot (rows_of c.args.self.now) c.args.at.now c.requires c.in_default.not-Cell)
