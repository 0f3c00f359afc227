use Rattle.std.proofs.Common.{ap, ◌∙◌}
use Rattle.cell_rows.specs.CellRows.{cells_of, items, rows_of}
use Rattle.cell_rows.proofs.DropLemmas.{is_cell_spot, row_gone}
use Rattle.cell_rows.proofs.cell_rows.CellRows.remove.Goals as goal

pub returns-in-Cell-clause-rows : goal.returns-in-Cell-clause-rows
returns-in-Cell-clause-rows g c = λ numbers at. ap items c.remove_cell.ensures.cells ∙ row_gone c.in-Cell.r c.in-Cell.c (cells_of c.args.self.now) c.args.at.now numbers c.len-len.ensures.spots c.in-Cell.is at

pub returns-in_default : goal.returns-in_default
returns-in_default g c = absurd (is_cell_spot (rows_of c.args.self.now) c.args.at.now c.requires c.in_default.not-Cell)
