use Rattle.table_base.proofs.RemovedCells.{column_removed}
use Rattle.table_base.proofs.linked_cells.LinkedCells.remove_column.Goals as goal

pub returns-clause-cells : goal.returns-clause-cells
returns-clause-cells g c = column_removed c.args.c c.args.self.now.cells c.remove_all.new.self.cells c.remove_all.ensures.cells
