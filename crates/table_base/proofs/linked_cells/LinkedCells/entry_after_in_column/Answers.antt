use Rattle.std.proofs.Common.{◌∙◌}
use Rattle.table_base.proofs.CellLists.{turned_has}
use Rattle.table_base.proofs.linked_cells.LinkedCells.entry_after_in_column.Goals as goal

pub entry_after-requires : goal.entry_after-requires
entry_after-requires g c = turned_has c.args.r c.args.c c.args.self.now.cells ∙ c.requires
