use Rattle.std.proofs.Common.{◌∙◌}
use Rattle.table_base.proofs.CellLists.{turned_has}
use Rattle.table_base.proofs.linked_cells.LinkedCells.after_in_column.Goals as goal

pub after_in-requires : goal.after_in-requires
after_in-requires g c = turned_has c.args.r c.args.c c.args.self.now.cells ∙ c.requires
