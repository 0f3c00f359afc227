use Rattle.std.proofs.Common.{ap, ◌∙◌, length}
use Rattle.table_base.proofs.TurnedCells.{row_of}
use Rattle.table_base.proofs.tree_cells.TreeCells.row_len.Goals as goal

pub returns-clause-len : goal.returns-clause-len
returns-clause-len g c = c.count_of.ensures ∙ ap length (row_of c.self.inside.rows c.args.self.now c.args.r c.self.view_is)
