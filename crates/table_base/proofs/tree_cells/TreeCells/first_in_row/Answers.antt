use Rattle.std.proofs.Common.{ap, ◌∙◌}
use Rattle.elem.specs.Rows.{first_key}
use Rattle.table_base.proofs.TurnedCells.{row_of}
use Rattle.table_base.proofs.tree_cells.TreeCells.first_in_row.Goals as goal

pub returns-clause-column : goal.returns-clause-column
returns-clause-column g c = c.first_of.ensures ∙ ap first_key (row_of c.self.inside.rows c.args.self.now c.args.r c.self.view_is)
