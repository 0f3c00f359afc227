use Rattle.std.proofs.Common.{sym, ap, ◌∙◌}
use Rattle.elem.specs.Rows.{first_key}
use Rattle.table_base.specs.Cells.{row}
use Rattle.table_base.proofs.KeysThere.{first_there}
use Rattle.table_base.proofs.TurnedCells.{row_of}
use Rattle.table_base.proofs.tree_cells.TreeCells.first_entry_in_row.Goals as goal

pub entry_of_row-requires : goal.entry_of_row-requires
entry_of_row-requires g c x e = first_there (row c.args.r c.args.self.now) x (sym (c.first_of.ensures ∙ ap (first_key) (row_of c.self.inside.rows c.args.self.now c.args.r c.self.view_is)) ∙ e)

pub returns-clause-column : goal.returns-clause-column
returns-clause-column g c = c.entry_of_row.ensures.column ∙ c.first_of.ensures ∙ ap (first_key) (row_of c.self.inside.rows c.args.self.now c.args.r c.self.view_is)
