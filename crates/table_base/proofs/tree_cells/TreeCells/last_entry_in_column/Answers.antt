use Rattle.std.proofs.Common.{sym, ap, ◌∙◌}
use Rattle.elem.specs.Rows.{last_key}
use Rattle.plain_base.specs.TwoKeys.{group}
use Rattle.table_base.specs.Cells.{column}
use Rattle.table_base.proofs.CellLists.{turned_has}
use Rattle.table_base.proofs.KeysThere.{last_there, last_of_keys, whole_part}
use Rattle.table_base.proofs.TurnedCells.{column_keys}
use Rattle.table_base.proofs.tree_cells.TreeCells.last_entry_in_column.Goals as goal

pub entry_of_column-requires : goal.entry_of_column-requires
entry_of_column-requires g c x e = sym (turned_has x c.args.c c.args.self.now) ∙ last_there (column c.args.c c.args.self.now) x (sym (c.last_of_in.ensures ∙ ap last_key (whole_part (group c.args.c c.self.inside.columns)) ∙ last_of_keys (group c.args.c c.self.inside.columns) (column c.args.c c.self.inside.rows) (column_keys c.args.c c.self.inside.rows c.self.inside.columns c.self.invariant c.len-len.ensures.order c.len-columns_len.ensures.order) ∙ ap (λ cells. last_key (column c.args.c cells)) c.self.view_is) ∙ e)

pub returns-clause-row : goal.returns-clause-row
returns-clause-row g c = c.entry_of_column.ensures.row ∙ c.last_of_in.ensures ∙ ap last_key (whole_part (group c.args.c c.self.inside.columns)) ∙ last_of_keys (group c.args.c c.self.inside.columns) (column c.args.c c.self.inside.rows) (column_keys c.args.c c.self.inside.rows c.self.inside.columns c.self.invariant c.len-len.ensures.order c.len-columns_len.ensures.order) ∙ ap (λ cells. last_key (column c.args.c cells)) c.self.view_is
