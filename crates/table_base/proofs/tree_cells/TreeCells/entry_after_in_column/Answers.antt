use Rattle.std.proofs.Common.{sym, ap, ◌∙◌}
use Rattle.std.specs.Prelude.{is_some}
use Rattle.elem.specs.Elements.{same}
use Rattle.elem.specs.Keyed.{value_at}
use Rattle.elem.specs.Rows.{key_after}
use Rattle.plain_base.specs.TwoKeys.{group}
use Rattle.plain_base.proofs.SameKeys.{after_of_keys}
use Rattle.table_base.specs.Cells.{column}
use Rattle.table_base.proofs.CellLists.{turned_has}
use Rattle.table_base.proofs.KeysThere.{after_there}
use Rattle.table_base.proofs.TurnedCells.{row_of, column_keys}
use Rattle.table_base.proofs.tree_cells.TreeCells.entry_after_in_column.Goals as goal

pub after_in-requires : goal.after_in-requires
after_in-requires g c = c.self.invariant c.args.r c.args.c ∙ ap (λ l. is_some (value_at l c.args.c)) (row_of c.self.inside.rows c.args.self.now c.args.r c.self.view_is) ∙ c.requires

pub entry_of_column-requires : goal.entry_of_column-requires
entry_of_column-requires g c x e = sym (turned_has x c.args.c c.args.self.now) ∙ after_there (same c.args.r) (column c.args.c c.args.self.now) x (sym (c.after_in.ensures ∙ after_of_keys (same c.args.r) (group c.args.c c.self.inside.columns) (column c.args.c c.self.inside.rows) (column_keys c.args.c c.self.inside.rows c.self.inside.columns c.self.invariant c.len-len.ensures.order c.len-columns_len.ensures.order) ∙ ap (λ cells. key_after (same c.args.r) (column c.args.c cells)) c.self.view_is) ∙ e)

pub returns-clause-row : goal.returns-clause-row
returns-clause-row g c = c.entry_of_column.ensures.row ∙ c.after_in.ensures ∙ after_of_keys (same c.args.r) (group c.args.c c.self.inside.columns) (column c.args.c c.self.inside.rows) (column_keys c.args.c c.self.inside.rows c.self.inside.columns c.self.invariant c.len-len.ensures.order c.len-columns_len.ensures.order) ∙ ap (λ cells. key_after (same c.args.r) (column c.args.c cells)) c.self.view_is
