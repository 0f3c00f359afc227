use Rattle.std.proofs.Common.{sym, ap, ◌∙◌}
use Rattle.elem.specs.Keyed.{value_at}
use Rattle.table_base.specs.Cells.{value_in}
use Rattle.table_base.proofs.CellLists.{turned_value}
use Rattle.table_base.proofs.Results.{never_none}
use Rattle.table_base.proofs.TurnedCells.{row_of}
use Rattle.table_base.proofs.tree_cells.TreeCells.entry_of_column.Goals as goal

pub returns-in_err-value-clause-row : goal.returns-in_err-value-clause-row
returns-in_err-value-clause-row c = absurd (never_none (value_in c.in_ok-row.row c.args.c.now c.args.self.now) (c.requires c.in_ok-row.row c.in_ok-row.was) (sym (ap (λ l. value_at l c.args.c.now) (row_of c.self.inside.rows c.args.self.now c.in_ok-row.row c.self.view_is)) ∙ sym c.in_err-value.ensures))

pub returns-clause-value : goal.returns-clause-value
returns-clause-value c = turned_value c.in_ok-row.row c.args.c.now c.args.self.now ∙ sym (ap (λ l. value_at l c.args.c.now) (row_of c.self.inside.rows c.args.self.now c.in_ok-row.row c.self.view_is)) ∙ sym c.in_ok-value.ensures
