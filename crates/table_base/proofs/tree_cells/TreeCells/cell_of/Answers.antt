use Rattle.std.proofs.Common.{sym, ap, ◌∙◌}
use Rattle.elem.specs.Keyed.{value_at}
use Rattle.table_base.specs.Cells.{value_in}
use Rattle.table_base.proofs.Results.{never_none}
use Rattle.table_base.proofs.TurnedCells.{row_of}
use Rattle.table_base.proofs.tree_cells.TreeCells.cell_of.Goals as goal

pub returns-in_err-value-clause-spot : goal.returns-in_err-value-clause-spot
returns-in_err-value-clause-spot c = absurd (never_none (value_in c.in_ok-row.row c.in_ok-row.column c.args.self.now) (c.requires (c.in_ok-row.row, c.in_ok-row.column) c.in_ok-row.was) (sym (ap (λ l. value_at l c.in_ok-row.column) (row_of c.self.inside.rows c.args.self.now c.in_ok-row.row c.self.view_is)) ∙ sym c.in_err-value.ensures))

pub returns-clause-value : goal.returns-clause-value
returns-clause-value c = sym (ap (λ l. value_at l c.in_ok-row.column) (row_of c.self.inside.rows c.args.self.now c.in_ok-row.row c.self.view_is)) ∙ sym c.in_ok-value.ensures
