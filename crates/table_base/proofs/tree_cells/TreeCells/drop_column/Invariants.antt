use Rattle.std.proofs.Common.{◌≡◌, ◌+◌, length}
use Rattle.table_base.specs.Cells.{column, transposed, without_row}
use Rattle.table_base.proofs.tree_cells.TreeCells.drop_column.Given as goal

abbrev pub invariant-loop-step : goal.invariant-loop-step
invariant-loop-step l = record {
  others : without_row l.c (transposed l.self) ≡ without_row l.c (transposed l.fn.self);
  fewer : length (column l.c l.self) + l._step ≡ l.count;
}
