use Rattle.std.proofs.Common.{◌≡◌, ◌+◌, length}
use Rattle.table_base.specs.Cells.{row, without_row}
use Rattle.table_base.proofs.tree_cells.TreeCells.drop_row.Given as goal

abbrev pub invariant-loop-step : goal.invariant-loop-step
invariant-loop-step l = record {
  others : without_row l.r l.self ≡ without_row l.r l.fn.self;
  fewer : length (row l.r l.self) + l._step ≡ l.count;
}
