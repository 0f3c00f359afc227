use Rattle.std.proofs.Common.{◌≡◌, ◌+◌, length}
use Rattle.table_base.specs.Cells.{row, without_row}
use Rattle.table_base.specs.CellNodes.{seen}
use Rattle.table_base.proofs.linked_cells.LinkedCells.remove_all.Given as goal

abbrev pub invariant-loop-step : goal.invariant-loop-step
invariant-loop-step l = record {
  others : without_row l.k (seen l.side l.self.cells) ≡ without_row l.k (seen l.side l.fn.self.cells);
  fewer : length (row l.k (seen l.side l.self.cells)) + l._step ≡ l.count;
  kind : l.self.loose ≡ l.fn.self.loose;
}
