use Rattle.std.proofs.Common.{◌≡◌, length}
use Rattle.cell_rows.specs.CellRows.{cells_of, kind_of}
use Rattle.cell_rows.specs.Journals.{all_undone}
use Rattle.cell_rows.proofs.cell_rows.CellRows.undo_all.Given as goal

abbrev pub invariant-loop-entry : goal.invariant-loop-entry
invariant-loop-entry g l = record {
  kind : kind_of l.self ≡ kind_of l.fn.self;
  cells : all_undone (cells_of l.self) l.journal.items ≡ all_undone (cells_of l.fn.self) l.fn.journal.items;
}

abbrev pub decreases-loop-entry : goal.decreases-loop-entry
decreases-loop-entry g l = length l.journal.items
