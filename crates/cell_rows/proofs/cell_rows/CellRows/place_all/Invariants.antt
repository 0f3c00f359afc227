use Rattle.std.proofs.Common.{◌≡◌, ◌+◌, ◌≤◌, take, length}
use Rattle.std.specs.Prelude.{fold}
use Rattle.std.specs.Vec.{vec_len, vec_capacity}
use Rattle.machine.specs.Placing.{placed}
use Rattle.cell_rows.specs.CellRows.{cells_of, kind_of, rows_of}
use Rattle.cell_rows.specs.Journals.{all_undone}
use Rattle.cell_rows.proofs.cell_rows.CellRows.place_all.Given as goal

abbrev pub invariant-loop-row : goal.invariant-loop-row
invariant-loop-row g l = record {
  kind : kind_of l.self ≡ kind_of l.fn.self;
  put : rows_of l.self ≡ fold (placed (kind_of l.fn.self)) (rows_of l.fn.self) (take l.row-index l.rows);
  counted : vec_len l.journal ≡ l.row-index;
  reserved : length l.rows ≤ vec_capacity l.journal;
  back : all_undone (cells_of l.self) l.journal.items ≡ cells_of l.fn.self;
  few : length (rows_of l.self) ≤ length (rows_of l.fn.self) + l.room;
}
