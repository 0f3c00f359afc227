use Rattle.std.proofs.Common.{◌≡◌, ◌≤◌, ◌+◌, ◌*◌, false, length, take}
use Rattle.std.specs.Prelude.{slice_get}
use Rattle.cell_rows.specs.CellRows.{kind_of, rows_of}
use Rattle.cell_rows.specs.CellSpots.{cell_line}
use Rattle.cell_rows.specs.Reaches.{but}
use Rattle.cell_rows.proofs.DropLemmas.{is_among}
use Rattle.cell_rows.proofs.cell_rows.CellRows.drop_along.Given as goal

abbrev pub invariant-loop-row : goal.invariant-loop-row
invariant-loop-row g l = record {
  kind : kind_of l.self ≡ kind_of l.fn.self;
  rows : rows_of l.self ≡ but (g.T.RowTest.passes l.test) (is_among (take l._row (cell_line (rows_of l.fn.self) l.lane false))) (rows_of l.fn.self);
  next : slice_get (cell_line (rows_of l.fn.self) l.lane false) l._row ≡ l.at;
  within : l._row ≤ length (cell_line (rows_of l.fn.self) l.lane false);
  steps : l.steps ≤ l.fn.steps + 3 * l._row + 1;
}
