use Rattle.std.proofs.Common.{◌≡◌, take}
use Rattle.std.specs.Prelude.{slice_get}
use Rattle.std.specs.Map.{keys_of}
use Rattle.cell_rows.specs.CellRows.{kind_of, rows_of}
use Rattle.cell_rows.specs.Reaches.{but}
use Rattle.cell_rows.proofs.LineDrops.{is_in}
use Rattle.cell_rows.proofs.cell_rows.CellRows.drop_lines.Given as goal

abbrev pub invariant-loop-part : goal.invariant-loop-part
invariant-loop-part g l = record {
  kind : kind_of l.self ≡ kind_of l.fn.self;
  rows : rows_of l.self ≡ but (g.T.RowTest.passes l.test) (is_in l.side (take l._part (keys_of l.parts))) (rows_of l.fn.self);
  next : l.at ≡ slice_get (keys_of l.parts) l._part;
}
