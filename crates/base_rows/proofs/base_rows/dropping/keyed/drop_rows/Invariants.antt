use Rattle.std.proofs.Common.{◌≡◌, ◌++◌, take, drop, not}
use Rattle.std.specs.Prelude.{filter}
use Rattle.elem.specs.Rows.{first_key}
use Rattle.base_rows.proofs.base_rows.dropping.keyed.drop_rows.Given as goal

abbrev pub invariant-loop-row : goal.invariant-loop-row
invariant-loop-row g l = record {
  rows : g.K.FoundRows.rows l.rows ≡ filter (λ row. not (g.T.RowTest.passes l.test (g.V.RowValue.row_of row.0 row.1))) (take l._row (g.K.FoundRows.rows l.fn.rows)) ++ drop l._row (g.K.FoundRows.rows l.fn.rows);
  next : l.at ≡ first_key (drop l._row (g.K.FoundRows.rows l.fn.rows));
}
