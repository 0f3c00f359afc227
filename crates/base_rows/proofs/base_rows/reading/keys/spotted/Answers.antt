use Rattle.base_rows.proofs.KeyedRows.{found_by_key}
use Rattle.base_rows.proofs.base_rows.reading.keys.spotted.Goals as goal

pub returns-in-Some-clause-row : goal.returns-in-Some-clause-row
returns-in-Some-clause-row g c = λ rows one. found_by_key g.V.RowValue.row_of g.met.V.RowValue.key_kept rows c.args.row c.in-Some.k c.in-Some.v c.row-row.result c.in-Some.is c.row-row.ensures one
