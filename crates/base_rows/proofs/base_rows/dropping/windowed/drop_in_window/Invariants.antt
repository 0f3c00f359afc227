use Rattle.std.proofs.Common.{◌≡◌, true, length}
use Rattle.elem.specs.declared.elements.Elem.{Elem}
use Rattle.elem.specs.Cuts.{cut_upto}
use Rattle.plain_base.specs.Sorted.{rows_between}
use Rattle.base_rows.proofs.WindowDrops.{gone_outside}
use Rattle.base_rows.proofs.base_rows.dropping.windowed.drop_in_window.Given as goal

abbrev pub invariant-loop-k : goal.invariant-loop-k
invariant-loop-k g l = record {
  window : cut_upto g.C.Compare.before l.rest.lo l.rest.hi ≡ true;
  rows : l.rows ≡ gone_outside g.C.Compare.before (λ (row : Elem × g.row.V.Denot). g.T.RowTest.passes l.test (g.V.RowValue.row_of row.0 row.1)) l.rest.lo l.rest.hi l.fn.rows;
}

abbrev pub decreases-loop-k : goal.decreases-loop-k
decreases-loop-k g l = length (rows_between g.C.Compare.before l.rest.lo l.rest.hi l.fn.rows)
