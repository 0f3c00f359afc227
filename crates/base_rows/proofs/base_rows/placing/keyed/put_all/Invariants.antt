use Rattle.std.proofs.Common.{◌≡◌, ◌+◌, ◌≤◌, take, length}
use Rattle.std.specs.Prelude.{fold}
use Rattle.std.specs.Vec.{vec_len, vec_capacity}
use Rattle.base_rows.specs.Journals.{all_undone, with_item}
use Rattle.base_rows.proofs.base_rows.placing.keyed.put_all.Given as goal

abbrev pub invariant-loop-row : goal.invariant-loop-row
invariant-loop-row g l = record {
  put : g.K.Keyed.rows l.rows ≡ fold (with_item g.K.Keyed.inserted g.V.RowValue.value_in) (g.K.Keyed.rows l.fn.rows) (take l.row-index l.added);
  counted : vec_len l.journal ≡ l.row-index;
  reserved : length l.added ≤ vec_capacity l.journal;
  back : all_undone (g.K.Keyed.rows l.rows) l.journal.items ≡ g.K.Keyed.rows l.fn.rows;
  few : length (g.K.Keyed.rows l.rows) ≤ length (g.K.Keyed.rows l.fn.rows) + l.room;
}
