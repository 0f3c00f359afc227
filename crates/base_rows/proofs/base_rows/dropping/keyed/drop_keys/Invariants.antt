use Rattle.std.proofs.Common.{◌≡◌, ◌≤◌, ◌+◌, ◌*◌, take, drop}
use Rattle.std.specs.List.{list_any}
use Rattle.std.specs.Map.{keys_of}
use Rattle.elem.specs.declared.elements.Elem.{Elem}
use Rattle.elem.specs.Elements.{same}
use Rattle.elem.specs.Rows.{first_key}
use Rattle.base_rows.proofs.KeyDrops.{but}
use Rattle.base_rows.proofs.base_rows.dropping.keyed.drop_keys.Given as goal

abbrev pub invariant-loop-key : goal.invariant-loop-key
invariant-loop-key g l = record {
  rows : g.K.FoundRows.rows l.rows ≡ but (λ (row : Elem × g.row.V.Denot). g.T.RowTest.passes l.test (g.V.RowValue.row_of row.0 row.1)) (λ (row : Elem × g.row.V.Denot). list_any (λ k. same k row.0) (keys_of (take l._key l.keys))) (g.K.FoundRows.rows l.fn.rows);
  next : l.at ≡ first_key (drop l._key l.keys);
  steps : l.steps ≤ l.fn.steps + 2 * l._key;
}
