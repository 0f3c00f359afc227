use Rattle.std.proofs.Common.{sym, ap, ◌∙◌}
use Rattle.base_rows.specs.BaseRows.{base_spots, rows_of}
use Rattle.view_laws.specs.Spots as spots
use Rattle.base_rows.proofs.KeyedRows.{key_is_keyed, index_is_in_list, no_other_spot, row_at_its_index, row_at_its_key}
use Rattle.base_rows.proofs.base_rows.BaseRows.row_at.Goals as goal

pub row_of_key-requires : goal.row_of_key-requires
row_of_key-requires g c = key_is_keyed c.args.self.now c.args.at.now c.in-Key.k c.requires c.in-Key.is

pub returns-in-ArrayList-clause-row : goal.returns-in-ArrayList-clause-row
returns-in-ArrayList-clause-row g c = c.item_at.ensures.row ∙ sym (row_at_its_index c.args.self.now c.in-ArrayList.rows c.args.at.now c.in-Index.i c.in-ArrayList.is c.in-Index.is)

pub returns-in_default-self : goal.returns-in_default-self
returns-in_default-self g c = absurd (index_is_in_list c.args.self.now c.args.at.now c.in-Index.i c.in_default-self.not-ArrayList c.requires c.in-Index.is)

pub returns-in-Key-clause-row : goal.returns-in-Key-clause-row
returns-in-Key-clause-row g c =
    let keyed = key_is_keyed c.args.self.now c.args.at.now c.in-Key.k c.requires c.in-Key.is in
    c.row_of_key.ensures.row ∙ sym (ap (spots.row_at (base_spots c.args.self.now) (rows_of c.args.self.now)) c.in-Key.is ∙ row_at_its_key c.args.self.now c.in-Key.k keyed)

pub returns-in_default : goal.returns-in_default
returns-in_default g c = absurd (no_other_spot c.args.self.now c.args.at.now c.requires c.in_default.not-Index c.in_default.not-Key)
