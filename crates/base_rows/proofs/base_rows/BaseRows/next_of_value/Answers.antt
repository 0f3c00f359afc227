use Rattle.std.proofs.Common.{sym, ap, ◌∙◌, Some}
use Rattle.std.specs.Prelude.{option_map}
use Rattle.base_rows.specs.BaseRows.{base_spots, rows_of}
use Rattle.base_rows.specs.BaseSpots.{key_spot}
use Rattle.view_laws.specs.declared.places.RowSpot.TheVariants.{Key}
use Rattle.view_laws.specs.Spots as spots
use Rattle.base_rows.proofs.PairLemmas.{value_first, value_last, value_row}
use Rattle.base_rows.proofs.base_rows.BaseRows.next_of_value.Goals as goal

pub returns-in-Some-pair_of_value-clause-next : goal.returns-in-Some-pair_of_value-clause-next
returns-in-Some-pair_of_value-clause-next g c = λ back.
    value_first c.args.self.now c.requires.bimap c.len-len.ensures.keys c.args.v.now back c.args.from.now _ c.in-None.is
    (ap (λ k. Some (Key k)) c.key_of.ensures ∙ ap (option_map key_spot) (sym c.in-Some-pair_of_value.is ∙ c.pair_of_value.ensures.row))

pub returns-in-Some-pair_of_value-clause-row : goal.returns-in-Some-pair_of_value-clause-row
returns-in-Some-pair_of_value-clause-row g c =
    ap (λ k. spots.row_at (base_spots c.args.self.now) (rows_of c.args.self.now) (Key k)) c.key_of.ensures
    ∙ value_row c.args.self.now c.requires.bimap c.len-len.ensures.keys c.args.v.now c.in-Some-pair_of_value.row (sym c.pair_of_value.ensures.row ∙ c.in-Some-pair_of_value.is)

pub returns-in-None-pair_of_value-clause-next : goal.returns-in-None-pair_of_value-clause-next
returns-in-None-pair_of_value-clause-next g c = λ back.
    value_first c.args.self.now c.requires.bimap c.len-len.ensures.keys c.args.v.now back c.args.from.now _ c.in-None.is (ap (option_map key_spot) (sym c.in-None-pair_of_value.is ∙ c.pair_of_value.ensures.row))

pub returns-in-Some-clause-next : goal.returns-in-Some-clause-next
returns-in-Some-clause-next g c = λ back. value_last c.args.self.now c.requires.bimap c.len-len.ensures.keys c.args.v.now back c.args.from.now c.in-Some.field-0 c.in-Some.is
