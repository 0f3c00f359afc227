use Rattle.std.proofs.Common.{sym, ap, ◌∙◌, arith}
use Rattle.std.specs.Prelude.{option_map}
use Rattle.std.proofs.lemmas.List.{length-map}
use Rattle.std.proofs.lemmas.Option.{slice_get-map}
use Rattle.base_rows.specs.BaseRows.{items}
use Rattle.vocabulary.specs.declared.items.Item.TheVariants.{One}
use Rattle.base_rows.proofs.IndexLines.{next_within}
use Rattle.base_rows.proofs.ListRowLemmas.{past_end}
use Rattle.base_rows.proofs.SpotsTold.{row_at_index}
use Rattle.base_rows.proofs.base_rows.reading.indexes.next_item.Goals as goal

pub returns-in_err-x-clause-next : goal.returns-in_err-x-clause-next
returns-in_err-x-clause-next g c =
    let rows = c.args.rows.now in
    let within = next_within (items rows) c.args.back c.args.from c.next_index.result c.in_ok-i.i c.requires c.next_index.ensures c.in_ok-i.was in
    let past = past_end rows c.in_ok-i.i (sym c.at.ensures.item ∙ c.in_err-x.was) in
    absurd (omega (arith, within, past, length-map rows One))

pub returns-clause-row : goal.returns-clause-row
returns-clause-row g c =
    let rows = c.args.rows.now in
    row_at_index (items rows) c.in_ok-i.i ∙ slice_get-map One rows c.in_ok-i.i ∙ ap (option_map One) (sym c.at.ensures.item ∙ c.in_ok-x.was)
