use Rattle.std.proofs.Common.{sym, ap, ◌∙◌}
use Rattle.std.specs.Prelude.{option_map}
use Rattle.vocabulary.specs.declared.items.Item.TheVariants as item
use Rattle.cell_rows.specs.CellRows.{cells_of}
use Rattle.cell_rows.proofs.ThreadCells.{cell_found}
use Rattle.cell_rows.proofs.cell_rows.CellRows.row_of_cell.Goals as goal

pub returns-in-Some-clause-row : goal.returns-in-Some-clause-row
returns-in-Some-clause-row g c = sym (cell_found (cells_of c.args.self.now) c.args.r.now c.args.c.now ∙ ap (option_map (item.Cell c.args.r.now c.args.c.now)) (sym c.value_at.ensures.value ∙ c.in-Some.is))

pub returns-in-None-clause-row : goal.returns-in-None-clause-row
returns-in-None-clause-row g c = sym (cell_found (cells_of c.args.self.now) c.args.r.now c.args.c.now ∙ ap (option_map (item.Cell c.args.r.now c.args.c.now)) (sym c.value_at.ensures.value ∙ c.in-None.is))
