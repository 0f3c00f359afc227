use Rattle.std.proofs.Common.{◌≡◌, Option, Some, ◌∙◌, subst}
use Rattle.std.specs.Prelude.{IfSome}
use Rattle.elem.specs.declared.elements.Elem.{Elem}
use Rattle.table_base.specs.Cells.{value_in}
use Rattle.view_laws.specs.declared.places.RowSpot.TheVariants as spot
use Rattle.view_laws.specs.Spots.{row_at}
use Rattle.cell_rows.specs.CellRows.{items}
use Rattle.cell_rows.specs.CellSpots.{spots_of_cells}
use Rattle.cell_rows.proofs.ThreadCells.{row_at_spot}
use Rattle.cell_rows.proofs.cell_rows.reading.spotted.Goals as goal

pub returns-in-Some-clause-row : goal.returns-in-Some-clause-row
returns-in-Some-clause-row c = λ cells h.
    (λ i. row_at (spots_of_cells (items cells)) (items cells) (spot.Cell (c.key_of.ensures i) (c.second_of.ensures i)))
    ∙ row_at_spot cells c.in-Some.r c.in-Some.c c.in-Some.v (subst (λ (cell : Option (Elem × Elem × Elem)). IfSome cell (λ x. value_in x.0 x.1 cells ≡ Some x.2)) c.in-Some.is h)
