-- The row that follows a spot along a line of spots.
use Rattle.std.specs.Prelude.{◌≡◌, List, Option, Some, IfSome, option_map}
use Rattle.cell_rows.specs.declared.spotted.SpottedRow.{SpottedRow}
use Rattle.cell_rows.specs.CellSpots.{spots_of_cells}
use Rattle.vocabulary.specs.declared.items.Item.{Item}
use Rattle.view_laws.specs.declared.places.RowSpot.{RowSpot}
use Rattle.view_laws.specs.Following.{Follows}
use Rattle.view_laws.specs.Spots.{row_at}

-- its spot follows, and it is the row there
pub record IsNextIn (rows : List Item) (line : List RowSpot) (from : Option RowSpot) (found : Option SpottedRow) : Type 0 where
  pub next : Follows line from (option_map (λ (f : SpottedRow). f.spot) found)
  pub row : IfSome found (λ (f : SpottedRow). row_at (spots_of_cells rows) rows f.spot ≡ Some f.row)
