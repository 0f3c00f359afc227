-- The threads of a table: all cells, those of a row, and those of a column.
use Rattle.std.specs.Prelude.{◌≡◌, Bool, true, false, List, filter, Option, None, Some, option_map, IfSome}
use Rattle.elem.specs.declared.elements.Elem.{Elem}
use Rattle.elem.specs.declared.cuts.Cut.TheVariants.{Below, Above}
use Rattle.elem.specs.declared.windows.Window.{Window}
use Rattle.elem.specs.Keyed.{value_at}
use Rattle.table_base.specs.Cells.{Cell, row, column}
use Rattle.view_laws.specs.declared.lanes.PartAsk.{PartAsk}
use Rattle.view_laws.specs.declared.places.RowSpot.{RowSpot}
use Rattle.view_laws.specs.declared.places.RowSpot.TheVariants as spot
use Rattle.view_laws.specs.Lanes.{meets, turned_if}
use Rattle.vocabulary.specs.declared.items.Side.{Side}
use Rattle.vocabulary.specs.declared.items.Side.TheVariants.{First, Second}

-- the columns and values of a row, or the rows and values of a column, in order
abbrev pub along : Side → Elem → List Cell → List (Elem × Elem)
along First r cells = row r cells
along Second c cells = column c cells

-- the spot of a cell of a row, by its column, or of a cell of a column, by its row
abbrev pub spot_along : Side → Elem → Elem → RowSpot
spot_along First r c = spot.Cell r c
spot_along Second c r = spot.Cell r c

-- that column, or that row
abbrev pub key_at : Side → RowSpot → Option Elem
key_at First (spot.Cell r c) = Some c
key_at Second (spot.Cell r c) = Some r
key_at side other = None

-- the row and the column that a spot is
abbrev pub parts_at : RowSpot → Option (Elem × Elem)
parts_at (spot.Cell r c) = Some (r, c)
parts_at other = None

-- those of some keys that are as asked, from the front or from the back
abbrev pub key_line : PartAsk → Bool → List Elem → List Elem
key_line ask back ks = turned_if back (filter (meets ask) ks)

-- none, or one of some rows, by its key and its value
abbrev pub IsOneOf : List (Elem × Elem) → Option (Elem × Elem) → Type 0
IsOneOf rows found = IfSome found (λ row. value_at rows row.0 ≡ Some row.1)

-- the key of an entry, and the row and the column of a cell, if there is one
abbrev pub key_in : Option (Elem × Elem) → Option Elem
key_in found = option_map (λ row. row.0) found

abbrev pub spot_in : Option (Elem × Elem × Elem) → Option (Elem × Elem)
spot_in found = option_map (λ cell. (cell.0, cell.1)) found

-- the part of a window behind an element, or all of it
abbrev pub rest_of : Window → Bool → Option Elem → Window
rest_of w back None = w
rest_of w false (Some k) = record { lo = Above k; hi = w.hi }
rest_of w true (Some k) = record { lo = w.lo; hi = Below k }
