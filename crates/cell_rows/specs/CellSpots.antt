-- What tells the rows of a table from one another: the row and the column of each cell.
use Rattle.std.specs.Prelude.{◌≡◌, ℕ, Bool, ◌&&◌, List, [], ◌∷◌, map, find, Option, Some, slice_get}
use Rattle.std.specs.List.{IsDistinct}
use Rattle.elem.specs.declared.elements.Elem.{Elem}
use Rattle.elem.specs.Elements.{same}
use Rattle.vocabulary.specs.declared.items.Item.{Item}
use Rattle.vocabulary.specs.Items.{key_of, second_of}
use Rattle.view_laws.specs.declared.lanes.Lane.{Lane}
use Rattle.view_laws.specs.declared.places.RowSpot.{RowSpot}
use Rattle.view_laws.specs.declared.places.RowSpot.TheVariants.{Cell}
use Rattle.view_laws.specs.BaseLines.{spot_line}
use Rattle.view_laws.specs.Spots.{TellRows}

abbrev pub cell_spot : Item → RowSpot
cell_spot row = Cell (key_of row) (second_of row)

abbrev pub spots_of_cells : List Item → List RowSpot
spots_of_cells rows = map cell_spot rows

-- the spots of the rows in a lane, from the front or from the back
abbrev pub cell_line : List Item → Lane → Bool → List RowSpot
cell_line rows lane back = spot_line (spots_of_cells rows) rows lane back

-- the row that has a row and a column of the table
abbrev pub row_of_cell : List Item → Elem → Elem → Option Item
row_of_cell rows r c = find (λ row. same r (key_of row) && same c (second_of row)) rows

-- two cells of one row and one column
abbrev pub shares_spot : Item → Item → Bool
shares_spot a b = same (key_of a) (key_of b) && same (second_of a) (second_of b)

-- no two rows are cells of one row and one column
abbrev pub HaveOwnSpots : List Item → Type 0
HaveOwnSpots rows = IsDistinct shares_spot rows

-- so the spots tell them apart
abbrev pub SpotsTell : Type 0
SpotsTell = (rows : List Item) → HaveOwnSpots rows → TellRows (spots_of_cells rows) rows

-- the numbers of the one row at a spot
pub record IsRowAt (spots : List RowSpot) (s : RowSpot) (numbers : List ℕ) : Type 0 where
  pub number : ℕ
  pub only : numbers ≡ number ∷ []
  pub at : slice_get spots number ≡ Some s
