-- What the types of tables mean as rows: one item for each cell.
use Rattle.std.specs.Prelude.{List, [], ◌∷◌, map}
use Rattle.cell_rows.specs.declared.cell_rows.CellRows.{CellRows}
use Rattle.cell_rows.specs.declared.cell_rows.CellRows.TheVariants as types
use Rattle.table_base.specs.Cells.{Cell}
use Rattle.vocabulary.specs.declared.items.Item.{Item}
use Rattle.vocabulary.specs.declared.items.Item.TheVariants as item
use Rattle.vocabulary.specs.declared.kinds.Kind.{Kind}
use Rattle.vocabulary.specs.declared.kinds.Kind.TheVariants as kind

-- a cell as an item: its row, its column and its value
abbrev pub item_of : Cell → Item
item_of x = item.Cell x.0 x.1.0 x.1.1

abbrev pub items : List Cell → List Item
items cells = map item_of cells

abbrev pub kind_of : CellRows → Kind
kind_of (types.Linked table) = kind.LinkedTable
kind_of (types.Sorted table) = kind.TreeBasedTable

abbrev pub cells_of : CellRows → List Cell
cells_of (types.Linked table) = table.cells.cells
cells_of (types.Sorted table) = table

abbrev pub rows_of : CellRows → List Item
rows_of table = items (cells_of table)

-- a row of a table is a cell
abbrev pub IsCell : Item → Type 0
IsCell (item.Cell r c v) = Unit {0}
IsCell other = ⊥

abbrev pub AreCells : List Item → Type 0
AreCells [] = Unit {0}
AreCells (row ∷ rows) = IsCell row × AreCells rows
