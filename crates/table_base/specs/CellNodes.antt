-- What nodes of cells mean: a thread goes through all, one through each row and one through each column, in the same
-- order, and an index finds the place of each cell.
use Rattle.std.specs.Prelude.{◌≡◌, ℕ, cond, Bool, false, List, [], ◌∷◌, ◌++◌, length, Option, Some, None}
use Rattle.std.specs.Option.{option_map}
use Rattle.slab.specs.Slab.{Slab, get, slab_len}
use Rattle.elem.specs.declared.elements.Elem.{Elem}
use Rattle.elem.specs.Elements.{same}
use Rattle.linked_base.specs.declared.links.Links.{Links}
use Rattle.linked_base.specs.declared.links.Ends.{Ends}
use Rattle.linked_base.specs.declared.group.Group.{Group}
use Rattle.linked_base.specs.Thread.{head_or, walk, IsThread, links_at}
use Rattle.linked_base.specs.Group.{some_used, of_key, AreGrouped}
use Rattle.linked_base.specs.Places.{rows_of, IsIndexed}
use Rattle.table_base.specs.declared.cell_nodes.CellNode.{CellNode}
use Rattle.table_base.specs.declared.sides.Side.{Side}
use Rattle.table_base.specs.declared.sides.Side.TheVariants.{Row, Column}
use Rattle.table_base.specs.declared.spots.Spot.{Spot}
use Rattle.table_base.specs.Spots.{spot_at}
use Rattle.table_base.specs.Cells.{Cell, transposed, IsGrouped, Table, with_new}

abbrev pub all_links : CellNode → Links
all_links n = n.all

abbrev pub links : Side → CellNode → Links
links Row n = n.in_row
links Column n = n.in_column

-- the row of a node, or from the other side its column
abbrev pub key : Side → CellNode → Elem
key Row n = n.row
key Column n = n.column

-- what a node is in its row, or from the other side in its column
abbrev pub rest : Side → CellNode → Elem × Elem
rest Row n = (n.column, n.value)
rest Column n = (n.row, n.value)

abbrev pub cell : Side → CellNode → Cell
cell s n = (key s n, rest s n)

abbrev pub key_at : Side → Slab CellNode → ℕ → Option Elem
key_at s nodes p = option_map (key s) (get nodes p)

abbrev pub rest_at : Side → Slab CellNode → ℕ → Option (Elem × Elem)
rest_at s nodes p = option_map (rest s) (get nodes p)

abbrev pub cell_at : Side → Slab CellNode → ℕ → Option Cell
cell_at s nodes p = option_map (cell s) (get nodes p)

abbrev pub no_links : Links
no_links = record { previous = None; next = None }

abbrev pub the_node : Elem → Elem → Elem → CellNode
the_node r c v = record { row = r; column = c; value = v; all = no_links; in_row = no_links; in_column = no_links }

-- with this group for the key
abbrev pub with_group : Elem → Group → (Elem → Option Group) → Elem → Option Group
with_group k g find x = cond (same k x) (some_used g) (find x)

-- the threads of these places, where `rows` and `columns` give the group of each row and column
pub record AreCells (nodes : Slab CellNode) (all : Ends) (rows columns : Elem → Option Group) (ps : List ℕ) : Type 0 where
  pub thread : IsThread (links_at all_links nodes) all ps
  pub in_rows : AreGrouped (key_at Row nodes) (links_at (links Row) nodes) rows ps
  pub in_columns : AreGrouped (key_at Column nodes) (links_at (links Column) nodes) columns ps
  pub count : slab_len nodes ≡ length ps

-- the spot of a row and a column, or from the other side of a column and a row
abbrev pub spot : Side → Elem → Elem → Spot
spot Row r c = spot_at r c
spot Column c r = spot_at r c

-- the groups of the rows, or from the other side those of the columns
abbrev pub groups_of : (rows columns : Elem → Option Group) → Side → Elem → Option Group
groups_of rows columns Row = rows
groups_of rows columns Column = columns

-- the cells of a table, or from the other side those of the table turned round
abbrev pub seen : Side → List Cell → List Cell
seen Row cells = cells
seen Column cells = transposed cells

-- the column of the node at a place, or from the other side its row
abbrev pub other_of : Side → Slab CellNode → Option ℕ → Option Elem
other_of s nodes None = None
other_of s nodes (Some p) = option_map (λ (n : CellNode). (rest s n).0) (get nodes p)

-- the row of the node at a place, or from the other side its column
abbrev pub key_of : Side → Slab CellNode → Option ℕ → Option Elem
key_of s nodes None = None
key_of s nodes (Some p) = key_at s nodes p

-- the row and the column of the node at a place
abbrev pub spot_of_place : Slab CellNode → Option ℕ → Option (Elem × Elem)
spot_of_place nodes None = None
spot_of_place nodes (Some p) = option_map (λ (n : CellNode). (n.row, n.column)) (get nodes p)

-- the row, the column and the value of the node at a place
abbrev pub whole_at : Slab CellNode → ℕ → Option (Elem × Elem × Elem)
whole_at nodes p = option_map (λ (n : CellNode). (n.row, n.column, n.value)) (get nodes p)

-- in each row, or from the other side in each column, what finds the place of a cell finds each one's, and no other
abbrev pub AreFound : (key : ℕ → Option Elem) (rest : ℕ → Option (Elem × Elem)) (find : Elem → Elem → Option ℕ) (ps : List ℕ) → Type 0
AreFound key rest find ps = (k : Elem) → IsIndexed rest (find k) (length (of_key key k ps)) (of_key key k ps)

-- the threads of these places, and the index of their cells
pub record AreIndexed (nodes : Slab CellNode) (all : Ends) (rows columns : Elem → Option Group) (index : Spot → Option ℕ) (ps : List ℕ) : Type 0 where
  pub cells : AreCells nodes all rows columns ps
  pub found : (s : Side) → AreFound (key_at s nodes) (rest_at s nodes) (λ k x. index (spot s k x)) ps

-- the places of the first cells in order
abbrev pub places : Slab CellNode → Ends → List ℕ
places nodes all = walk (links_at all_links nodes) (slab_len nodes) all.first

abbrev pub cells_now : Slab CellNode → Ends → List Cell
cells_now nodes all = rows_of (cell_at Row nodes) (places nodes all)

-- what the fields of a table are. Unless it is loose the cells of each row stand together.
pub record IsTable (nodes : Slab CellNode) (all : Ends) (rows columns : Elem → Option Group) (index : Spot → Option ℕ) (loose : Bool) : Type 0 where
  pub indexed : AreIndexed nodes all rows columns index (places nodes all)
  pub grouped : loose ≡ false → IsGrouped (cells_now nodes all)

abbrev pub table_now : Slab CellNode → Ends → Bool → Table
table_now nodes all loose = record { cells = cells_now nodes all; loose = loose }

-- where a new cell goes in the thread of all: the places are cut there, no later one is in its row, and the cells are those with the new one
pub record IsSpotFor (nodes : Slab CellNode) (loose : Bool) (r : Elem) (ps : List ℕ) (next : Option ℕ) : Type 0 where
  pub before : List ℕ
  pub after : List ℕ
  pub cut : ps ≡ before ++ after
  pub start : next ≡ head_or None after
  pub none : of_key (key_at Row nodes) r after ≡ []
  pub with_it : (x : Elem × Elem) → with_new (record { cells = rows_of (cell_at Row nodes) ps; loose = loose }) (r, x) ≡ rows_of (cell_at Row nodes) before ++ (r, x) ∷ rows_of (cell_at Row nodes) after
