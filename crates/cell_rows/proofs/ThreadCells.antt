-- The cells of a row and of a column: where one is there, and their values.
use Rattle.std.proofs.Common.{◌≡◌, Bool, true, false, cond, ◌&&◌, List, [], ◌∷◌, Some, refl, ap, sym, ◌∙◌, subst}
use Rattle.std.specs.Prelude.{option_map, IsSome}
use Rattle.std.specs.Map.{lookup}
use Rattle.elem.specs.declared.elements.Elem.{Elem}
use Rattle.elem.specs.Elements.{same}
use Rattle.elem.specs.ElementLaws.{same-Decides, same_equiv}
use Rattle.elem.specs.Keyed.{value_at, IsPresent}
use Rattle.table_base.specs.Cells.{Cell, row, value_in, HasCell}
use Rattle.table_base.proofs.CellLists.{turned_value}
use Rattle.vocabulary.specs.declared.items.Item.{Item}
use Rattle.vocabulary.specs.declared.items.Item.TheVariants as item
use Rattle.vocabulary.specs.declared.items.Side.TheVariants.{Second}
use Rattle.vocabulary.specs.Items.{key_of, second_of}
use Rattle.view_laws.specs.declared.places.RowSpot.TheVariants as spot
use Rattle.view_laws.specs.Spots.{row_at}
use Rattle.cell_rows.specs.CellRows.{items, item_of, AreCells}
use Rattle.cell_rows.specs.CellSpots.{row_of_cell, spots_of_cells}
use Rattle.cell_rows.specs.Threads.{along}

pub all_cells : (cells : List Cell) → AreCells (items cells)
all_cells [] = tt
all_cells (x ∷ cells) = (tt, all_cells cells)

-- what a column has at a row is what the row has at the column
pub column_cell : (cells : List Cell) (r c : Elem) → IsPresent (along Second c cells) r → HasCell r c cells
column_cell cells r c h = subst IsSome (turned_value r c cells) h

pub column_value : (cells : List Cell) (r c v : Elem) → value_at (along Second c cells) r ≡ Some v → value_in r c cells ≡ Some v
column_value cells r c v h = sym (turned_value r c cells) ∙ h

-- the row of a row and a column is their value, whole
pub cell_found : (cells : List Cell) (r c : Elem) → row_of_cell (items cells) r c ≡ option_map (item.Cell r c) (value_in r c cells)
cell_found [] r c = refl
cell_found (x ∷ cells) r c = by (same r x.0) refl (cell_found cells r c)
  where
    by_column : (b : Bool) → same c x.1.0 ≡ b → same r x.0 ≡ true → row_of_cell (items cells) r c ≡ option_map (item.Cell r c) (value_in r c cells)
        → cond b (Some (item_of x)) (row_of_cell (items cells) r c) ≡ option_map (item.Cell r c) (cond b (Some x.1.1) (value_in r c cells))
    by_column true f e ih = λ i. Some (item.Cell (sym ((same-Decides r x.0).0 e) i) (sym ((same-Decides c x.1.0).0 f) i) x.1.1)
    by_column false f e ih = ih

    by : (b : Bool) → same r x.0 ≡ b → row_of_cell (items cells) r c ≡ option_map (item.Cell r c) (value_in r c cells)
        → cond (b && same c x.1.0) (Some (item_of x)) (row_of_cell (items cells) r c) ≡ option_map (item.Cell r c) (lookup (same c) (cond b (x.1 ∷ row r cells) (row r cells)))
    by true e ih = by_column (same c x.1.0) refl e ih
    by false e ih = ih

-- and it is the row at their spot
pub row_at_cell : (rows : List Item) (r c : Elem) → row_at (spots_of_cells rows) rows (spot.Cell r c) ≡ row_of_cell rows r c
row_at_cell [] r c = refl
row_at_cell (x ∷ rows) r c = (λ i. cond (same_equiv.symm (key_of x) r i && same_equiv.symm (second_of x) c i) (Some x) (row_at_cell rows r c i))

pub row_at_spot : (cells : List Cell) (r c v : Elem) → value_in r c cells ≡ Some v → row_at (spots_of_cells (items cells)) (items cells) (spot.Cell r c) ≡ Some (item.Cell r c v)
row_at_spot cells r c v h = row_at_cell (items cells) r c ∙ cell_found cells r c ∙ ap (option_map (item.Cell r c)) h
