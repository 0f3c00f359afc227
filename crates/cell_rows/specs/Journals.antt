-- A table after a value was put, and after what was put is taken back.
use Rattle.std.specs.Prelude.{◌≡◌, List, [], ◌∷◌, Option, None, Some, IsSome}
use Rattle.elem.specs.declared.elements.Elem.{Elem}
use Rattle.cell_rows.specs.declared.journal.Before.{Before}
use Rattle.cell_rows.specs.CellRows.{items}
use Rattle.machine.specs.Placing.{placed}
use Rattle.table_base.specs.Cells.{Cell, value_in, with_value, without_cell}
use Rattle.vocabulary.specs.declared.items.Item.TheVariants as item
use Rattle.vocabulary.specs.declared.kinds.Kind.{Kind}

-- the cells with a row and a column as they were before: with the value that they had, or without their cell
abbrev pub undone : List Cell → Elem → Elem → Option Elem → List Cell
undone cells r c None = without_cell r c cells
undone cells r c (Some v) = with_value r c v cells

-- the cells with all of a journal taken back, the last entry first
abbrev pub all_undone : List Cell → List Before → List Cell
all_undone cells [] = cells
all_undone cells (entry ∷ entries) = undone (all_undone cells entries) entry.row entry.column entry.value

-- a value came to a row and a column: as a row that goes where the machine has it, in the place of a value that was
-- there; and it can be taken back
pub record IsPut (kind : Kind) (old : List Cell) (r c v : Elem) (before : Option Elem) (new : List Cell) : Type 0 where
  pub was : before ≡ value_in r c old
  pub rows : items new ≡ placed kind (items old) (item.Cell r c v)
  pub kept : IsSome before → new ≡ with_value r c v old
  pub back : undone new r c before ≡ old
