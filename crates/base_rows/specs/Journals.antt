-- Rows of a key and a value after a row was put, and after what was put is taken back.
use Rattle.std.specs.Prelude.{ℕ, cond, List, [], ◌∷◌, map, Option, None, Some, is_some}
use Rattle.elem.specs.declared.elements.Elem.{Elem}
use Rattle.elem.specs.Keyed.{value_at, with_value, without}
use Rattle.vocabulary.specs.declared.edits.Spot.{Spot}
use Rattle.vocabulary.specs.declared.edits.Spot.TheVariants.{Before, Instead}
use Rattle.vocabulary.specs.declared.items.Item.{Item}
use Rattle.vocabulary.specs.Items.{key_of}

module _ {V : Type 0} where
  -- the rows as items
  abbrev pub items_by : (Elem → V → Item) → List (Elem × V) → List Item
  items_by row_of rows = map (λ row. row_of row.0 row.1) rows

  -- the rows with v at k: in the place of the value that k has, or as a new row, which goes where the type puts it
  abbrev pub with_row : (List (Elem × V) → Elem → V → List (Elem × V)) → List (Elem × V) → Elem → V → List (Elem × V)
  with_row inserted rows k v = cond (is_some (value_at rows k)) (with_value rows k v) (inserted rows k v)

  -- the rows with an item, whose value is read by `value_in`
  abbrev pub with_item : (List (Elem × V) → Elem → V → List (Elem × V)) → (Item → V) → List (Elem × V) → Item → List (Elem × V)
  with_item inserted value_in rows item = with_row inserted rows (key_of item) (value_in item)

  -- the rows with k as it was before: with the value that it had, or without its row
  abbrev pub undone : List (Elem × V) → Elem → Option V → List (Elem × V)
  undone rows k None = without rows k
  undone rows k (Some v) = with_value rows k v

  -- the rows with all of a journal taken back, the last entry first
  abbrev pub all_undone : List (Elem × V) → List (Elem × Option V) → List (Elem × V)
  all_undone rows [] = rows
  all_undone rows (entry ∷ entries) = undone (all_undone rows entries) entry.0 entry.1

-- the index of a spot in a list of so many rows
abbrev pub index_in : Spot → ℕ → ℕ
index_in (Before i) size = i
index_in (Instead i) size = i
index_in other size = size
