-- What writes do to the rows of a range set or a range map.
use Rattle.std.specs.Prelude.{ℕ, List, fold}
use Rattle.elem.specs.declared.elements.Elem.{Elem}
use Rattle.range_base.specs.Edits.{add, cut_out, put}
use Rattle.vocabulary.specs.declared.items.Item.{Item}
use Rattle.machine.specs.RangeViews.{map_items, map_rows, set_items, set_rows}

-- what is done to the ranges of a base: units are covered, with a value in a range map, or uncovered
pub data RangeWrite : Type 0 where
  covering : ℕ → ℕ → RangeWrite
  uncovering : ℕ → ℕ → RangeWrite
  putting : ℕ → ℕ → Elem → RangeWrite
  taking : ℕ → ℕ → RangeWrite

abbrev pub written : List Item → RangeWrite → List Item
written rows (covering lo hi) = set_items (add lo hi tt (set_rows rows))
written rows (uncovering lo hi) = set_items (cut_out lo hi (set_rows rows))
written rows (putting lo hi v) = map_items (put lo hi v (map_rows rows))
written rows (taking lo hi) = map_items (cut_out lo hi (map_rows rows))

-- one after another
abbrev pub written_all : List Item → List RangeWrite → List Item
written_all rows writes = fold written rows writes
