-- Bases: what each keeps, and the bases together, from which views are read.
use Rattle.std.specs.Prelude.{ℕ, Bool, false, List, [], get_or}
use Rattle.elem.specs.declared.elements.Elem.{Elem}
use Rattle.vocabulary.specs.declared.items.Item.{Item}
use Rattle.vocabulary.specs.declared.kinds.Kind.{Kind}
use Rattle.vocabulary.specs.declared.kinds.Kind.TheVariants.{LinkedHashMap}

-- a base: its kind, its rows in order, its keys in order where the kind keeps them, its change number, which rises with
-- each change of which rows there are, and whether it is frozen
pub record Base : Type 0 where
  pub kind : Kind
  pub rows : List Item
  pub keys : List Elem
  pub change : ℕ
  pub frozen : Bool

-- a base of a kind without rows
abbrev pub empty_base : Kind → Base
empty_base kind = record { kind = kind; rows = []; keys = []; change = 0; frozen = false }

-- what views are read from: the bases by their numbers
abbrev pub World : Type 0
World = List Base

-- the base of a number; a number that has none counts as an empty base
abbrev pub base_at : World → ℕ → Base
base_at world b = get_or world b (empty_base LinkedHashMap)
