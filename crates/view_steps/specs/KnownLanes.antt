-- Lanes of views whose steps are known that come down to one that the base serves.
use Rattle.std.specs.Prelude.{◌≡◌, Bool, true, Option, None, Some}
use Rattle.elem.specs.declared.elements.Elem.{Elem}
use Rattle.elem.specs.Elements.{same}
use Rattle.vocabulary.specs.declared.items.Item.{Item}
use Rattle.vocabulary.specs.declared.items.Side.{Side}
use Rattle.vocabulary.specs.Items.{part_of}
use Rattle.vocabulary.specs.Kinds.{shape_of_kind}
use Rattle.vocabulary.specs.Known.{is_known_kind}
use Rattle.vocabulary.specs.Shapes.{is_unique}
use Rattle.machine.specs.Bases.{World}
use Rattle.machine.specs.Leaves.{leaf_at}
use Rattle.machine.specs.MadeViews.{IsMade}
use Rattle.machine.specs.Views.{View, base, both, over, base_under, shape_at}
use Rattle.view_laws.specs.declared.lanes.Lane.{Lane}
use Rattle.view_laws.specs.ItemForms.{has_form}
use Rattle.view_laws.specs.Lanes.{all, takes}
use Rattle.view_laws.specs.LanesDown.{lane_down}
use Rattle.view_laws.specs.Narrowing.{source_of}
use Rattle.view_laws.specs.RowForm.{form_of}
use Rattle.view_laws.specs.Serving.{Serves, of_part}
use Rattle.view_steps.specs.KnownViews.{is_known_view}

-- a lane of a view comes down to one that its base serves
pub record ComesDown (world : World) (v : View) (lane : Lane) (back : Bool) : Type 0 where
  pub below : Lane
  pub from_back : Bool
  pub down : lane_down world v lane back ≡ Some (below, from_back)
  pub served : Serves (leaf_at world (base_under v)).kind below

-- the whole walk of a view over a known base comes down
abbrev pub WalkComesDown : Type 0
WalkComesDown = (world : World) (v : View) (back : Bool) → is_known_view v ≡ true → is_known_kind (leaf_at world (base_under v)).kind ≡ true → IsMade world v → ComesDown world v all back

-- the part of a row of the base from which a part of an item comes: below one step, and on the whole way down
abbrev pub part_from : Option Side → Side → Side
part_from None side = side
part_from (Some below) side = below

abbrev pub part_below : View → Side → Side
part_below (base l) side = side
part_below (over it v) side = part_below v (part_from (source_of it side) side)
part_below (both word v u) side = side

-- what asks for a part comes down to a lane that takes the rows with that element in one part alone, which no two rows
-- of the base share
pub record PartDown (world : World) (v : View) (side : Side) (x : Elem) (back : Bool) : Type 0 where
  pub down : ComesDown world v (of_part side x) back
  pub unique : is_unique (shape_of_kind (leaf_at world (base_under v)).kind) (part_below v side) ≡ true
  pub alone : (row : Item) → takes down.below row ≡ true → same x (part_of (part_below v side) row) ≡ true

-- so does a look-up by a part that no two items share
abbrev pub PartComesDown : Type 0
PartComesDown =
    (world : World) (v : View) (side : Side) (x : Elem) (back : Bool) → is_known_view v ≡ true → is_known_kind (leaf_at world (base_under v)).kind ≡ true → IsMade world v → is_unique (shape_at world v) side ≡ true
    → PartDown world v side x back

-- such a part of an item is that part of its row
abbrev pub PartKept : Type 0
PartKept =
    (world : World) (v : View) (side : Side) (row : Item) → is_known_view v ≡ true → is_known_kind (leaf_at world (base_under v)).kind ≡ true → IsMade world v → is_unique (shape_at world v) side ≡ true
    → has_form (shape_of_kind (leaf_at world (base_under v)).kind) row ≡ true → part_of side ((form_of v).item row) ≡ part_of (part_below v side) row
