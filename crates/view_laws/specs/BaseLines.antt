-- Walks along lanes that came down to a base.
use Rattle.std.specs.Prelude.{◌≡◌, Bool, true, false, List, map, Some}
use Rattle.vocabulary.specs.declared.items.Item.{Item}
use Rattle.vocabulary.specs.Kinds.{shape_of_kind}
use Rattle.machine.specs.Bases.{World}
use Rattle.machine.specs.Leaves.{Leaf, leaf_at}
use Rattle.machine.specs.MadeViews.{IsMade}
use Rattle.machine.specs.Views.{View, base, base_under}
use Rattle.view_laws.specs.declared.lanes.Lane.{Lane}
use Rattle.view_laws.specs.declared.lanes.Pick.TheVariants.{Each}
use Rattle.view_laws.specs.declared.places.RowSpot.{RowSpot}
use Rattle.view_laws.specs.ItemForms.{has_form, stands_on_pieces}
use Rattle.view_laws.specs.Lanes.{line, takes, turned_if}
use Rattle.view_laws.specs.LanesDown.{lane_down}
use Rattle.view_laws.specs.RowForm.{form_of, is_by_row}
use Rattle.view_laws.specs.RowPlaces.{spots_taken}
use Rattle.view_laws.specs.Spots.{Spots, TellAll}
use Rattle.view_laws.specs.ViewPlaces.{place_of}

-- the spots of the rows in a lane that visits each, from the front or from the back
abbrev pub spot_line : List RowSpot → List Item → Lane → Bool → List RowSpot
spot_line spots rows lane back = turned_if back (spots_taken (takes lane) spots rows)

-- a walk along such a lane of a base goes from spot to spot
abbrev pub LineOfBase : Type 0
LineOfBase = (world : World) (spots : Spots) (l : Leaf) (lane : Lane) (back : Bool) → TellAll world spots → lane.pick ≡ Each
    → line world spots (base l) lane back ≡ map place_of (spot_line (spots l) (leaf_at world l).rows lane back)

-- a row that a view has, and whose item a lane of it takes, is taken by the lane of the base to which that comes down
abbrev pub TakesDown : Type 0
TakesDown =
    (world : World) (v : View) (lane below : Lane) (back b : Bool) (row : Item) → IsMade world v → stands_on_pieces world v ≡ false → is_by_row world v ≡ true → lane.pick ≡ Each
    → has_form (shape_of_kind (leaf_at world (base_under v)).kind) row ≡ true → lane_down world v lane back ≡ Some (below, b)
    → (form_of v).takes row ≡ true → takes lane ((form_of v).item row) ≡ true → takes below row ≡ true
