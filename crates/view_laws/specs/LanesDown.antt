-- A lane of a view, step by step down to its base: the lane and the direction there that give the same walk.
use Rattle.std.specs.Prelude.{◌≡◌, Bool, true, Option, None, Some}
use Rattle.std.specs.Option.{option_and_then}
use Rattle.machine.specs.Bases.{World}
use Rattle.machine.specs.Views.{View, base, both, over, base_under, shape_at}
use Rattle.view_laws.specs.declared.lanes.Lane.{Lane}
use Rattle.view_laws.specs.declared.lanes.Pick.TheVariants.{Each}
use Rattle.view_laws.specs.ItemForms.{IsFormed}
use Rattle.view_laws.specs.GroupOrders.{group_order_at}
use Rattle.view_laws.specs.Lanes.{line}
use Rattle.view_laws.specs.Narrowing.{flipped}
use Rattle.view_laws.specs.RowForm.{is_by_row}
use Rattle.view_laws.specs.ShapeNarrowing.{narrow_on}
use Rattle.view_laws.specs.Spots.{Spots}

-- the lane of the base, and whether its walk comes from the back, to which a walk along a lane of a view comes; a step
-- may pass none down, and two views have no one base
abbrev pub lane_down : World → View → Lane → Bool → Option (Lane × Bool)
lane_down world (base l) lane back = Some (lane, back)
lane_down world (over it v) lane back = option_and_then (λ below. lane_down world v below (flipped it back)) (narrow_on (shape_at world v) (group_order_at world v it) it lane)
lane_down world (both word v u) lane back = None

-- the walk there is the walk of the view
abbrev pub LineDown : Type 0
LineDown =
    (world : World) (spots : Spots) (v : View) (lane below : Lane) (back b : Bool) → IsFormed world v → lane_down world v lane back ≡ Some (below, b)
    → line world spots v lane back ≡ line world spots (base (base_under v)) below b

-- a lane of each candidate comes down to a lane of each, where each step goes row by row
abbrev pub EachDown : Type 0
EachDown = (world : World) (v : View) (lane below : Lane) (back b : Bool) → is_by_row world v ≡ true → lane.pick ≡ Each → lane_down world v lane back ≡ Some (below, b) → below.pick ≡ Each
