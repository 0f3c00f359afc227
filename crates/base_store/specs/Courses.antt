-- The spots of the rows of a store's bases, and the courses that walks of its views take along them.
use Rattle.std.specs.Prelude.{◌≡◌, ℕ, Bool, if◌then◌else◌, List, Some}
use Rattle.base_rows.specs.BaseSpots.{numbered, spots_of}
use Rattle.base_store.specs.declared.store.courses.Course.{Course}
use Rattle.machine.specs.Bases.{World, base_at}
use Rattle.machine.specs.Leaves.{leaf_at}
use Rattle.machine.specs.Views.{View}
use Rattle.view_laws.specs.declared.lanes.Lane.{Lane}
use Rattle.view_laws.specs.declared.places.RowSpot.{RowSpot}
use Rattle.view_laws.specs.BaseLines.{spot_line}
use Rattle.view_laws.specs.LanesDown.{lane_down}
use Rattle.view_laws.specs.Serving.{Serves}
use Rattle.view_laws.specs.Spots.{Spots}
use Rattle.view_steps.specs.KnownViews.{has_none, number_under}

-- the spots of what stands at each leaf: those of a base, and numbers where steps at the foot made other rows of it
abbrev pub spots_in : World → Spots
spots_in world l = if has_none l.steps then spots_of (leaf_at world l).kind (leaf_at world l).rows else numbered 0 (leaf_at world l).rows

-- the spots of the rows of a base, and those of them in a lane
abbrev pub spots_at : World → ℕ → List RowSpot
spots_at world b = spots_of (base_at world b).kind (base_at world b).rows

abbrev pub line_at : World → ℕ → Lane → Bool → List RowSpot
line_at world b lane back = spot_line (spots_at world b) (base_at world b).rows lane back

-- a walk along a lane of a view is a walk along this course of the base under it
pub record IsCourse (world : World) (v : View) (lane : Lane) (back : Bool) (course : Course) : Type 0 where
  pub base : course.base ≡ number_under v
  pub down : lane_down world v lane back ≡ Some (course.lane, course.back)
  pub served : Serves (base_at world course.base).kind course.lane
