-- Walks over what a view shows.
use Rattle.std.specs.Prelude.{◌≡◌, ℕ, zero, suc, Bool, ◌<◌, List, [], ◌∷◌, length, map, filter, slice_get, drop, Option, None, Some, if◌then◌else◌}
use Rattle.base_store.specs.Courses.{IsCourse, line_at}
use Rattle.base_store.specs.Stored.{Stored, view_in}
use Rattle.read_chain.specs.declared.walks.Walk.{Walk}
use Rattle.vocabulary.specs.declared.items.Item.{Item}
use Rattle.view_laws.specs.declared.places.Found.{Found}
use Rattle.view_laws.specs.declared.places.RowSpot.{RowSpot}
use Rattle.view_laws.specs.Lanes.{all, turned_if}
use Rattle.view_laws.specs.Places.{found_in}
use Rattle.machine.specs.Views.{candidates}

-- the spot of the last of so many that were passed
abbrev pub IsAt : List RowSpot → ℕ → Option RowSpot → Type 0
IsAt spots zero None = Unit {0}
IsAt spots zero (Some s) = ⊥
IsAt spots (suc i) None = ⊥
IsAt spots (suc i) (Some s) = slice_get spots i ≡ Some s

-- a walk over a node of the store
pub record IsWalk (s : Stored) (w : Walk) : Type 0 where
  pub node : w.node < length s.nodes
  pub course : IsCourse s.world (view_in s w.node) all w.back w.course
  pub at : IsAt (line_at s.world w.course.base w.course.lane w.course.back) w.passed w.last

abbrev pub is_seen_there : Found → Bool
is_seen_there d = d.seen

abbrev pub item_there : Found → Item
item_there d = d.item

-- the item that is seen at a place, by what the view has there
abbrev pub shown_there : Option Found → Option Item
shown_there None = None
shown_there (Some d) = if d.seen then Some d.item else None

-- the items of what is seen
abbrev pub seen_items : List Found → List Item
seen_items found = map item_there (filter is_seen_there found)

-- what a view shows, or hides, from the front or from the back
abbrev pub found_along : Stored → ℕ → Bool → List Found
found_along s n back = turned_if back (map found_in (candidates s.world (view_in s n)))

-- the items that a walk still has to come to
abbrev pub to_come : Stored → Walk → List Item
to_come s w = seen_items (drop w.passed (found_along s w.node w.back))

-- the first of a list, and those behind it; or none, where the list is empty
abbrev pub TakesFirst : {X : Type 0} → List X → Option X → List X → Type 0
TakesFirst xs None rest = (xs ≡ []) × (rest ≡ [])
TakesFirst xs (Some x) rest = xs ≡ x ∷ rest
