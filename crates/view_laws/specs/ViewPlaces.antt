-- Where the candidates of a view stand, and what the view has at a place.
use Rattle.std.specs.Prelude.{◌≡◌, ℕ, List, map, Option, Some, option_map, slice_get}
use Rattle.vocabulary.specs.Joins.{join_family}
use Rattle.vocabulary.specs.Steps.{family_of}
use Rattle.machine.specs.Bases.{World}
use Rattle.machine.specs.Leaves.{leaf_at}
use Rattle.machine.specs.Views.{View, base, both, over, candidates, order_over, weight}
use Rattle.view_laws.specs.declared.places.Found.{Found}
use Rattle.view_laws.specs.declared.places.Place.{Place}
use Rattle.view_laws.specs.declared.places.RowSpot.{RowSpot}
use Rattle.view_laws.specs.JoinPlaces.{places_both, shown_both}
use Rattle.view_laws.specs.Places.{found_row, places_over, shown_over}
use Rattle.view_laws.specs.Spots.{Spots, row_at}

abbrev pub place_of : RowSpot → Place
place_of s = record { leaf = 0; spot = s }

-- what a view has at a place
abbrev pub show : World → Spots → View → Place → Option Found
show world spots (base l) p = option_map found_row (row_at (spots l) (leaf_at world l).rows p.spot)
show world spots (over step v) p = shown_over (family_of step) step (candidates world v) (show world spots v) p
show world spots (both word v u) p = shown_both (join_family word) word (weight v) (candidates world v) (candidates world u) (show world spots v) (show world spots u) p

-- the places of a view's candidates, in the order of its walk
abbrev pub places : World → Spots → View → List Place
places world spots (base l) = map place_of (spots l)
places world spots (over step v) = places_over (family_of step) step (order_over world v step) (show world spots v) (places world spots v)
places world spots (both word v u) = places_both (join_family word) word (weight v) (candidates world v) (candidates world u) (places world spots v) (places world spots u)

-- a place in which candidate i of a view stands
abbrev pub StandsFor : World → Spots → View → Place → ℕ → Type 0
StandsFor world spots v p i = slice_get (places world spots v) i ≡ Some p
