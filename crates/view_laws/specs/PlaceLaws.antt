-- The laws of places.
use Rattle.std.specs.Prelude.{◌≡◌, ◌<◌, ℕ, map, length, Some}
use Rattle.machine.specs.Bases.{World}
use Rattle.machine.specs.Views.{View, candidates, weight}
use Rattle.view_laws.specs.declared.places.Place.{Place}
use Rattle.view_laws.specs.Places.{found_in}
use Rattle.view_laws.specs.Spots.{Spots, TellAll}
use Rattle.view_laws.specs.ViewPlaces.{places, show, StandsFor}

-- a view has at its places, in order, what its candidates show
abbrev pub Labels : Type 0
Labels = (world : World) (spots : Spots) (v : View) → TellAll world spots → map (show world spots v) (places world spots v) ≡ map Some (map found_in (candidates world v))

-- as many places as candidates
abbrev pub AsManyPlaces : Type 0
AsManyPlaces = (world : World) (spots : Spots) (v : View) → TellAll world spots → length (places world spots v) ≡ length (candidates world v)

-- each place stands in one of the bases under the view
abbrev pub LeavesInView : Type 0
LeavesInView = (world : World) (spots : Spots) (v : View) (p : Place) (i : ℕ) → StandsFor world spots v p i → p.leaf < weight v
