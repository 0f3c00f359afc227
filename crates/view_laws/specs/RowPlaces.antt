-- The rows behind the places of views that go row by row.
use Rattle.std.specs.Prelude.{◌≡◌, ◌≤◌, ℕ, Bool, true, if◌then◌else◌, List, [], ◌∷◌, map, length, get_or, Some, slice_get}
use Rattle.vocabulary.specs.declared.items.Item.{Item}
use Rattle.machine.specs.Bases.{World}
use Rattle.machine.specs.Candidates.{Candidate}
use Rattle.machine.specs.Leaves.{leaf_at}
use Rattle.machine.specs.Views.{View, base, base_under, candidates}
use Rattle.view_laws.specs.declared.places.Place.{Place}
use Rattle.view_laws.specs.declared.places.RowSpot.{RowSpot}
use Rattle.view_laws.specs.Lanes.{turned_if}
use Rattle.view_laws.specs.Places.{found_in, found_row}
use Rattle.view_laws.specs.RowForm.{form_of, found_row_by, is_by_row}
use Rattle.view_laws.specs.Spots.{Spots, TellAll}
use Rattle.view_laws.specs.ViewPlaces.{StandsFor, place_of, places, show}

-- the number of the one row that a candidate stands for
abbrev pub number_of : Candidate → ℕ
number_of c = get_or c.rows 0 0

-- a candidate stands for the row at the spot of its place, and the view has there what it shows
pub record IsOfRow (world : World) (spots : Spots) (v : View) (p : Place) (c : Candidate) : Type 0 where
  pub one : c.rows ≡ number_of c ∷ []
  pub spot : slice_get (spots (base_under v)) (number_of c) ≡ Some p.spot
  pub leaf : p.leaf ≡ 0
  pub shown : show world spots v p ≡ Some (found_in c)

abbrev pub RowAtPlace : Type 0
RowAtPlace = (world : World) (spots : Spots) (v : View) (p : Place) (i : ℕ) (c : Candidate) → is_by_row world v ≡ true → TellAll world spots → StandsFor world spots v p i → slice_get (candidates world v) i ≡ Some c → IsOfRow world spots v p c

-- no more candidates than rows
abbrev pub FewCandidates : Type 0
FewCandidates = (world : World) (v : View) → is_by_row world v ≡ true → length (candidates world v) ≤ length (leaf_at world (base_under v)).rows

-- what a view has at the place of a row of its base is what its form makes of that row
abbrev pub RowShown : Type 0
RowShown = (world : World) (spots : Spots) (v : View) (p : Place) (row : Item) → is_by_row world v ≡ true → show world spots (base (base_under v)) p ≡ Some (found_row row) → show world spots v p ≡ Some (found_row_by (form_of v) row)

-- the spots of the rows that pass
abbrev pub spots_taken : (Item → Bool) → List RowSpot → List Item → List RowSpot
spots_taken test [] rows = []
spots_taken test (s ∷ spots) [] = []
spots_taken test (s ∷ spots) (row ∷ rows) = if test row then s ∷ spots_taken test spots rows else spots_taken test spots rows

-- the places of a view are those of the rows that its form takes
abbrev pub PlacesOfRows : Type 0
PlacesOfRows =
    (world : World) (spots : Spots) (v : View) → is_by_row world v ≡ true → TellAll world spots
    → places world spots v ≡ turned_if (form_of v).turned (map place_of (spots_taken (form_of v).takes (spots (base_under v)) (leaf_at world (base_under v)).rows))
