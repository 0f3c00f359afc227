-- What becomes of the places of a view that goes row by row, where its base has one row less or one row more.
use Rattle.std.specs.Prelude.{◌≡◌, ◌≤◌, ℕ, Bool, true, not, if◌then◌else◌, List, filter, insert, length, take, Some, slice_get}
use Rattle.std.specs.List.{remove}
use Rattle.vocabulary.specs.declared.items.Item.{Item}
use Rattle.machine.specs.Bases.{World}
use Rattle.machine.specs.Leaves.{Leaf, leaf_at}
use Rattle.machine.specs.Views.{View, base_under}
use Rattle.view_laws.specs.declared.places.Place.{Place}
use Rattle.view_laws.specs.declared.places.RowSpot.{RowSpot}
use Rattle.view_laws.specs.Lanes.{turned_if}
use Rattle.view_laws.specs.RowForm.{form_of, is_by_row}
use Rattle.view_laws.specs.Spots.{Spots, TellAll, same_spot}
use Rattle.view_laws.specs.ViewPlaces.{place_of, places}

-- a leaf before and after row n goes, whose spot is s
pub record LosesRow (world : World) (spots : Spots) (after : World) (left : Spots) (l : Leaf) (n : ℕ) (s : RowSpot) : Type 0 where
  pub fewer_rows : (leaf_at after l).rows ≡ remove (leaf_at world l).rows n
  pub fewer_spots : left l ≡ remove (spots l) n
  pub at : slice_get (spots l) n ≡ Some s

-- the places then are the others
abbrev pub PlacesWithout : Type 0
PlacesWithout =
    (world after : World) (spots left : Spots) (v : View) (n : ℕ) (s : RowSpot) → is_by_row world v ≡ true → is_by_row after v ≡ true → TellAll world spots → TellAll after left → LosesRow world spots after left (base_under v) n s
    → places after left v ≡ filter (λ (p : Place). not (same_spot s p.spot)) (places world spots v)

-- a leaf before and after a row comes at n, with the spot s
pub record GainsRow (world : World) (spots : Spots) (after : World) (more : Spots) (l : Leaf) (n : ℕ) (s : RowSpot) (row : Item) : Type 0 where
  pub more_rows : (leaf_at after l).rows ≡ insert (leaf_at world l).rows n row
  pub more_spots : more l ≡ insert (spots l) n s
  pub within : n ≤ length (spots l)

-- places with one more, which is counted from the back where the walk is turned round
abbrev pub with_place : Bool → ℕ → Place → List Place → List Place
with_place turned i p ps = turned_if turned (insert (turned_if turned ps) i p)

-- the places then are one more, behind those of the rows before it, or they are the same
abbrev pub PlacesWith : Type 0
PlacesWith =
    (world after : World) (spots more : Spots) (v : View) (n : ℕ) (s : RowSpot) (row : Item) → is_by_row world v ≡ true → is_by_row after v ≡ true → TellAll world spots → TellAll after more → GainsRow world spots after more (base_under v) n s row
    → places after more v
    ≡ (if (form_of v).takes row then with_place (form_of v).turned (length (filter (form_of v).takes (take n (leaf_at world (base_under v)).rows))) (place_of s) (places world spots v) else places world spots v)
