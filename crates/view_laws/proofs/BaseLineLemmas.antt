-- A walk along a lane of a base that visits each candidate goes from spot to spot.
use Rattle.std.proofs.Common.{◌≡◌, Bool, cond, List, [], ◌∷◌, map, refl, ap, sym, ◌∙◌}
use Rattle.std.specs.Prelude.{filter, Option}
use Rattle.vocabulary.specs.declared.items.Item.{Item}
use Rattle.machine.specs.Bases.{World}
use Rattle.machine.specs.Leaves.{Leaf, leaf_at}
use Rattle.machine.specs.Views.{base, root}
use Rattle.view_laws.specs.declared.lanes.Lane.{Lane}
use Rattle.view_laws.specs.declared.lanes.Pick.TheVariants.{Each}
use Rattle.view_laws.specs.declared.places.Found.{Found}
use Rattle.view_laws.specs.declared.places.Place.{Place}
use Rattle.view_laws.specs.declared.places.RowSpot.{RowSpot}
use Rattle.view_laws.specs.BaseLines.{spot_line}
use Rattle.view_laws.specs.Lanes.{line, picked, takes, turned_if}
use Rattle.view_laws.specs.Places.{passes_at}
use Rattle.view_laws.specs.RowForm.{of_leaf}
use Rattle.view_laws.specs.RowPlaces.{spots_taken}
use Rattle.view_laws.specs.Spots.{Spots, TellAll}
use Rattle.view_laws.specs.ViewPlaces.{place_of, places, show}
use Rattle.view_laws.proofs.FormPlaces.{FoundAt, found_at}
use Rattle.view_laws.proofs.ListLemmas.{filter-map}
use Rattle.view_laws.proofs.RowLemmas.{turned-map}

-- the spots at which a test passes are those of the rows that pass it
spots_passing : (test : Item → Bool) (at : Place → Option Found) (spots : List RowSpot) (rows : List Item) → FoundAt at of_leaf spots rows → filter (λ s. passes_at test (at (place_of s))) spots ≡ spots_taken test spots rows
spots_passing test at [] rows z = refl
spots_passing test at (s ∷ spots) [] z = absurd z
spots_passing test at (s ∷ spots) (row ∷ rows) z = (λ i. cond (passes_at test (z.0 i)) (s ∷ spots_passing test at spots rows z.1 i) (spots_passing test at spots rows z.1 i))

pub line_of_base : (world : World) (spots : Spots) (l : Leaf) (lane : Lane) (back : Bool) → TellAll world spots → lane.pick ≡ Each
    → line world spots (base l) lane back ≡ map place_of (spot_line (spots l) (leaf_at world l).rows lane back)
line_of_base world spots l lane back tell each =
    let at : Place → Option Found = show world spots (base l) in
    let test : Place → Bool = λ p. passes_at (takes lane) (at p) in
    ap (λ pick. turned_if back (filter test (picked pick (root world (base l)).keys at (places world spots (base l))))) each
    ∙ ap (turned_if back) (filter-map test place_of (spots l) ∙ ap (map place_of) (spots_passing (takes lane) at (spots l) (leaf_at world l).rows (found_at world spots (base l) refl tell)))
    ∙ sym (turned-map place_of back (spots_taken (takes lane) (spots l) (leaf_at world l).rows))
