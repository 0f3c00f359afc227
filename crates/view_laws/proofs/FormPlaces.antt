-- The places of a view that goes row by row, and what it has there, told by its form.
use Rattle.std.proofs.Common.{◌≡◌, ℕ, ◌+◌, Bool, true, false, cond, ◌&&◌, List, [], ◌∷◌, length, map, refl, ap, sym, ◌∙◌, arith}
use Rattle.std.specs.Prelude.{filter, Option, Some, option_map}
use Rattle.vocabulary.specs.declared.items.Item.{Item}
use Rattle.vocabulary.specs.declared.step_table.Family.{Family}
use Rattle.vocabulary.specs.declared.step_table.Family.TheVariants.{Same, Changed, Turned, Keyed, Hidden, Cut, Grouped, Run, Pieces}
use Rattle.vocabulary.specs.declared.steps.Step.{Step}
use Rattle.vocabulary.specs.Steps.{family_of, passes}
use Rattle.machine.specs.Bases.{World}
use Rattle.machine.specs.Candidates.{Candidate, of_rows}
use Rattle.machine.specs.KeyOrders.{AsTheyCome, ByFirst, Kept, KeyOrder, Sorted}
use Rattle.machine.specs.Leaves.{leaf_at}
use Rattle.machine.specs.Views.{View, base, both, over, base_under, candidates, order_over}
use Rattle.view_laws.specs.declared.places.Found.{Found}
use Rattle.view_laws.specs.declared.places.Place.{Place}
use Rattle.view_laws.specs.declared.places.RowSpot.{RowSpot}
use Rattle.view_laws.specs.Lanes.{turned_if}
use Rattle.view_laws.specs.Places.{found_over, found_row, passes_at, places_over, shown_over}
use Rattle.view_laws.specs.RowForm.{RowForm, form_of, form_over, found_row_by, goes_by_row, is_by_row}
use Rattle.view_laws.specs.RowPlaces.{spots_taken}
use Rattle.view_laws.specs.Spots.{Spots, TellAll}
use Rattle.view_laws.specs.ViewPlaces.{place_of, places, show}
use Rattle.view_laws.proofs.ListLemmas.{both_true, filter-map}
use Rattle.view_laws.proofs.RowLemmas.{turned-filter, turned-round}
use Rattle.view_laws.proofs.SpotLemmas.{Stands, base_stands}
use Rattle.view_laws.proofs.ZipLemmas.{Zipped, zipped-as}

-- ---- what is found

row_over : (of : Family) (step : Step) (order : KeyOrder) (f : RowForm) (cs : List Candidate) (at : Place → Option Found) (p : Place) (row : Item) → goes_by_row of order ≡ true → at p ≡ Some (found_row_by f row)
    → shown_over of step cs at p ≡ Some (found_row_by (form_over of step f) row)
row_over Same step order f cs at p row ok e = ap (option_map (found_over Same step cs)) e
row_over Changed step order f cs at p row ok e = ap (option_map (found_over Changed step cs)) e
row_over Turned step order f cs at p row ok e = ap (option_map (found_over Turned step cs)) e
row_over Keyed step order f cs at p row ok e = ap (option_map (found_over Keyed step cs)) e
row_over Hidden step order f cs at p row ok e = ap (option_map (found_over Hidden step cs)) e
row_over Cut step order f cs at p row ok e = ap (option_map (found_over Cut step cs)) e
row_over Grouped step order f cs at p row ok e = absurd (cc)
row_over Run step order f cs at p row ok e = absurd (cc)
row_over Pieces step order f cs at p row ok e = absurd (cc)

pub row_shown : (world : World) (spots : Spots) (v : View) (p : Place) (row : Item) → is_by_row world v ≡ true → show world spots (base (base_under v)) p ≡ Some (found_row row) → show world spots v p ≡ Some (found_row_by (form_of v) row)
row_shown world spots (base l) p row ok e = e
row_shown world spots (over step v) p row ok e =
    let parts = both_true (goes_by_row (family_of step) (order_over world v step)) (is_by_row world v) ok in
    row_over (family_of step) step (order_over world v step) (form_of v) (candidates world v) (show world spots v) p row parts.0 (row_shown world spots v p row parts.1 e)
row_shown world spots (both word v u) p row ok e = absurd (cc)

-- ---- where

-- what is found at the spot of each row
abbrev pub FoundAt : (Place → Option Found) → RowForm → List RowSpot → List Item → Type 0
FoundAt at f spots rows = Zipped (λ s row. at (place_of s) ≡ Some (found_row_by f row)) spots rows

rows_found_at : (at : Place → Option Found) (n : ℕ) (spots : List RowSpot) (rows : List Item) → Zipped (Stands at) (map place_of spots) (of_rows n rows) → Zipped (λ s row. at (place_of s) ≡ Some (found_row row)) spots rows
rows_found_at at n [] [] z = tt
rows_found_at at n [] (row ∷ rows) z = absurd z
rows_found_at at n (s ∷ spots) [] z = absurd z
rows_found_at at n (s ∷ spots) (row ∷ rows) z = (z.0, rows_found_at at (n + 1) spots rows z.1)

pub found_at : (world : World) (spots : Spots) (v : View) → is_by_row world v ≡ true → TellAll world spots → FoundAt (show world spots v) (form_of v) (spots (base_under v)) (leaf_at world (base_under v)).rows
found_at world spots v ok tell =
    zipped-as _ _ (λ s row e. row_shown world spots v (place_of s) row ok e) (spots (base_under v)) (leaf_at world (base_under v)).rows
    (rows_found_at (show world spots (base (base_under v))) 0 (spots (base_under v)) (leaf_at world (base_under v)).rows (base_stands (spots (base_under v)) (leaf_at world (base_under v)).rows (tell (base_under v))))

all_spots : (spots : List RowSpot) (rows : List Item) → length spots ≡ length rows → spots_taken (λ row. true) spots rows ≡ spots
all_spots [] rows many = refl
all_spots (s ∷ spots) [] many = absurd (omega arith)
all_spots (s ∷ spots) (row ∷ rows) many = ap (λ ss. s ∷ ss) (all_spots spots rows (omega arith))

cut_spots : (step : Step) (f : RowForm) (at : Place → Option Found) (spots : List RowSpot) (rows : List Item) → FoundAt at f spots rows
    → filter (λ s. passes_at (passes step) (at (place_of s))) (spots_taken f.takes spots rows) ≡ spots_taken (form_over Cut step f).takes spots rows
cut_spots step f at [] rows z = refl
cut_spots step f at (s ∷ spots) [] z = absurd z
cut_spots step f at (s ∷ spots) (row ∷ rows) z = by (f.takes row) (cut_spots step f at spots rows z.1)
  where
    test : RowSpot → Bool
    test t = passes_at (passes step) (at (place_of t))

    below : List RowSpot
    below = spots_taken f.takes spots rows

    above : List RowSpot
    above = spots_taken (form_over Cut step f).takes spots rows

    by : (b : Bool) → filter test below ≡ above → filter test (cond b (s ∷ below) below) ≡ cond (b && passes step (f.item row)) (s ∷ above) above
    by true rest = (λ i. cond (passes_at (passes step) (z.0 i)) (s ∷ rest i) (rest i))
    by false rest = rest

family_places : (of : Family) (step : Step) (order : KeyOrder) (f : RowForm) (at : Place → Option Found) (spots : List RowSpot) (rows : List Item) → goes_by_row of order ≡ true → FoundAt at f spots rows
    → places_over of step order at (turned_if f.turned (map place_of (spots_taken f.takes spots rows))) ≡ turned_if (form_over of step f).turned (map place_of (spots_taken (form_over of step f).takes spots rows))
family_places Same step order f at spots rows ok z = refl
family_places Changed step order f at spots rows ok z = refl
family_places Turned step order f at spots rows ok z = turned-round f.turned (map place_of (spots_taken f.takes spots rows))
family_places Keyed step AsTheyCome f at spots rows ok z = refl
family_places Keyed step ByFirst f at spots rows ok z = absurd (cc)
family_places Keyed step (Kept ks) f at spots rows ok z = absurd (cc)
family_places Keyed step (Sorted order) f at spots rows ok z = absurd (cc)
family_places Hidden step order f at spots rows ok z = refl
family_places Cut step order f at spots rows ok z =
    turned-filter (λ p. passes_at (passes step) (at p)) f.turned (map place_of (spots_taken f.takes spots rows))
    ∙ ap (turned_if f.turned) (filter-map (λ p. passes_at (passes step) (at p)) place_of (spots_taken f.takes spots rows) ∙ ap (map place_of) (cut_spots step f at spots rows z))
family_places Grouped step order f at spots rows ok z = absurd (cc)
family_places Run step order f at spots rows ok z = absurd (cc)
family_places Pieces step order f at spots rows ok z = absurd (cc)

pub places_of_rows : (world : World) (spots : Spots) (v : View) → is_by_row world v ≡ true → TellAll world spots
    → places world spots v ≡ turned_if (form_of v).turned (map place_of (spots_taken (form_of v).takes (spots (base_under v)) (leaf_at world (base_under v)).rows))
places_of_rows world spots (base l) ok tell = ap (map place_of) (sym (all_spots (spots l) (leaf_at world l).rows (tell l).as_many))
places_of_rows world spots (over step v) ok tell =
    let parts = both_true (goes_by_row (family_of step) (order_over world v step)) (is_by_row world v) ok in
    ap (places_over (family_of step) step (order_over world v step) (show world spots v)) (places_of_rows world spots v parts.1 tell)
    ∙ family_places (family_of step) step (order_over world v step) (form_of v) (show world spots v) (spots (base_under v)) (leaf_at world (base_under v)).rows parts.0 (found_at world spots v parts.1 tell)
places_of_rows world spots (both word v u) ok tell = absurd (cc)
