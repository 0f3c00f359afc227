-- Each candidate of a view that goes row by row stands for one row, at the spot of its place.
use Rattle.std.proofs.Common.{◌≡◌, ℕ, suc, ◌+◌, ◌≤◌, Bool, true, false, cond, List, [], ◌∷◌, length, map, refl, ap, sym, ◌∙◌, arith}
use Rattle.std.specs.Prelude.{filter, get_or, slice_get, Option, Some}
use Rattle.std.proofs.lemmas.List.{length-map, length-reverse}
use Rattle.vocabulary.specs.declared.items.Item.{Item}
use Rattle.vocabulary.specs.declared.step_table.Family.{Family}
use Rattle.vocabulary.specs.declared.step_table.Family.TheVariants.{Same, Changed, Turned, Keyed, Hidden, Cut, Grouped, Run, Pieces}
use Rattle.vocabulary.specs.declared.steps.Step.{Step}
use Rattle.vocabulary.specs.Steps.{family_of, item_of, passes}
use Rattle.machine.specs.Bases.{World}
use Rattle.machine.specs.Candidates.{Candidate, changed, cut, hidden, in_family, of_rows, seen_if, with_item}
use Rattle.machine.specs.KeyOrders.{AsTheyCome, ByFirst, Kept, KeyOrder, Sorted}
use Rattle.machine.specs.Leaves.{leaf_at}
use Rattle.machine.specs.Views.{View, base, both, over, base_under, candidates, order_over}
use Rattle.view_laws.specs.declared.places.Found.{Found}
use Rattle.view_laws.specs.declared.places.Place.{Place}
use Rattle.view_laws.specs.declared.places.RowSpot.{RowSpot}
use Rattle.view_laws.specs.Lanes.{turned_if}
use Rattle.view_laws.specs.Places.{passes_at, places_over}
use Rattle.view_laws.specs.RowForm.{RowForm, candidates_by, form_of, goes_by_row, is_by_row}
use Rattle.view_laws.specs.RowPlaces.{IsOfRow, number_of}
use Rattle.view_laws.specs.Spots.{Spots, TellAll}
use Rattle.view_laws.specs.ViewPlaces.{StandsFor, place_of, places, show}
use Rattle.view_laws.proofs.ListLemmas.{both_true}
use Rattle.view_laws.proofs.RowLemmas.{row_law}
use Rattle.view_laws.proofs.SpotLemmas.{Stands}
use Rattle.view_laws.proofs.ViewStands.{view_stands}
use Rattle.view_laws.proofs.ZipLemmas.{Zipped, zipped-as, zipped-at, zipped-filter, zipped-map, zipped-reverse}

-- a candidate stands for the one row whose spot is that of a place
pub record IsRowOf (spots : List RowSpot) (p : Place) (c : Candidate) : Type 0 where
  pub one : c.rows ≡ number_of c ∷ []
  pub spot : slice_get spots (number_of c) ≡ Some p.spot
  pub leaf : p.leaf ≡ 0

-- a place that also tells what is seen there
abbrev RowStands : (Place → Option Found) → List RowSpot → Place → Candidate → Type 0
RowStands at spots p c = Stands at p c × IsRowOf spots p c

-- ---- a base

rows_numbered : (whole : List RowSpot) (n : ℕ) (spots : List RowSpot) (rows : List Item) → length spots ≡ length rows → ((i : ℕ) → slice_get spots i ≡ slice_get whole (i + n)) → Zipped (IsRowOf whole) (map place_of spots) (of_rows n rows)
rows_numbered whole n [] [] many at = tt
rows_numbered whole n [] (row ∷ rows) many at = absurd (omega arith)
rows_numbered whole n (s ∷ spots) [] many at = absurd (omega arith)
rows_numbered whole n (s ∷ spots) (row ∷ rows) many at = (
  record { one = refl; spot = ap (slice_get whole) (let e : n ≡ 0 + n = omega arith in e) ∙ sym (at 0); leaf = refl },
  rows_numbered whole (n + 1) spots rows (omega arith) (λ i. at (suc i) ∙ ap (slice_get whole) (let e : suc i + n ≡ i + (n + 1) = omega arith in e)),
)

-- ---- what both relations say of the same places and candidates

zipped-both : {X Y : Type 0} (R S : X → Y → Type 0) (xs : List X) (ys : List Y) → Zipped R xs ys → Zipped S xs ys → Zipped (λ x y. R x y × S x y) xs ys
zipped-both R S [] [] z w = tt
zipped-both R S [] (y ∷ ys) z w = absurd z
zipped-both R S (x ∷ xs) [] z w = absurd z
zipped-both R S (x ∷ xs) (y ∷ ys) z w = ((z.0, w.0), zipped-both R S xs ys z.1 w.1)

-- ---- each family that goes row by row: its candidates stand for the rows that those below stand for

rows_left : (f : Candidate → Candidate) → ((c : Candidate) → (f c).rows ≡ c.rows) → (spots : List RowSpot) (ps : List Place) (cs : List Candidate) → Zipped (IsRowOf spots) ps cs → Zipped (IsRowOf spots) ps (map f cs)
rows_left f same spots ps cs z =
    zipped-map (IsRowOf spots) (IsRowOf spots) f
    (λ p c r. record {
      one = same c ∙ r.one ∙ ap (λ rows. get_or rows 0 0 ∷ []) (sym (same c));
      spot = ap (λ rows. slice_get spots (get_or rows 0 0)) (same c) ∙ r.spot;
      leaf = r.leaf;
    }) ps cs z

family_rows : (of : Family) (step : Step) (order : KeyOrder) (at : Place → Option Found) (spots : List RowSpot) (ps : List Place) (cs : List Candidate) → goes_by_row of order ≡ true → Zipped (Stands at) ps cs → Zipped (IsRowOf spots) ps cs
    → Zipped (IsRowOf spots) (places_over of step order at ps) (in_family of step order cs)
family_rows Same step order at spots ps cs ok z w = w
family_rows Changed step order at spots ps cs ok z w = rows_left (with_item (item_of step)) (λ c. refl) spots ps cs w
family_rows Turned step order at spots ps cs ok z w = zipped-reverse (IsRowOf spots) ps cs w
family_rows Keyed step AsTheyCome at spots ps cs ok z w = rows_left (with_item (item_of step)) (λ c. refl) spots ps cs w
family_rows Keyed step ByFirst at spots ps cs ok z w = absurd (cc)
family_rows Keyed step (Kept ks) at spots ps cs ok z w = absurd (cc)
family_rows Keyed step (Sorted order) at spots ps cs ok z w = absurd (cc)
family_rows Hidden step order at spots ps cs ok z w = rows_left (seen_if (passes step)) (λ c. refl) spots ps cs w
family_rows Cut step order at spots ps cs ok z w =
    rows_left (with_item (item_of step)) (λ c. refl) spots (filter (λ p. passes_at (passes step) (at p)) ps) (cut (passes step) cs)
    (zipped-as (RowStands at spots) (IsRowOf spots) (λ p c s. s.1) _ _
    (zipped-filter (RowStands at spots) (λ p. passes_at (passes step) (at p)) (λ (c : Candidate). passes step c.item) (λ p c s. ap (passes_at (passes step)) s.0) ps cs (zipped-both (Stands at) (IsRowOf spots) ps cs z w)))
family_rows Grouped step order at spots ps cs ok z w = absurd (cc)
family_rows Run step order at spots ps cs ok z w = absurd (cc)
family_rows Pieces step order at spots ps cs ok z w = absurd (cc)

pub view_rows : (world : World) (spots : Spots) → TellAll world spots → (v : View) → is_by_row world v ≡ true → Zipped (IsRowOf (spots (base_under v))) (places world spots v) (candidates world v)
view_rows world spots tell (base l) ok = rows_numbered (spots l) 0 (spots l) (leaf_at world l).rows (tell l).as_many (λ i. ap (slice_get (spots l)) (let e : i ≡ i + 0 = omega arith in e))
view_rows world spots tell (over step v) ok =
    let parts = both_true (goes_by_row (family_of step) (order_over world v step)) (is_by_row world v) ok in
    family_rows (family_of step) step (order_over world v step) (show world spots v) (spots (base_under v)) (places world spots v) (candidates world v) parts.0 (view_stands world spots tell v) (view_rows world spots tell v parts.1)
view_rows world spots tell (both word v u) ok = absurd (cc)

pub row_at_place : (world : World) (spots : Spots) (v : View) (p : Place) (i : ℕ) (c : Candidate) → is_by_row world v ≡ true → TellAll world spots → StandsFor world spots v p i → slice_get (candidates world v) i ≡ Some c → IsOfRow world spots v p c
row_at_place world spots v p i c ok tell at is =
    let r = zipped-at (IsRowOf (spots (base_under v))) (places world spots v) (candidates world v) (view_rows world spots tell v ok) i p c at is in
    record { one = r.one; spot = r.spot; leaf = r.leaf; shown = zipped-at (Stands (show world spots v)) (places world spots v) (candidates world v) (view_stands world spots tell v) i p c at is }

-- ---- how many there are

pub length-turned : {X : Type 0} (t : Bool) (xs : List X) → length (turned_if t xs) ≡ length xs
length-turned true xs = length-reverse xs
length-turned false xs = refl

few_taken : (p : Item → Bool) (n : ℕ) (rows : List Item) → length (cut p (of_rows n rows)) ≤ length rows
few_taken p n [] = omega arith
few_taken p n (row ∷ rows) = by (p row) (few_taken p (n + 1) rows)
  where
    by : (b : Bool) → length (cut p (of_rows (n + 1) rows)) ≤ length rows → length (cond b (record { rows = n ∷ []; item = row; seen = true } ∷ cut p (of_rows (n + 1) rows)) (cut p (of_rows (n + 1) rows))) ≤ suc (length rows)
    by true h = omega (arith, h)
    by false h = omega (arith, h)

few_by : (f : RowForm) (rows : List Item) → length (candidates_by f rows) ≤ length rows
few_by f rows =
    let taken : List Candidate = cut f.takes (of_rows 0 rows) in
    let e : length (candidates_by f rows) ≡ length taken = length-turned f.turned (changed f.item (hidden f.sees taken)) ∙ length-map (hidden f.sees taken) (with_item f.item) ∙ length-map taken (seen_if f.sees) in
    omega (arith, e, few_taken f.takes 0 rows)

pub few_candidates : (world : World) (v : View) → is_by_row world v ≡ true → length (candidates world v) ≤ length (leaf_at world (base_under v)).rows
few_candidates world v ok = rw (row_law world v ok) (few_by (form_of v) (leaf_at world (base_under v)).rows)
