-- A walk along a course of the base under a view is a walk of the view.
use Rattle.std.proofs.Common.{◌≡◌, ℕ, ◌+◌, ◌≤◌, Bool, true, false, cond, List, [], ◌∷◌, length, map, zero, suc, ap, sym, ◌∙◌, arith}
use Rattle.std.specs.Prelude.{slice_get, option_map, Option, Some, None}
use Rattle.std.proofs.lemmas.List.{length-map}
use Rattle.std.proofs.lemmas.Option.{same_Some, slice_get-map}
use Rattle.std.proofs.lemmas.Simd.{map-map}
use Rattle.base_store.specs.declared.store.courses.Course.{Course}
use Rattle.base_store.specs.Courses.{IsCourse, line_at, spots_at, spots_in}
use Rattle.machine.specs.Bases.{World, base_at}
use Rattle.machine.specs.Leaves.{Leaf, leaf_at, stored}
use Rattle.machine.specs.Views.{View, base, base_under, candidates}
use Rattle.vocabulary.specs.declared.items.Item.{Item}
use Rattle.view_laws.specs.declared.lanes.Lane.{Lane}
use Rattle.view_laws.specs.declared.places.Found.{Found}
use Rattle.view_laws.specs.declared.places.Place.{Place}
use Rattle.view_laws.specs.declared.places.RowSpot.{RowSpot}
use Rattle.view_laws.specs.Following.{Follows, IsFrom}
use Rattle.view_laws.specs.ItemForms.{IsFormed}
use Rattle.view_laws.specs.Lanes.{all, line, turned_if}
use Rattle.view_laws.specs.Places.{found_in, found_row}
use Rattle.view_laws.specs.RowForm.{form_of, found_row_by, is_by_row}
use Rattle.view_laws.specs.Spots.{TellAll, row_at, same_spot}
use Rattle.view_laws.specs.ViewPlaces.{place_of, places, show}
use Rattle.view_laws.proofs.DownLemmas.{line_down}
use Rattle.view_laws.proofs.FormPlaces.{row_shown}
use Rattle.view_laws.proofs.JoinLines.{whole-line}
use Rattle.view_laws.proofs.RowLemmas.{turned-map}
use Rattle.view_laws.proofs.RowPlaceLemmas.{few_candidates, length-turned}
use Rattle.view_laws.proofs.SpotLemmas.{same_spot-refl}
use Rattle.view_laws.proofs.ViewStands.{as_many, view_labels}
use Rattle.view_steps.specs.KnownViews.{is_known_view, number_under}
use Rattle.view_steps.proofs.KnownLemmas.{leaf_under}
use Rattle.view_laws.proofs.BaseLineLemmas.{line_of_base}

-- the spots along a course
abbrev pub spots_along : World → Course → List RowSpot
spots_along world course = line_at world course.base course.lane course.back

pub course_line : (world : World) (v : View) (lane : Lane) (back : Bool) (course : Course) → is_known_view v ≡ true → IsFormed world v → TellAll world (spots_in world) → IsCourse world v lane back course
    → line world (spots_in world) v lane back ≡ map place_of (spots_along world course)
course_line world v lane back course known formed tell is =
    line_down world (spots_in world) v lane course.lane back course.back formed is.down
    ∙ ap (λ (l : Leaf). line world (spots_in world) (base l) course.lane course.back) (leaf_under v known)
    ∙ line_of_base world (spots_in world) (stored (number_under v)) course.lane course.back tell is.served.each
    ∙ ap (λ (b : ℕ). map place_of (line_at world b course.lane course.back)) (sym is.base)

-- the whole walk goes through all places, from either end
pub whole_course : (world : World) (v : View) (back : Bool) (course : Course) → is_known_view v ≡ true → IsFormed world v → TellAll world (spots_in world) → IsCourse world v all back course
    → map place_of (spots_along world course) ≡ turned_if back (places world (spots_in world) v)
whole_course world v back course known formed tell is = sym (course_line world v all back course known formed tell is) ∙ ap (turned_if back) (whole-line world (spots_in world) v tell)

-- and has along it what the candidates show
pub course_found : (world : World) (v : View) (back : Bool) (course : Course) → is_known_view v ≡ true → IsFormed world v → TellAll world (spots_in world) → IsCourse world v all back course
    → map (λ (s : RowSpot). show world (spots_in world) v (place_of s)) (spots_along world course) ≡ map Some (turned_if back (map found_in (candidates world v)))
course_found world v back course known formed tell is =
    let at : Place → Option Found = show world (spots_in world) v in
    sym (map-map at place_of (spots_along world course))
    ∙ ap (map at) (whole_course world v back course known formed tell is)
    ∙ turned-map at back (places world (spots_in world) v)
    ∙ ap (turned_if back) (view_labels world (spots_in world) v tell)
    ∙ sym (turned-map Some back (map found_in (candidates world v)))

-- no more of them than rows
pub few_along : (world : World) (v : View) (back : Bool) (course : Course) → is_known_view v ≡ true → is_by_row world v ≡ true → IsFormed world v → TellAll world (spots_in world) → IsCourse world v all back course
    → length (spots_along world course) ≤ length (leaf_at world (base_under v)).rows
few_along world v back course known by_row formed tell is =
    let count : length (spots_along world course) ≡ length (candidates world v) =
    sym (length-map (spots_along world course) place_of)
    ∙ ap length (whole_course world v back course known formed tell is)
    ∙ length-turned back (places world (spots_in world) v)
    ∙ as_many world (spots_in world) v tell in
    omega (arith, count, few_candidates world v by_row)

-- ---- the row at a spot

-- what a view has at the place of a row that it has
pub row_found : (world : World) (v : View) (p : Place) (row : Item) → is_known_view v ≡ true → is_by_row world v ≡ true → row_at (spots_at world (number_under v)) (base_at world (number_under v)).rows p.spot ≡ Some row
    → show world (spots_in world) v p ≡ Some (found_row_by (form_of v) row)
row_found world v p row known by_row at =
    row_shown world (spots_in world) v p row by_row (ap (λ (l : Leaf). show world (spots_in world) (base l) p) (leaf_under v known) ∙ ap (option_map found_row) at)

-- each spot has a row
row_is_there : (spots : List RowSpot) (rows : List Item) (i : ℕ) (s : RowSpot) → length spots ≡ length rows → slice_get spots i ≡ Some s → row_at spots rows s ≡ None → ⊥
row_is_there [] rows i s count is none = absurd (cc)
row_is_there (t ∷ spots) [] i s count is none = absurd (cc)
row_is_there (t ∷ spots) (row ∷ rows) zero s count is none =
    let e : t ≡ s = same_Some t s is in
    let same : same_spot t s ≡ true = ap (same_spot t) (sym e) ∙ same_spot-refl t in
    let f : Some row ≡ None = ap (λ b. cond b (Some row) (row_at spots rows s)) (sym same) ∙ none in
    absurd (cc)
row_is_there (t ∷ spots) (row ∷ rows) (suc i) s count is none = by (same_spot t s) none (λ e. row_is_there spots rows i s (omega (arith, count)) is e)
  where
    by : (b : Bool) → cond b (Some row) (row_at spots rows s) ≡ None → (row_at spots rows s ≡ None → ⊥) → ⊥
    by true e later = absurd (cc)
    by false e later = later e

pub never_empty : (world : World) (p : Place) (b : ℕ) → TellAll world (spots_in world) → IsFrom (spots_at world b) (Some p.spot) → row_at (spots_at world b) (base_at world b).rows p.spot ≡ None → ⊥
never_empty world p b tell from none = row_is_there (spots_at world b) (base_at world b).rows from.0 p.spot (tell (stored b)).as_many from.1 none

-- ---- spots and their places

same_place : (s t : RowSpot) → place_of s ≡ place_of t → s ≡ t
same_place s t e = ap (λ (p : Place). p.spot) e

pub place_at : (spots : List RowSpot) (i : ℕ) (s : RowSpot) → slice_get spots i ≡ Some s → slice_get (map place_of spots) i ≡ Some (place_of s)
place_at spots i s is = slice_get-map place_of spots i ∙ ap (option_map place_of) is

pub spot_at : (spots : List RowSpot) (i : ℕ) (s : RowSpot) → slice_get (map place_of spots) i ≡ Some (place_of s) → slice_get spots i ≡ Some s
spot_at spots i s is = by (slice_get spots i) (sym (slice_get-map place_of spots i) ∙ is)
  where
    by : (o : Option RowSpot) → option_map place_of o ≡ Some (place_of s) → o ≡ Some s
    by None e = absurd (cc)
    by (Some t) e = ap Some (same_place t s (same_Some (place_of t) (place_of s) e))

pub spot_from : (spots : List RowSpot) (from : Option RowSpot) → IsFrom (map place_of spots) (option_map place_of from) → IsFrom spots from
spot_from spots None from = tt
spot_from spots (Some s) from = (from.0, spot_at spots from.0 s from.1)

pub place_follows : (spots : List RowSpot) (from to : Option RowSpot) → Follows spots from to → Follows (map place_of spots) (option_map place_of from) (option_map place_of to)
place_follows spots None to next = slice_get-map place_of spots 0 ∙ ap (option_map place_of) next
place_follows spots (Some s) to next = λ i is. slice_get-map place_of spots (i + 1) ∙ ap (option_map place_of) (next i (spot_at spots i s is))
