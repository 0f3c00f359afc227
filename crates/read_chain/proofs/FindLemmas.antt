-- Where the first hit stands.
use Rattle.std.proofs.Common.{◌≡◌, ℕ, ◌+◌, Bool, true, false, List, [], ◌∷◌, map, drop, ap, sym, ◌∙◌, subst}
use Rattle.std.specs.Prelude.{find, slice_get, Option, Some, None, IfNone, IfSome}
use Rattle.base_store.specs.declared.store.courses.Course.{Course}
use Rattle.base_store.specs.Courses.{IsCourse, spots_in}
use Rattle.base_store.specs.Stored.{Stored, view_in}
use Rattle.machine.specs.Bases.{World}
use Rattle.machine.specs.CallEdits.{first_hit, is_hit, rows_of_first}
use Rattle.machine.specs.Candidates.{Candidate}
use Rattle.machine.specs.Views.{View, candidates}
use Rattle.read_chain.specs.declared.walks.Walk.{Walk}
use Rattle.read_chain.specs.Reads.{StandsAt}
use Rattle.read_chain.specs.Walks.{found_along, IsAt, IsWalk}
use Rattle.vocabulary.specs.declared.items.Item.{Item}
use Rattle.view_laws.specs.declared.places.Found.{Found}
use Rattle.view_laws.specs.declared.places.Place.{Place}
use Rattle.view_laws.specs.declared.places.RowSpot.{RowSpot}
use Rattle.view_laws.specs.ItemForms.{IsFormed}
use Rattle.view_laws.specs.Lanes.{all}
use Rattle.view_laws.specs.Places.{found_in}
use Rattle.view_laws.specs.RowForm.{is_by_row}
use Rattle.view_laws.specs.Spots.{TellAll}
use Rattle.view_laws.specs.ViewPlaces.{place_of, places, show}
use Rattle.view_steps.specs.KnownViews.{is_known_view}
use Rattle.read_chain.proofs.Along.{all_passed}
use Rattle.read_chain.proofs.CourseLemmas.{course_found, place_at, spots_along, whole_course}
use Rattle.view_steps.proofs.HitLemmas.{IsCandidate, candidate_at, found_hit, first_here}
use Rattle.read_chain.proofs.UnderLemmas.{row_stands}
use Rattle.read_chain.proofs.WalkLemmas.{last_passed}

-- ---- where the first hit stands

-- where the first hit stands, by the spot that was passed last
abbrev pub HitStands : World → View → (Item → Bool) → Option RowSpot → Type 0
HitStands world v passes o = IfNone o ⊥ × IfSome o (λ s. StandsAt world v (place_of s) (first_hit passes (candidates world v)))

pub hit_stands : (world : World) (v : View) (passes : Item → Bool) (course : Course) (i : ℕ) (d : Found) (rest : List Found) (o : Option RowSpot)
    → is_known_view v ≡ true → is_by_row world v ≡ true → IsFormed world v → TellAll world (spots_in world) → IsCourse world v all false course → slice_get (spots_along world course) i ≡ o
    → drop i (map found_in (candidates world v)) ≡ d ∷ rest → found_hit passes d ≡ true → find (is_hit passes) (drop i (candidates world v)) ≡ find (is_hit passes) (candidates world v)
    → HitStands world v passes o
hit_stands world v passes course i d rest None known by_row formed tell is at h hit same =
    let e : drop i (map found_in (candidates world v)) ≡ [] =
    all_passed (λ (s : RowSpot). show world (spots_in world) v (place_of s)) (spots_along world course) (map found_in (candidates world v)) (course_found world v false course known formed tell is) i at in
    absurd (let f : [] ≡ d ∷ rest = sym e ∙ h in cc)
hit_stands world v passes course i d rest (Some s) known by_row formed tell is at h hit same =
    let cs : List Candidate = candidates world v in
    let it : IsCandidate cs i d = candidate_at cs i d rest h in
    let first : first_hit passes cs ≡ it.candidate.rows = ap rows_of_first (sym same ∙ first_here passes cs i d it true hit) in
    let place : slice_get (places world (spots_in world) v) i ≡ Some (place_of s) =
    ap (λ (ps : List Place). slice_get ps i) (sym (whole_course world v false course known formed tell is)) ∙ place_at (spots_along world course) i s at in
    (tt, subst (λ (ns : List ℕ). StandsAt world v (place_of s) ns) (sym first) (row_stands world v (place_of s) i it.candidate known by_row tell place it.there))

-- what a walk from the front finds, as the candidates show it
pub found_from : (s : Stored) (n : ℕ) (walk : Walk) (ds : List Found) → walk.node ≡ n → walk.back ≡ false → drop walk.passed (found_along s walk.node walk.back) ≡ ds → drop walk.passed (map found_in (candidates s.world (view_in s n))) ≡ ds
found_from s n walk ds node front found =
    ap (λ (m : ℕ). drop walk.passed (map found_in (candidates s.world (view_in s m)))) (sym node)
    ∙ ap (λ (b : Bool). drop walk.passed (found_along s walk.node b)) (sym front) ∙ found

-- a walk from the front that has just passed the first hit
pub walk_hit : (s : Stored) (n : ℕ) (passes : Item → Bool) (old new : Walk) (d : Found) (rest : List Found)
    → is_known_view (view_in s n) ≡ true → is_by_row s.world (view_in s n) ≡ true → IsFormed s.world (view_in s n) → TellAll s.world (spots_in s.world) → old.node ≡ n → old.back ≡ false
    → new.node ≡ old.node → new.back ≡ old.back → new.passed ≡ old.passed + 1 → IsWalk s new → drop old.passed (found_along s old.node old.back) ≡ d ∷ rest → found_hit passes d ≡ true
    → find (is_hit passes) (drop old.passed (candidates s.world (view_in s n))) ≡ find (is_hit passes) (candidates s.world (view_in s n)) → HitStands s.world (view_in s n) passes new.last
walk_hit s n passes old new d rest known by_row formed tell node front stays keeps passed walk found hit same =
    let is : IsCourse s.world (view_in s n) all false new.course =
    subst (λ (b : Bool). IsCourse s.world (view_in s n) all b new.course) (keeps ∙ front) (subst (λ (m : ℕ). IsCourse s.world (view_in s m) all new.back new.course) (stays ∙ node) walk.course) in
    let at : slice_get (spots_along s.world new.course) old.passed ≡ new.last =
    last_passed (spots_along s.world new.course) old.passed new.last (subst (λ (i : ℕ). IsAt (spots_along s.world new.course) i new.last) passed walk.at) in
    hit_stands s.world (view_in s n) passes new.course old.passed d rest new.last known by_row formed tell is at (found_from s n old (d ∷ rest) node front found) hit same
