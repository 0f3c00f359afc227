-- What stands under a known view: a base as it is stored, and its spots.
use Rattle.std.proofs.Common.{◌≡◌, ℕ, ◌<◌, ◌≤◌, true, List, length, zero, suc, [], ◌∷◌, refl, sym, ap, ◌∙◌, subst, arith}
use Rattle.std.specs.Prelude.{Some, slice_get}
use Rattle.std.proofs.lemmas.Option.{slice_get_within}
use Rattle.vocabulary.specs.Known.{is_known_kind}
use Rattle.base_store.specs.Courses.{spots_at, spots_in}
use Rattle.machine.specs.Bases.{Base, World, base_at}
use Rattle.machine.specs.Candidates.{Candidate}
use Rattle.machine.specs.Leaves.{leaf_at}
use Rattle.machine.specs.Views.{View, base_under, candidates, shown}
use Rattle.read_chain.specs.Reads.{StandsAt}
use Rattle.vocabulary.specs.declared.items.Item.{Item}
use Rattle.view_laws.specs.declared.places.Place.{Place}
use Rattle.view_laws.specs.declared.places.RowSpot.{RowSpot}
use Rattle.view_laws.specs.Following.{IsFrom}
use Rattle.view_laws.specs.RowForm.{is_by_row}
use Rattle.view_laws.specs.RowPlaces.{IsOfRow, number_of}
use Rattle.view_laws.specs.Spots.{TellAll, row_at}
use Rattle.view_laws.specs.ViewPlaces.{place_of, places}
use Rattle.view_laws.proofs.RowPlaceLemmas.{row_at_place}
use Rattle.view_laws.proofs.ViewStands.{as_many}
use Rattle.view_steps.specs.KnownViews.{is_known_view, number_under}
use Rattle.view_steps.proofs.CountLemmas.{few_shown}
use Rattle.view_steps.proofs.KnownLemmas.{known_base, leaf_under}

-- how many rows there are
pub size_under : (world : World) (v : View) (b : ℕ) → is_known_view v ≡ true → b ≡ number_under v → length (leaf_at world (base_under v)).rows ≡ length (base_at world b).rows
size_under world v b known at = ap (λ (it : Base). length it.rows) (known_base world v known) ∙ ap (λ (n : ℕ). length (base_at world n).rows) (sym at)

-- no more items than rows
pub few_items : (world : World) (v : View) (b : ℕ) → is_known_view v ≡ true → b ≡ number_under v → length (shown world v) ≤ length (base_at world b).rows
few_items world v b known at = omega (arith, few_shown world v known, size_under world v b known at)

pub kind_under : (world : World) (v : View) (b : ℕ) → is_known_view v ≡ true → b ≡ number_under v → is_known_kind (base_at world b).kind ≡ true → is_known_kind (leaf_at world (base_under v)).kind ≡ true
kind_under world v b known at kind = subst (λ (it : Base). is_known_kind it.kind ≡ true) (sym (known_base world v known)) (subst (λ (n : ℕ). is_known_kind (base_at world n).kind ≡ true) at kind)

pub spots_under : (world : World) (v : View) → is_known_view v ≡ true → spots_in world (base_under v) ≡ spots_at world (number_under v)
spots_under world v known = ap (spots_in world) (leaf_under v known)

-- a course of the view goes along a base of the store
pub within_store : (world : World) (v : View) (b base : ℕ) → b ≡ number_under v → base ≡ number_under v → b < length world → base < length world
within_store world v b base at course lt = subst (λ (n : ℕ). n < length world) (at ∙ sym course) lt

-- the row there at a spot
pub row_under : (world : World) (v : View) (b : ℕ) (s : RowSpot) (row : Item) → b ≡ number_under v → row_at (spots_at world b) (base_at world b).rows s ≡ Some row → row_at (spots_at world (number_under v)) (base_at world (number_under v)).rows s ≡ Some row
row_under world v b s row at row_is = subst (λ (n : ℕ). row_at (spots_at world n) (base_at world n).rows s ≡ Some row) at row_is

-- ---- elements of lists

-- an element that stands at an index of a list
pub record IsThere {X : Type 0} (xs : List X) (i : ℕ) : Type 0 where
  pub element : X
  pub there : slice_get xs i ≡ Some element

pub is_there : {X : Type 0} (xs : List X) (i : ℕ) → i < length xs → IsThere xs i
is_there [] i lt = absurd (omega arith)
is_there (x ∷ xs) zero lt = record { element = x; there = refl }
is_there (x ∷ xs) (suc i) lt = let below = is_there xs i (omega arith) in record { element = below.element; there = below.there }

-- ---- what stands at a place

-- each place is that of a candidate
pub candidate_of : (world : World) (v : View) (i : ℕ) → TellAll world (spots_in world) → i < length (places world (spots_in world) v) → IsThere (candidates world v) i
candidate_of world v i tell lt = is_there (candidates world v) i (omega (arith, as_many world (spots_in world) v tell))

pub row_stands : (world : World) (v : View) (p : Place) (i : ℕ) (c : Candidate) → is_known_view v ≡ true → is_by_row world v ≡ true → TellAll world (spots_in world) → slice_get (places world (spots_in world) v) i ≡ Some p → slice_get (candidates world v) i ≡ Some c
    → StandsAt world v p c.rows
row_stands world v p i c known by_row tell stands there =
    let it : IsOfRow world (spots_in world) v p c = row_at_place world (spots_in world) v p i c by_row tell stands there in
    record {
      leaf = it.leaf;
      row = record { number = number_of c; only = it.one; at = ap (λ (spots : List RowSpot). slice_get spots (number_of c)) (sym (spots_under world v known)) ∙ it.spot };
    }

-- each place of a view stands in its one base, at a spot there
pub on_one_base : (world : World) (v : View) (p : Place) → is_by_row world v ≡ true → TellAll world (spots_in world) → IsFrom (places world (spots_in world) v) (Some p) → place_of p.spot ≡ p
on_one_base world v p by_row tell from =
    let c : IsThere (candidates world v) from.0 = candidate_of world v from.0 tell (slice_get_within (places world (spots_in world) v) from.0 p from.1) in
    let it : IsOfRow world (spots_in world) v p c.element = row_at_place world (spots_in world) v p from.0 c.element by_row tell from.1 c.there in
    λ i. record { leaf = sym it.leaf i; spot = p.spot }

pub spot_in_base : (world : World) (v : View) (p : Place) (b : ℕ) → is_known_view v ≡ true → b ≡ number_under v → is_by_row world v ≡ true → TellAll world (spots_in world) → IsFrom (places world (spots_in world) v) (Some p) → IsFrom (spots_at world b) (Some p.spot)
spot_in_base world v p b known at by_row tell from =
    let c : IsThere (candidates world v) from.0 = candidate_of world v from.0 tell (slice_get_within (places world (spots_in world) v) from.0 p from.1) in
    let it : IsOfRow world (spots_in world) v p c.element = row_at_place world (spots_in world) v p from.0 c.element by_row tell from.1 c.there in
    (number_of c.element, ap (λ (n : ℕ). slice_get (spots_at world n) (number_of c.element)) at ∙ ap (λ (spots : List RowSpot). slice_get spots (number_of c.element)) (sym (spots_under world v known)) ∙ it.spot)
