-- Seats while others change the bases.
use Rattle.std.proofs.Common.{◌≡◌, ◌≢◌, ◌⊎◌, inl, inr, ℕ, ◌<◌, Bool, true, false, List, [], ◌∷◌, length, refl, ap, sym, ◌∙◌, subst, arith}
use Rattle.std.specs.Prelude.{get_or}
use Rattle.base_store.specs.Courses.{spots_in}
use Rattle.base_store.specs.Stored.{Stored}
use Rattle.cursor_seat.specs.declared.seat.Seat.{Seat}
use Rattle.cursor_seat.specs.Later.{IsLater, IsLaterFor, StaleAfter, StillFits}
use Rattle.cursor_seat.specs.Seats.{AreUpTo, Fits, IsThere, iterator_in, places_in, seat_view}
use Rattle.cursor_seat.specs.Stands.{StandsBehind}
use Rattle.machine.specs.Bases.{Base, base_at}
use Rattle.machine.specs.Iterators.{changes, is_passed_by}
use Rattle.machine.specs.MadeViews.{IsMade}
use Rattle.machine.specs.Views.{View}
use Rattle.view_laws.specs.declared.places.Place.{Place}
use Rattle.view_laws.specs.ViewPlaces.{places}
use Rattle.view_steps.specs.KnownViews.{is_known_view, number_under}
use Rattle.vocabulary.specs.Known.{is_known_kind}
use Rattle.view_steps.proofs.KnownLemmas.{known_base}
use Rattle.view_steps.proofs.MadeLemmas.{view_stays}
use Rattle.cursor_seat.proofs.SeenLemmas.{is_fresh, not_stale, one_change, up_to_both, up_to_more}
use Rattle.cursor_seat.proofs.ViewPlaces.{same_places}

-- the base under a seat at a later time
later_base : (before now : Stored) (seat : Seat) → IsLaterFor before now seat → Fits before seat → IsLater (base_at before.world (number_under (seat_view before seat))) (base_at now.world (number_under (seat_view before seat)))
later_base before now seat later fits = later.bases (number_under (seat_view before seat)) fits.there.within

changes_rise : (before now : Stored) (seat : Seat) → IsLaterFor before now seat → Fits before seat → AreUpTo (changes before.world (seat_view before seat)) (changes now.world (seat_view now seat))
changes_rise before now seat later fits =
    let v : View = seat_view before seat in
    let base : IsLater (base_at before.world (number_under v)) (base_at now.world (number_under v)) = later_base before now seat later fits in
    let one : AreUpTo ((base_at before.world (number_under v)).change ∷ []) ((base_at now.world (number_under v)).change ∷ []) = (base.change, tt) in
    subst (λ (u : View). AreUpTo (changes before.world v) (changes now.world u)) (sym later.view)
    (subst (λ (ns : List ℕ). AreUpTo (changes before.world v) ns) (sym (one_change now.world v fits.there.known))
    (subst (λ (ns : List ℕ). AreUpTo ns ((base_at now.world (number_under v)).change ∷ [])) (sym (one_change before.world v fits.there.known)) one))

-- a seat that is not stale now was not, and no change number rose
fresh_then : (before now : Stored) (seat : Seat) → IsLaterFor before now seat → Fits before seat → is_passed_by now.world (iterator_in now seat) ≡ false
    → (is_passed_by before.world (iterator_in before seat) ≡ false) × (changes now.world (seat_view now seat) ≡ changes before.world (seat_view before seat))
fresh_then before now seat later fits fresh =
    let now_seen : changes now.world (seat_view now seat) ≡ seat.seen = not_stale now.world (iterator_in now seat) fresh in
    let rise : AreUpTo (changes before.world (seat_view before seat)) seat.seen = subst (λ (ns : List ℕ). AreUpTo (changes before.world (seat_view before seat)) ns) now_seen (changes_rise before now seat later fits) in
    let seen : changes before.world (seat_view before seat) ≡ seat.seen = up_to_both (changes before.world (seat_view before seat)) seat.seen rise fits.seen in
    (is_fresh before.world (iterator_in before seat) seen, now_seen ∙ sym seen)

there_now : (before now : Stored) (seat : Seat) → IsLaterFor before now seat → Fits before seat → IsThere now seat.node
there_now before now seat later fits =
    let there = fits.there in
    let v : View = seat_view before seat in
    let base : IsLater (base_at before.world (number_under v)) (base_at now.world (number_under v)) = later_base before now seat later fits in
    let leaf_kind = ap (λ (it : Base). it.kind) (known_base now.world v there.known) ∙ base.kind ∙ sym (ap (λ (it : Base). it.kind) (known_base before.world v there.known)) in
    let made : IsMade now.world v = (view_stays before.world now.world v there.known leaf_kind there.made).0 in
    let within : number_under v < length now.world = omega (arith, there.within, later.more) in
    record {
      node = later.node;
      within = subst (λ (u : View). number_under u < length now.world) (sym later.view) within;
      known = ap is_known_view later.view ∙ there.known;
      kind = ap (λ (u : View). is_known_kind (base_at now.world (number_under u)).kind) later.view ∙ ap is_known_kind base.kind ∙ there.kind;
      made = subst (IsMade now.world) (sym later.view) made;
      tell = later.tell;
    }

-- the places then are what they were
places_then : (before now : Stored) (seat : Seat) → IsLaterFor before now seat → Fits before seat → changes now.world (seat_view now seat) ≡ changes before.world (seat_view before seat) → places_in now seat.node ≡ places_in before seat.node
places_then before now seat later fits same =
    let there = fits.there in
    let v : View = seat_view before seat in
    let b : ℕ = number_under v in
    let base : IsLater (base_at before.world b) (base_at now.world b) = later_base before now seat later fits in
    let numbers : (base_at now.world b).change ∷ [] ≡ (base_at before.world b).change ∷ [] = sym (ap (changes now.world) later.view ∙ one_change now.world v there.known) ∙ same ∙ one_change before.world v there.known in
    let change : (base_at now.world b).change ≡ (base_at before.world b).change = ap (λ (ns : List ℕ). get_or ns 0 0) numbers in
    ap (places now.world (spots_in now.world)) later.view
    ∙ same_places before.world now.world v there.known there.kind there.made there.tell later.tell base.kind (base.still change)

pub still_fits : StillFits
still_fits before now seat later fits = record {
  there = there_now before now seat later fits;
  seen = up_to_more seat.seen (changes before.world (seat_view before seat)) (changes now.world (seat_view now seat)) fits.seen (changes_rise before now seat later fits);
  stands = λ fresh.
      let was = fresh_then before now seat later fits fresh in
      subst (λ (ps : List Place). StandsBehind ps seat.passed seat.stand) (sym (places_then before now seat later fits was.1)) (fits.stands was.0);
}

pub stale_after : StaleAfter
stale_after before now seat later fits = (to (is_passed_by before.world (iterator_in before seat)) refl, λ h. from (is_passed_by now.world (iterator_in now seat)) refl h)
  where
    Stale : Stored → Type 0
    Stale s = is_passed_by s.world (iterator_in s seat) ≡ true

    Rose : Type 0
    Rose = changes now.world (seat_view now seat) ≢ changes before.world (seat_view before seat)

    to : (b : Bool) → is_passed_by before.world (iterator_in before seat) ≡ b → is_passed_by now.world (iterator_in now seat) ≡ true → (is_passed_by before.world (iterator_in before seat) ≡ true) ⊎ Rose
    to true e h = inl e
    to false e h = inr (λ same. (let f : is_passed_by now.world (iterator_in now seat) ≡ false = is_fresh now.world (iterator_in now seat) (same ∙ not_stale before.world (iterator_in before seat) e) in let g : true ≡ false = sym h ∙ f in cc))

    from : (b : Bool) → is_passed_by now.world (iterator_in now seat) ≡ b → (is_passed_by before.world (iterator_in before seat) ≡ true) ⊎ Rose → is_passed_by now.world (iterator_in now seat) ≡ true
    from true e h = e
    from false e (inl stale) = let f = (fresh_then before now seat later fits e).0 in let g : true ≡ false = sym stale ∙ f in absurd (cc)
    from false e (inr rose) = absurd (rose (fresh_then before now seat later fits e).1)
