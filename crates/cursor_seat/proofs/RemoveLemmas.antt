-- What a seat gave, and where the seat stands once that is gone.
use Rattle.std.proofs.Common.{◌≡◌, ℕ, zero, suc, ◌+◌, ◌-◌, ◌<◌, Bool, true, false, cond, List, [], ◌∷◌, length, refl, ap, sym, ◌∙◌, subst, arith}
use Rattle.std.specs.Prelude.{Option, None, Some, Ok, option_map, slice_get}
use Rattle.std.proofs.lemmas.Option.{slice_get_within}
use Rattle.base_rows.specs.BaseSpots.{IsRowAt}
use Rattle.base_store.specs.Courses.{spots_at, spots_in}
use Rattle.base_store.specs.Stored.{Stored, view_in, with_world}
use Rattle.cursor_seat.specs.declared.seat.Seat.{Seat}
use Rattle.cursor_seat.specs.declared.stand.Stand.{Stand}
use Rattle.cursor_seat.specs.declared.stand.Stand.TheVariants.{Behind, Gave}
use Rattle.cursor_seat.specs.Dropped.{after_drop}
use Rattle.cursor_seat.specs.Seats.{AreUpTo, Fits, Gone, IsThere, iterator_in, places_in, seat_view}
use Rattle.cursor_seat.specs.Stands.{IsLast, StandsBehind, behind_gone, has_given}
use Rattle.machine.specs.Answering.{unless_refused}
use Rattle.machine.specs.Bases.{Base, World, base_at}
use Rattle.machine.specs.CallEdits.{rows_of_first}
use Rattle.machine.specs.Candidates.{Candidate}
use Rattle.machine.specs.Edits.{edited, removing}
use Rattle.machine.specs.Iterators.{Iterator, after_removal, changes, is_passed_by, remove_refusal, removed, rows_given, world_without}
use Rattle.machine.specs.Reading.{first_refusal}
use Rattle.machine.specs.Sublists.{refreshed, refreshed_step, sublists_on}
use Rattle.machine.specs.Views.{View, base, both, candidates, flags_at, over, root}
use Rattle.view_laws.specs.declared.places.Place.{Place}
use Rattle.view_laws.specs.Spots.{TellAll}
use Rattle.view_steps.specs.KnownViews.{edited_at, is_known_view, number_under}
use Rattle.vocabulary.specs.declared.refusals.Refusal.TheVariants.{ConcurrentModification, IllegalState, UnsupportedOperation}
use Rattle.vocabulary.specs.declared.steps.Step.{Step}
use Rattle.vocabulary.specs.declared.steps.Step.TheVariants.{Sub, Piece}
use Rattle.vocabulary.specs.Known.{is_known_kind}
use Rattle.view_laws.specs.ViewPlaces.{places}
use Rattle.view_steps.proofs.EditedRows.{edited_removing, without_numbers}
use Rattle.view_steps.proofs.KnownLemmas.{known_by_row, no_sublists}
use Rattle.view_steps.proofs.WorldLemmas.{written_at}
use Rattle.read_chain.proofs.UnderLemmas.{IsThere as IsElement, candidate_of, row_stands}
use Rattle.cursor_seat.proofs.SeenLemmas.{up_to_same}
use Rattle.cursor_seat.proofs.ViewPlaces.{LostRow, front_moves}

-- ---- what was given

-- the candidate that a seat gave last
pub record WasGiven (s : Stored) (seat : Seat) (at : Place) (before : Option Place) : Type 0 where
  pub index : ℕ
  pub passed : seat.passed ≡ index + 1
  pub place : slice_get (places_in s seat.node) index ≡ Some at
  pub last : IsLast (places_in s seat.node) index before
  pub candidate : Candidate
  pub there : slice_get (candidates s.world (seat_view s seat)) index ≡ Some candidate

pub was_given : (s : Stored) (seat : Seat) (at : Place) (before : Option Place) → TellAll s.world (spots_in s.world) → StandsBehind (places_in s seat.node) seat.passed seat.stand → seat.stand ≡ Gave before at → WasGiven s seat at before
was_given s seat at before tell stands is = by seat.passed refl (subst (λ (x : Stand). StandsBehind (places_in s seat.node) seat.passed x) is stands)
  where
    by : (n : ℕ) → seat.passed ≡ n → StandsBehind (places_in s seat.node) n (Gave before at) → WasGiven s seat at before
    by zero e h = absurd h
    by (suc i) e h =
        let c : IsElement (candidates s.world (seat_view s seat)) i = candidate_of s.world (seat_view s seat) i tell (slice_get_within (places_in s seat.node) i at h.1) in
        record { index = i; passed = e ∙ (let f : suc i ≡ i + 1 = omega arith in f); place = h.1; last = h.0; candidate = c.element; there = c.there }

pub rows_of_given : (s : Stored) (seat : Seat) (at : Place) (before : Option Place) (g : WasGiven s seat at before) → rows_given s.world (iterator_in s seat) ≡ g.candidate.rows
rows_of_given s seat at before g = ap (λ n. rows_of_first (slice_get (candidates s.world (seat_view s seat)) n)) (let e : seat.passed - 1 ≡ g.index = omega (arith, g.passed) in e) ∙ ap rows_of_first g.there

-- the one row for which it stands
pub given_row : (s : Stored) (seat : Seat) (at : Place) (before : Option Place) → Fits s seat → WasGiven s seat at before → IsRowAt (spots_at s.world (number_under (seat_view s seat))) at.spot (rows_given s.world (iterator_in s seat))
given_row s seat at before fits g =
    let v : View = seat_view s seat in
    let row = (row_stands s.world v at g.index g.candidate fits.there.known (known_by_row s.world v fits.there.known) fits.there.tell g.place g.there).row in
    subst (IsRowAt (spots_at s.world (number_under v)) at.spot) (sym (rows_of_given s seat at before g)) row

-- ---- once it is gone

lost_row : (before now : Stored) (v : View) (numbers : List ℕ) (n : ℕ) → number_under v < length before.world → is_known_kind (base_at before.world (number_under v)).kind ≡ true → numbers ≡ n ∷ [] → now.world ≡ edited_at before.world (number_under v) (removing numbers) → LostRow before.world now.world v n
lost_row before now v numbers n within kind only went =
    let it : Base = base_at before.world (number_under v) in
    let is : base_at now.world (number_under v) ≡ edited it (removing numbers) = ap (λ (w : World). base_at w (number_under v)) went ∙ written_at before.world (number_under v) (edited it (removing numbers)) within in
    record {
      kind = ap (λ (x : Base). x.kind) is;
      rows = ap (λ (x : Base). x.rows) (is ∙ edited_removing it kind numbers) ∙ sym (without_numbers it.rows n numbers only);
    }

pub goes_back : (earlier now : Stored) (seat : Seat) (at : Place) (before : Option Place) → Gone earlier seat now → TellAll now.world (spots_in now.world) → seat.stand ≡ Gave before at
    → IsLast (places_in now seat.node) (seat.passed - 1) (option_map (after_drop at.spot) before)
goes_back earlier now seat at before gone tells is =
    let there = gone.fits.there in
    let v : View = seat_view earlier seat in
    let g : WasGiven earlier seat at before = was_given earlier seat at before there.tell (gone.fits.stands gone.fresh) is in
    let row = given_row earlier seat at before gone.fits g in
    let lost : LostRow earlier.world now.world v row.number = lost_row earlier now v (rows_given earlier.world (iterator_in earlier seat)) row.number there.within there.kind row.only (ap (λ (s : Stored). s.world) gone.went) in
    let same : seat_view now seat ≡ v = ap (λ (s : Stored). view_in s seat.node) gone.went in
    let moves = front_moves earlier.world now.world v g.index row.number at there.known there.tell tells lost g.place row.at in
    subst (λ (n : ℕ). IsLast (places_in now seat.node) n (option_map (after_drop at.spot) before)) (let e : g.index ≡ seat.passed - 1 = omega (arith, g.passed) in e)
    (subst (λ (u : View). IsLast (places now.world (spots_in now.world) u) g.index (option_map (after_drop at.spot) before)) (sym same) (by (places earlier.world (spots_in earlier.world) v) (places now.world (spots_in now.world) v) g.index before moves g.last))
  where
    by : (ps qs : List Place) (i : ℕ) (o : Option Place) → ((j : ℕ) → j < i → slice_get qs j ≡ option_map (after_drop at.spot) (slice_get ps j)) → IsLast ps i o → IsLast qs i (option_map (after_drop at.spot) o)
    by ps qs zero None moves last = tt
    by ps qs zero (Some p) moves last = absurd last
    by ps qs (suc i) None moves last = absurd last
    by ps qs (suc i) (Some p) moves last = moves i (omega arith) ∙ ap (option_map (after_drop at.spot)) last

-- ---- views without sublists

same_step : (before after : Base) (it : Step) → refreshed_step [] before after it ≡ it
same_step before after (Sub n s) = refl
same_step before after (Piece n s) = refl
same_step before after _ = refl

same_view : (before after : Base) (v : View) → refreshed [] before after v ≡ v
same_view before after (base l) = refl
same_view before after (over it v) = λ i. over (same_step before after it i) (same_view before after v i)
same_view before after (both word v u) = λ i. both word (same_view before after v i) (same_view before after u i)

pub after_known : (before after : World) (it : Iterator) → is_known_view it.view ≡ true → after_removal before after it ≡ record { view = it.view; seen = changes after it.view; passed = it.passed - 1; given = false }
after_known before after it known =
    let same : refreshed (sublists_on it.view) (root before it.view) (root after it.view) it.view ≡ it.view =
    ap (λ (numbers : List ℕ). refreshed numbers (root before it.view) (root after it.view) it.view) (no_sublists it.view known) ∙ same_view (root before it.view) (root after it.view) it.view in
    λ i. record { view = same i; seen = changes after (same i); passed = it.passed - 1; given = false }

pub is_removed : (before now : Stored) (seat back : Seat) → remove_refusal before.world (iterator_in before seat) ≡ None → now ≡ with_world before (world_without before.world (iterator_in before seat))
    → iterator_in now back ≡ after_removal before.world now.world (iterator_in before seat) → (removed before.world (iterator_in before seat) ≡ Ok (iterator_in now back, now.world)) × (now ≡ with_world before now.world)
is_removed before now seat back none went is =
    let it : Iterator = iterator_in before seat in
    let world : world_without before.world it ≡ now.world = sym (ap (λ (s : Stored). s.world) went) in (
      ap (λ o. unless_refused o (Ok (after_removal before.world (world_without before.world it) it, world_without before.world it))) none ∙ (λ i. Ok (after_removal before.world (world i) it, world i)) ∙ ap (λ (x : Iterator). Ok (x, now.world)) (sym is),
      went ∙ ap (with_world before) world,
    )

-- ---- the seat that went back

pub record GoesBack (now : Stored) (seat back : Seat) : Type 0 where
  pub node : back.node ≡ seat.node
  pub seen : back.seen ≡ changes now.world (view_in now seat.node)
  pub passed : back.passed ≡ seat.passed - 1
  pub stand : back.stand ≡ behind_gone seat.stand

none_given : (stand : Stand) → has_given (behind_gone stand) ≡ false
none_given (Behind last) = refl
none_given (Gave before at) = refl

pub is_back : (earlier now : Stored) (seat back : Seat) → Gone earlier seat now → GoesBack now seat back → iterator_in now back ≡ after_removal earlier.world now.world (iterator_in earlier seat)
is_back earlier now seat back gone g =
    let same : view_in now seat.node ≡ view_in earlier seat.node = ap (λ (s : Stored). view_in s seat.node) gone.went in
    let view : view_in now back.node ≡ view_in earlier seat.node = ap (view_in now) g.node ∙ same in
    let seen : back.seen ≡ changes now.world (view_in earlier seat.node) = g.seen ∙ ap (changes now.world) same in
    let given : has_given back.stand ≡ false = ap has_given g.stand ∙ none_given seat.stand in
    (λ i. record { view = view i; seen = seen i; passed = g.passed i; given = given i })
    ∙ sym (after_known earlier.world now.world (iterator_in earlier seat) gone.fits.there.known)

back_behind : (earlier now : Stored) (seat : Seat) → Gone earlier seat now → TellAll now.world (spots_in now.world) → StandsBehind (places_in now seat.node) (seat.passed - 1) (behind_gone seat.stand)
back_behind earlier now seat gone tells = by seat.stand refl
  where
    by : (stand : Stand) → seat.stand ≡ stand → StandsBehind (places_in now seat.node) (seat.passed - 1) (behind_gone stand)
    by (Behind last) e = let f : false ≡ true = sym (ap has_given e) ∙ gone.given in absurd (cc)
    by (Gave before at) e = goes_back earlier now seat at before gone tells e

pub stands_back : (earlier now : Stored) (seat back : Seat) → Gone earlier seat now → IsThere now seat.node → GoesBack now seat back → Fits now back
stands_back earlier now seat back gone there g =
    let numbers : List ℕ = changes now.world (view_in now seat.node) in
    record {
      there = subst (IsThere now) (sym g.node) there;
      seen = subst (λ (n : ℕ). AreUpTo back.seen (changes now.world (view_in now n))) (sym g.node) (subst (λ (ns : List ℕ). AreUpTo ns numbers) (sym g.seen) (up_to_same numbers));
      stands = λ fresh.
          subst (λ (n : ℕ). StandsBehind (places_in now n) back.passed back.stand) (sym g.node)
          (subst (λ (n : ℕ). StandsBehind (places_in now seat.node) n back.stand) (sym g.passed)
          (subst (λ (x : Stand). StandsBehind (places_in now seat.node) (seat.passed - 1) x) (sym g.stand) (back_behind earlier now seat gone there.tell)));
    }

-- ---- a removal that is not refused

-- where it is not, the view lets an iterator remove, an item was given, and no base has changed
pub allowed : (s : Stored) (seat : Seat) → remove_refusal s.world (iterator_in s seat) ≡ None → (has_given seat.stand ≡ true) × (is_passed_by s.world (iterator_in s seat) ≡ false)
allowed s seat none = by (flags_at s.world (seat_view s seat)).iterate (has_given seat.stand) refl (is_passed_by s.world (iterator_in s seat)) refl none
  where
    by : (leave given : Bool) → has_given seat.stand ≡ given → (stale : Bool) → is_passed_by s.world (iterator_in s seat) ≡ stale
        → first_refusal (cond leave None (Some UnsupportedOperation)) (first_refusal (cond given None (Some IllegalState)) (cond stale (Some ConcurrentModification) None)) ≡ None → (has_given seat.stand ≡ true) × (is_passed_by s.world (iterator_in s seat) ≡ false)
    by true true e false f h = (e, f)
    by true true e true f h = absurd (cc)
    by true false e stale f h = absurd (cc)
    by false given e stale f h = absurd (cc)

-- its place is that of what was given
pub record IsToGo (s : Stored) (seat : Seat) (p : Place) : Type 0 where
  pub fits : Fits s seat
  pub none : remove_refusal s.world (iterator_in s seat) ≡ None
  pub place : slice_get (places_in s seat.node) (seat.passed - 1) ≡ Some p

pub row_to_go : (s : Stored) (seat : Seat) (p : Place) → IsToGo s seat p → IsRowAt (spots_at s.world (number_under (seat_view s seat))) p.spot (rows_given s.world (iterator_in s seat))
row_to_go s seat p go =
    let there = go.fits.there in
    let v : View = seat_view s seat in
    let i : ℕ = seat.passed - 1 in
    let c : IsElement (candidates s.world v) i = candidate_of s.world v i there.tell (slice_get_within (places_in s seat.node) i p go.place) in
    let row = (row_stands s.world v p i c.element there.known (known_by_row s.world v there.known) there.tell go.place c.there).row in
    subst (IsRowAt (spots_at s.world (number_under v)) p.spot) (sym (ap rows_of_first c.there)) row

pub goes : (s now : Stored) (seat : Seat) (p : Place) (b : ℕ) → b ≡ number_under (seat_view s seat) → IsToGo s seat p → ((numbers : List ℕ) → IsRowAt (spots_at s.world b) p.spot numbers → now ≡ with_world s (edited_at s.world b (removing numbers))) → Gone s seat now
goes s now seat p b under go after =
    let rows : List ℕ = rows_given s.world (iterator_in s seat) in
    let may = allowed s seat go.none in
    record {
      fits = go.fits;
      fresh = may.1;
      given = may.0;
      went = after rows (subst (λ (n : ℕ). IsRowAt (spots_at s.world n) p.spot rows) (sym under) (row_to_go s seat p go)) ∙ ap (λ (n : ℕ). with_world s (edited_at s.world n (removing rows))) under;
    }
