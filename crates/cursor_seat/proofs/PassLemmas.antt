-- What comes behind the candidates that were passed.
use Rattle.std.proofs.Common.{◌≡◌, ℕ, zero, suc, ◌+◌, ◌<◌, Bool, true, false, cond, List, [], ◌∷◌, length, map, drop, refl, ap, sym, ◌∙◌, subst, arith}
use Rattle.std.specs.Prelude.{Option, None, Some, option_map, slice_get, if◌then◌else◌}
use Rattle.std.proofs.lemmas.List.{drop-map}
use Rattle.std.proofs.lemmas.Option.{same_Some, slice_get_within, slice_get-map}
use Rattle.base_store.specs.Courses.{spots_in}
use Rattle.cursor_seat.specs.Seats.{hidden_ahead}
use Rattle.cursor_seat.specs.declared.stand.Stand.TheVariants.{Gave}
use Rattle.cursor_seat.specs.Stands.{IsLast, StandsBehind}
use Rattle.machine.specs.Bases.{World, base_at}
use Rattle.machine.specs.Candidates.{Candidate}
use Rattle.machine.specs.Iterators.{first_seen}
use Rattle.machine.specs.Views.{View, candidates}
use Rattle.read_chain.specs.Walks.{shown_there}
use Rattle.view_laws.specs.declared.places.Place.{Place}
use Rattle.view_laws.specs.Following.{Follows, IsFrom}
use Rattle.view_laws.specs.Places.{found_in}
use Rattle.view_laws.specs.Spots.{TellAll}
use Rattle.view_laws.specs.ViewPlaces.{places, show}
use Rattle.view_steps.specs.KnownViews.{is_known_view, number_under}
use Rattle.vocabulary.specs.declared.items.Item.{Item}
use Rattle.view_laws.proofs.RowPlaceLemmas.{few_candidates}
use Rattle.view_laws.proofs.ViewStands.{as_many, view_labels}
use Rattle.view_steps.proofs.KnownLemmas.{known_by_row}
use Rattle.view_steps.proofs.FoundLemmas.{drop_at}
use Rattle.read_chain.proofs.Along.{all_passed, found_there}
use Rattle.read_chain.proofs.UnderLemmas.{IsThere, candidate_of, size_under}

-- ---- places

pub last_from : (ps : List Place) (i : ℕ) (last : Option Place) → IsLast ps i last → IsFrom ps last
last_from ps zero None at = tt
last_from ps zero (Some p) at = absurd at
last_from ps (suc i) None at = absurd at
last_from ps (suc i) (Some p) at = (i, at)

pub place_next : (ps : List Place) (i : ℕ) (last to : Option Place) → IsLast ps i last → Follows ps last to → slice_get ps i ≡ to
place_next ps zero None to at next = next
place_next ps zero (Some p) to at next = absurd at
place_next ps (suc i) None to at next = absurd at
place_next ps (suc i) (Some p) to at next = ap (slice_get ps) (let e : suc i ≡ i + 1 = omega arith in e) ∙ next i at

pub last_more : (ps : List Place) (i : ℕ) (p : Place) → slice_get ps i ≡ Some p → IsLast ps (i + 1) (Some p)
last_more ps i p is = subst (λ (n : ℕ). IsLast ps n (Some p)) (let e : suc i ≡ i + 1 = omega arith in e) is

-- ---- candidates

-- a candidate, which is seen or hidden, and those behind it
pub record Comes (cs : List Candidate) (i : ℕ) (o : Option Item) : Type 0 where
  pub candidate : Candidate
  pub rest : drop i cs ≡ candidate ∷ drop (i + 1) cs
  pub shown : o ≡ (if candidate.seen then Some candidate.item else None)

pub comes_at : (world : World) (v : View) (i : ℕ) (p : Place) (o : Option Item) → TellAll world (spots_in world) → slice_get (places world (spots_in world) v) i ≡ Some p → o ≡ shown_there (show world (spots_in world) v p) → Comes (candidates world v) i o
comes_at world v i p o tell at shown =
    let cs : List Candidate = candidates world v in
    let c : IsThere cs i = candidate_of world v i tell (slice_get_within (places world (spots_in world) v) i p at) in
    let here : slice_get (map found_in cs) i ≡ show world (spots_in world) v p = found_there (show world (spots_in world) v) (places world (spots_in world) v) (map found_in cs) (view_labels world (spots_in world) v tell) i p at in
    let found : show world (spots_in world) v p ≡ Some (found_in c.element) = sym here ∙ slice_get-map found_in cs i ∙ ap (option_map found_in) c.there in
    record { candidate = c.element; rest = drop_at cs i c.element c.there; shown = shown ∙ ap shown_there found }

pub none_at : (world : World) (v : View) (i : ℕ) → TellAll world (spots_in world) → slice_get (places world (spots_in world) v) i ≡ None → drop i (candidates world v) ≡ []
none_at world v i tell at =
    let cs : List Candidate = candidates world v in
    map_none (drop i cs) (sym (drop-map found_in i cs) ∙ all_passed (show world (spots_in world) v) (places world (spots_in world) v) (map found_in cs) (view_labels world (spots_in world) v tell) i at)
  where
    map_none : (xs : List Candidate) → map found_in xs ≡ [] → xs ≡ []
    map_none [] e = refl
    map_none (x ∷ xs) e = absurd (cc)

seen_is : (c : Candidate) (item : Item) → Some item ≡ (if c.seen then Some c.item else None) → (c.seen ≡ true) × (c.item ≡ item)
seen_is c item e = by c.seen refl e
  where
    by : (b : Bool) → c.seen ≡ b → Some item ≡ cond b (Some c.item) None → (c.seen ≡ true) × (c.item ≡ item)
    by true is h = (is, sym (same_Some item c.item h))
    by false is h = absurd (cc)

hidden_is : (c : Candidate) → None ≡ (if c.seen then Some c.item else None) → c.seen ≡ false
hidden_is c e = by c.seen refl e
  where
    by : (b : Bool) → c.seen ≡ b → None ≡ cond b (Some c.item) None → c.seen ≡ false
    by true is h = absurd (cc)
    by false is h = is

pub first_is : (cs : List Candidate) (i : ℕ) (item : Item) → Comes cs i (Some item) → first_seen i (drop i cs) ≡ Some (i, item)
first_is cs i item c =
    let is = seen_is c.candidate item c.shown in
    ap (first_seen i) c.rest ∙ ap (λ b. cond b (Some (i, c.candidate.item)) (first_seen (i + 1) (drop (i + 1) cs))) is.0 ∙ ap (λ (x : Item). Some (i, x)) is.1

pub first_later : (cs : List Candidate) (i : ℕ) → Comes cs i None → first_seen i (drop i cs) ≡ first_seen (i + 1) (drop (i + 1) cs)
first_later cs i c =
    ap (first_seen i) c.rest ∙ ap (λ b. cond b (Some (i, c.candidate.item)) (first_seen (i + 1) (drop (i + 1) cs))) (hidden_is c.candidate c.shown)

pub one_hidden : (cs : List Candidate) (i : ℕ) → Comes cs i None → hidden_ahead (drop i cs) ≡ hidden_ahead (drop (i + 1) cs) + 1
one_hidden cs i c = ap hidden_ahead c.rest ∙ ap (λ b. cond b 0 (hidden_ahead (drop (i + 1) cs) + 1)) (hidden_is c.candidate c.shown)

-- so many passed are fewer than there may be rows
pub few_passed : (world : World) (v : View) (i : ℕ) (p : Place) → is_known_view v ≡ true → TellAll world (spots_in world) → slice_get (places world (spots_in world) v) i ≡ Some p → i < length (base_at world (number_under v)).rows
few_passed world v i p known tell at =
    omega (arith, slice_get_within (places world (spots_in world) v) i p at, as_many world (spots_in world) v tell, few_candidates world v (known_by_row world v known), size_under world v (number_under v) known refl)

pub stands_more : (ps : List Place) (i : ℕ) (before : Option Place) (at : Place) → IsLast ps i before → slice_get ps i ≡ Some at → StandsBehind ps (i + 1) (Gave before at)
stands_more ps i before at last here = subst (λ (n : ℕ). StandsBehind ps n (Gave before at)) (let e : suc i ≡ i + 1 = omega arith in e) (last, here)

pub fewer_left : (cs : List Candidate) (i : ℕ) (o : Option Item) → Comes cs i o → length (drop (i + 1) cs) < length (drop i cs)
fewer_left cs i o c = let e : length (drop i cs) ≡ suc (length (drop (i + 1) cs)) = ap length c.rest in omega arith
