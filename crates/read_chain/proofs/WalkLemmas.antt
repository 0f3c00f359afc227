-- A walk: its spots, and what it still has to come to.
use Rattle.std.proofs.Common.{◌≡◌, ℕ, zero, suc, ◌+◌, Bool, true, false, not, cond, List, ◌∷◌, length, map, drop, refl, ap, sym, ◌∙◌, subst, arith}
use Rattle.std.specs.Prelude.{filter, slice_get, Option, Some, None}
use Rattle.std.proofs.lemmas.Simd.{map-map}
use Rattle.read_chain.specs.Reads.{leaves_out, shows_all}
use Rattle.read_chain.specs.Walks.{IsAt, is_seen_there, item_there, seen_items}
use Rattle.vocabulary.specs.declared.items.Item.{Item}
use Rattle.view_laws.specs.declared.places.Found.{Found}
use Rattle.view_laws.specs.declared.places.RowSpot.{RowSpot}
use Rattle.vocabulary.specs.declared.step_table.Family.{Family}
use Rattle.vocabulary.specs.declared.step_table.Family.TheVariants.{Same, Changed, Turned, Keyed, Hidden, Cut, Grouped, Run, Pieces}
use Rattle.vocabulary.specs.declared.steps.Step.{Step}
use Rattle.view_laws.specs.Following.{Follows, IsFrom}
use Rattle.view_laws.specs.Lanes.{turned_if}
use Rattle.view_laws.specs.Places.{found_in}
use Rattle.view_laws.specs.RowForm.{RowForm, form_of, form_over, shows}
use Rattle.vocabulary.specs.Steps.{family_of}
use Rattle.machine.specs.Bases.{World}
use Rattle.machine.specs.Views.{View, base, base_under, both, over, shown}
use Rattle.view_steps.specs.KnownViews.{is_known_view}
use Rattle.machine.specs.Leaves.{leaf_at}
use Rattle.machine.specs.Candidates.{Candidate, is_seen, item_in}
use Rattle.view_laws.proofs.ListLemmas as lists
use Rattle.view_laws.proofs.ListLemmas.{filter-all, filter-map, filter-reverse}
use Rattle.view_laws.proofs.RowLemmas.{turned-map}
use Rattle.view_steps.proofs.CountLemmas.{length_shown}

-- ---- spots passed

-- the spot after those that were passed
pub spot_next : (ss : List RowSpot) (i : ℕ) (from to : Option RowSpot) → IsAt ss i from → Follows ss from to → slice_get ss i ≡ to
spot_next ss zero None to at next = next
spot_next ss zero (Some s) to at next = absurd at
spot_next ss (suc i) None to at next = absurd at
spot_next ss (suc i) (Some s) to at next = ap (slice_get ss) (let e : suc i ≡ i + 1 = omega arith in e) ∙ next i at

pub spot_last : (ss : List RowSpot) (i : ℕ) (from : Option RowSpot) → IsAt ss i from → IsFrom ss from
spot_last ss zero None at = tt
spot_last ss zero (Some s) at = absurd at
spot_last ss (suc i) None at = absurd at
spot_last ss (suc i) (Some s) at = (i, at)

pub passes_one : (ss : List RowSpot) (i : ℕ) (s : RowSpot) → slice_get ss i ≡ Some s → IsAt ss (i + 1) (Some s)
passes_one ss i s is = subst (λ (n : ℕ). IsAt ss n (Some s)) (let e : suc i ≡ i + 1 = omega arith in e) is

-- the last spot, where one more was passed
pub last_passed : (ss : List RowSpot) (i : ℕ) (last : Option RowSpot) → IsAt ss (i + 1) last → slice_get ss i ≡ last
last_passed ss i last at = by last (subst (λ (n : ℕ). IsAt ss n last) (let e : i + 1 ≡ suc i = omega arith in e) at)
  where
    by : (o : Option RowSpot) → IsAt ss (suc i) o → slice_get ss i ≡ o
    by None at = absurd at
    by (Some s) at = at

-- ---- what is seen

pub shown_found : (cs : List Candidate) → map item_in (filter is_seen cs) ≡ seen_items (map found_in cs)
shown_found cs = sym (ap (map item_there) (filter-map is_seen_there found_in cs) ∙ map-map item_there found_in (filter is_seen cs))

seen_turned : (t : Bool) (ds : List Found) → seen_items (turned_if t ds) ≡ turned_if t (seen_items ds)
seen_turned true ds = ap (map item_there) (filter-reverse is_seen_there ds) ∙ turned-map item_there true (filter is_seen_there ds)
seen_turned false ds = refl

-- at its start a walk has all to come to
pub all_to_come : (t : Bool) (cs : List Candidate) → seen_items (drop 0 (turned_if t (map found_in cs))) ≡ turned_if t (map item_in (filter is_seen cs))
all_to_come t cs = seen_turned t (map found_in cs) ∙ ap (turned_if t) (sym (shown_found cs))

pub seen_first : (d : Found) (ds : List Found) → d.seen ≡ true → seen_items (d ∷ ds) ≡ d.item ∷ seen_items ds
seen_first d ds h = ap (λ b. map item_there (cond b (d ∷ filter is_seen_there ds) (filter is_seen_there ds))) h

pub hidden_first : (d : Found) (ds : List Found) → d.seen ≡ false → seen_items (d ∷ ds) ≡ seen_items ds
hidden_first d ds h = ap (λ b. map item_there (cond b (d ∷ filter is_seen_there ds) (filter is_seen_there ds))) h

-- ---- how many are shown

family_shows : (family : Family) (it : Step) (f : RowForm) → leaves_out family ≡ false → ((row : Item) → shows f row ≡ true) → (row : Item) → shows (form_over family it f) row ≡ true
family_shows Same it f h all row = all row
family_shows Changed it f h all row = all row
family_shows Turned it f h all row = all row
family_shows Keyed it f h all row = all row
family_shows Hidden it f h all row = absurd (cc)
family_shows Cut it f h all row = absurd (cc)
family_shows Grouped it f h all row = absurd (cc)
family_shows Run it f h all row = absurd (cc)
family_shows Pieces it f h all row = absurd (cc)

pub every_row : (v : View) → shows_all v ≡ true → (row : Item) → shows (form_of v) row ≡ true
every_row (base l) h row = refl
every_row (both word v u) h row = absurd (cc)
every_row (over it v) h row =
    let parts = lists.both_true (not (leaves_out (family_of it))) (shows_all v) h in
    family_shows (family_of it) it (form_of v) (kept (leaves_out (family_of it)) parts.0) (every_row v parts.1) row
  where
    kept : (b : Bool) → not b ≡ true → b ≡ false
    kept true e = sym e
    kept false e = refl

-- as many items as rows, where no step leaves one out
pub all_shown : (world : World) (v : View) → is_known_view v ≡ true → shows_all v ≡ true → length (shown world v) ≡ length (leaf_at world (base_under v)).rows
all_shown world v known h =
    let rows : List Item = (leaf_at world (base_under v)).rows in
    length_shown world v known
    ∙ ap length (ap (λ (q : Item → Bool). filter q rows) (λ i row. every_row v h row i) ∙ filter-all rows)
