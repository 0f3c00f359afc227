-- Where the first hit of a key stands.
use Rattle.std.proofs.Common.{◌≡◌, ℕ, Bool, true, cond, ◌&&◌, List, [], ◌∷◌, map, refl, ap, sym, ◌∙◌, subst}
use Rattle.std.specs.Prelude.{filter, option_map, slice_get, Option, Some, None}
use Rattle.std.specs.Option.{option_to_list}
use Rattle.elem.specs.declared.elements.Elem.{Elem}
use Rattle.base_rows.specs.BaseSpots.{IsRowAt}
use Rattle.base_store.specs.Courses.{spots_at}
use Rattle.machine.specs.Bases.{World}
use Rattle.machine.specs.CallEdits.{first_hit, is_hit, rows_of_first}
use Rattle.machine.specs.Candidates.{Candidate, is_seen, item_in}
use Rattle.machine.specs.Shown.{has_key, value_shown}
use Rattle.machine.specs.Views.{View, candidates}
use Rattle.read_chain.specs.LookUps.{IsFoundAt}
use Rattle.read_chain.specs.Reads.{StandsAt}
use Rattle.vocabulary.specs.declared.items.Item.{Item}
use Rattle.vocabulary.specs.declared.items.Side.TheVariants.{First}
use Rattle.vocabulary.specs.Items.{value_of}
use Rattle.view_laws.specs.declared.places.Found.{Found}
use Rattle.view_laws.specs.declared.places.RowSpot.{RowSpot}
use Rattle.view_laws.specs.Places.{found_in}
use Rattle.view_laws.specs.ViewPlaces.{place_of}
use Rattle.view_laws.proofs.ListLemmas.{and-true}
use Rattle.view_steps.specs.KnownViews.{number_under}
use Rattle.read_chain.proofs.LookUpLemmas.{seen_item, shown_of_one}
use Rattle.view_steps.proofs.MemberLemmas.{StandsIn, in_filter, passes_filter}
use Rattle.view_steps.proofs.KeyLemmas.{find_one}
use Rattle.view_steps.proofs.HitLemmas.{first_of_key, found_hit, found_of_key, of_key}
use Rattle.read_chain.proofs.WalkLemmas.{shown_found}

-- ---- the candidate of a key

-- the one candidate that shows what is found
record IsOnly (cs : List Candidate) (d : Found) : Type 0 where
  pub candidate : Candidate
  pub only : cs ≡ candidate ∷ []
  pub shows : found_in candidate ≡ d

one_shows : (cs : List Candidate) (d : Found) → map found_in cs ≡ d ∷ [] → IsOnly cs d
one_shows [] d e = absurd (cc)
one_shows (c ∷ []) d e = record { candidate = c; only = refl; shows = cc }
one_shows (c ∷ f ∷ cs) d e = absurd (cc)

pub key_hit : (world : World) (v : View) (passes : Item → Bool) (k : Elem) (s : RowSpot) (d : Found) → IsFoundAt world v First k s → ((item : Item) → passes item ≡ true → has_key k item ≡ true)
    → filter (λ (e : Found). has_key k e.item) (map found_in (candidates world v)) ≡ d ∷ [] → found_hit passes d ≡ true → StandsAt world v (place_of s) (first_hit passes (candidates world v))
key_hit world v passes k s d there imply one hit =
    let cs : List Candidate = candidates world v in
    let it : IsOnly (of_key k cs) d = one_shows (of_key k cs) d (found_of_key k cs ∙ one) in
    let first : slice_get (of_key k cs) 0 ≡ Some it.candidate = ap (λ (es : List Candidate). slice_get es 0) it.only in
    let stands : StandsIn cs it.candidate = in_filter (λ (c : Candidate). has_key k c.item) cs it.candidate 0 first in
    let has : has_key k it.candidate.item ≡ true = passes_filter (λ (c : Candidate). has_key k c.item) cs it.candidate 0 first in
    let passed : is_hit passes it.candidate ≡ true = ap (found_hit passes) it.shows ∙ hit in
    let rows : first_hit passes cs ≡ it.candidate.rows =
    first_of_key passes k cs imply ∙ ap (first_hit passes) it.only ∙ ap (λ b. rows_of_first (cond b (Some it.candidate) None)) passed in
    record {
      leaf = refl;
      row = subst (λ (ns : List ℕ). IsRowAt (spots_at world (number_under v)) s ns) (sym rows) (there stands.0 it.candidate stands.1 has);
    }

-- what a look-up found has the key
pub has_that_key : (k : Elem) (ds : List Found) (d : Found) → filter (λ (e : Found). has_key k e.item) ds ≡ d ∷ [] → has_key k d.item ≡ true
has_that_key k ds d one = passes_filter (λ (e : Found). has_key k e.item) ds d 0 (ap (λ (es : List Found). slice_get es 0) one)

pub seen_hit : (k : Elem) (ds : List Found) (d : Found) (t : Bool) → filter (λ (e : Found). has_key k e.item) ds ≡ d ∷ [] → d.seen ≡ t → found_hit (has_key k) d ≡ t
seen_hit k ds d t one seen = (λ i. seen i && has_that_key k ds d one i) ∙ and-true t

-- the value shown at a key, by what a look-up found there
pub value_found : (k : Elem) (cs : List Candidate) (o : Option Found) → filter (λ (e : Found). has_key k e.item) (map found_in cs) ≡ option_to_list o
    → value_shown (map item_in (filter is_seen cs)) k ≡ option_map value_of (seen_item o)
value_found k cs o one =
    ap (option_map value_of)
    (find_one (has_key k) (map item_in (filter is_seen cs)) (seen_item o) (ap (filter (has_key k)) (shown_found cs) ∙ shown_of_one (has_key k) (map found_in cs) o one))
