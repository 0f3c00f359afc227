-- The first hit among candidates.
use Rattle.std.proofs.Common.{◌≡◌, ℕ, zero, suc, ◌+◌, Bool, false, cond, ◌&&◌, List, [], ◌∷◌, map, drop, refl, ap, sym, ◌∙◌, true, ◌||◌, ◌++◌, reverse, subst}
use Rattle.std.specs.Prelude.{find, slice_get, Some, Option, None, filter, is_some}
use Rattle.std.specs.List.{drop-map, list_any}
use Rattle.std.proofs.lemmas.List.{reverse-append}
use Rattle.elem.specs.declared.elements.Elem.{Elem}
use Rattle.vocabulary.specs.declared.items.Item.{Item}
use Rattle.view_laws.specs.declared.places.Found.{Found}
use Rattle.vocabulary.specs.declared.step_table.Family.{Family}
use Rattle.vocabulary.specs.declared.step_table.Family.TheVariants.{Same, Changed, Turned, Hidden, Cut}
use Rattle.vocabulary.specs.declared.steps.Step.{Step}
use Rattle.machine.specs.CallEdits.{first_hit, is_hit, rows_of_first}
use Rattle.view_laws.specs.Places.{found_in}
use Rattle.machine.specs.Candidates.{Candidate, changed, cut, hidden, in_family, is_seen, item_in, of_rows}
use Rattle.machine.specs.Bases.{World}
use Rattle.machine.specs.KeyOrders.{KeyOrder}
use Rattle.machine.specs.Leaves.{leaf_at}
use Rattle.view_steps.specs.KnownViews.{is_known_view}
use Rattle.machine.specs.Views.{View, base, both, over, candidates, order_over, shown}
use Rattle.vocabulary.specs.Steps.{family_of, item_of, passes}
use Rattle.machine.specs.Shown.{has_key}
use Rattle.view_steps.proofs.FoundLemmas.{drop_at}
use Rattle.view_steps.proofs.FamilyTable.{is_plain, known_family}
use Rattle.view_steps.proofs.KnownLemmas.{known_over}
use Rattle.view_steps.proofs.ListLemmas.{filter-map, never}

-- the candidate that shows what is found
pub record IsCandidate (cs : List Candidate) (i : ℕ) (d : Found) : Type 0 where
  pub candidate : Candidate
  pub there : slice_get cs i ≡ Some candidate
  pub shows : found_in candidate ≡ d

pub candidate_at : (cs : List Candidate) (i : ℕ) (d : Found) (rest : List Found) → drop i (map found_in cs) ≡ d ∷ rest → IsCandidate cs i d
candidate_at [] zero d rest h = absurd (cc)
candidate_at [] (suc i) d rest h = absurd (cc)
candidate_at (c ∷ cs) zero d rest h = record { candidate = c; there = refl; shows = cc }
candidate_at (c ∷ cs) (suc i) d rest h =
    let below = candidate_at cs i d rest h in
    record { candidate = below.candidate; there = below.there; shows = below.shows }

-- whether what is found is seen, and passes
abbrev pub found_hit : (Item → Bool) → Found → Bool
found_hit passes d = d.seen && passes d.item

-- the first hit from a candidate on is that candidate, or comes later
pub first_here : (passes : Item → Bool) (cs : List Candidate) (i : ℕ) (d : Found) (it : IsCandidate cs i d) (t : Bool) → found_hit passes d ≡ t
    → find (is_hit passes) (drop i cs) ≡ cond t (Some it.candidate) (find (is_hit passes) (drop (i + 1) cs))
first_here passes cs i d it t h =
    ap (find (is_hit passes)) (drop_at cs i it.candidate it.there)
    ∙ ap (λ b. cond b (Some it.candidate) (find (is_hit passes) (drop (i + 1) cs))) (ap (found_hit passes) it.shows ∙ h)

pub hit_later : (passes : Item → Bool) (cs : List Candidate) (i : ℕ) (d : Found) (rest : List Found) → drop i (map found_in cs) ≡ d ∷ rest → found_hit passes d ≡ false
    → find (is_hit passes) (drop (i + 1) cs) ≡ find (is_hit passes) (drop i cs)
hit_later passes cs i d rest h miss = sym (first_here passes cs i d (candidate_at cs i d rest h) false miss)

pub no_more : (cs : List Candidate) → map found_in cs ≡ [] → cs ≡ []
no_more [] h = refl
no_more (c ∷ cs) h = absurd (cc)

pub no_hit : (passes : Item → Bool) (cs : List Candidate) (i : ℕ) → drop i (map found_in cs) ≡ [] → find (is_hit passes) (drop i cs) ≡ find (is_hit passes) cs → first_hit passes cs ≡ []
no_hit passes cs i h same = ap rows_of_first (sym same ∙ ap (find (is_hit passes)) (no_more (drop i cs) (sym (drop-map found_in i cs) ∙ h)))

-- ---- each candidate stands for one row

abbrev HasRow : Candidate → Type 0
HasRow c = (number : ℕ) × (c.rows ≡ number ∷ [])

abbrev HaveRows : List Candidate → Type 0
HaveRows [] = Unit {0}
HaveRows (c ∷ cs) = HasRow c × HaveRows cs

rows_append : (cs ds : List Candidate) → HaveRows cs → HaveRows ds → HaveRows (cs ++ ds)
rows_append [] ds a b = b
rows_append (c ∷ cs) ds a b = (a.0, rows_append cs ds a.1 b)

rows_reverse : (cs : List Candidate) → HaveRows cs → HaveRows (reverse cs)
rows_reverse [] a = tt
rows_reverse (c ∷ cs) a = subst HaveRows (sym (reverse-append (c ∷ []) cs)) (rows_append (reverse cs) (c ∷ []) (rows_reverse cs a.1) (a.0, tt))

rows_changed : (f : Item → Item) (cs : List Candidate) → HaveRows cs → HaveRows (changed f cs)
rows_changed f [] a = tt
rows_changed f (c ∷ cs) a = (a.0, rows_changed f cs a.1)

rows_hidden : (p : Item → Bool) (cs : List Candidate) → HaveRows cs → HaveRows (hidden p cs)
rows_hidden p [] a = tt
rows_hidden p (c ∷ cs) a = (a.0, rows_hidden p cs a.1)

rows_cut : (p : Item → Bool) (cs : List Candidate) → HaveRows cs → HaveRows (cut p cs)
rows_cut p [] a = tt
rows_cut p (c ∷ cs) a =
    elim (p c.item) as (λ b. HaveRows (cond b (c ∷ cut p cs) (cut p cs))) [
      | true ↦ (a.0, rows_cut p cs a.1)
      | false ↦ rows_cut p cs a.1
    ]

rows_over : (family : Family) (it : Step) (order : KeyOrder) (cs : List Candidate) → is_plain family ≡ true → HaveRows cs → HaveRows (in_family family it order cs)
rows_over Same it order cs plain a = a
rows_over Changed it order cs plain a = rows_changed (item_of it) cs a
rows_over Turned it order cs plain a = rows_reverse cs a
rows_over Hidden it order cs plain a = rows_hidden (passes it) cs a
rows_over Cut it order cs plain a = rows_changed (item_of it) (cut (passes it) cs) (rows_cut (passes it) cs a)
rows_over _ it order cs plain a = absurd (cc)

rows_base : (n : ℕ) (rows : List Item) → HaveRows (of_rows n rows)
rows_base n [] = tt
rows_base n (row ∷ rows) = ((n, refl), rows_base (n + 1) rows)

have_rows : (world : World) (v : View) → is_known_view v ≡ true → HaveRows (candidates world v)
have_rows world (base l) known = rows_base 0 (leaf_at world l).rows
have_rows world (over it v) known =
    let parts = known_over it v known in
    rows_over (family_of it) it (order_over world v it) (candidates world v) (known_family it parts.0) (have_rows world v parts.1)
have_rows world (both word v u) known = absurd (cc)

found_has : (p : Candidate → Bool) (cs : List Candidate) (c : Candidate) → HaveRows cs → find p cs ≡ Some c → HasRow c
found_has p [] c a e = absurd (cc)
found_has p (d ∷ cs) c a e =
    by (p d) e (found_has p cs c a.1) where
      by : (b : Bool) → cond b (Some d) (find p cs) ≡ Some c → (find p cs ≡ Some c → HasRow c) → HasRow c
      by true f later = let same : d ≡ c = cc in subst HasRow same a.0
      by false f later = later f

pub hit_shown : (p : Item → Bool) (cs : List Candidate) → list_any p (map item_in (filter is_seen cs)) ≡ is_some (find (is_hit p) cs)
hit_shown p [] = refl
hit_shown p (c ∷ cs) =
    elim c.seen as (λ b. list_any p (map item_in (cond b (c ∷ filter is_seen cs) (filter is_seen cs))) ≡ is_some (cond (b && p c.item) (Some c) (find (is_hit p) cs))) [
      | true ↦ elim (p c.item) as (λ b. b || list_any p (map item_in (filter is_seen cs)) ≡ is_some (cond b (Some c) (find (is_hit p) cs))) [
        | true ↦ refl
        | false ↦ hit_shown p cs
      ]
      | false ↦ hit_shown p cs
    ]

-- where no row is hit, no item that passes is shown
pub none_shown : (world : World) (v : View) (p : Item → Bool) → is_known_view v ≡ true → first_hit p (candidates world v) ≡ [] → false ≡ list_any p (shown world v)
none_shown world v p known none =
    by (find (is_hit p) (candidates world v)) refl ∙ sym (hit_shown p (candidates world v)) where
      by : (o : Option Candidate) → find (is_hit p) (candidates world v) ≡ o → false ≡ is_some (find (is_hit p) (candidates world v))
      by None e = sym (ap is_some e)
      by (Some c) e =
          let has = found_has (is_hit p) (candidates world v) c (have_rows world v known) e in
          let rows : c.rows ≡ [] = sym (ap rows_of_first e) ∙ none in
          absurd (let f : [] ≡ has.0 ∷ [] = sym rows ∙ has.1 in cc)

-- ---- the hits of a key

-- the candidates of a key
abbrev pub of_key : Elem → List Candidate → List Candidate
of_key k cs = filter (λ (c : Candidate). has_key k c.item) cs

pub found_of_key : (k : Elem) (cs : List Candidate) → map found_in (of_key k cs) ≡ filter (λ (d : Found). has_key k d.item) (map found_in cs)
found_of_key k cs = sym (filter-map (λ (d : Found). has_key k d.item) found_in cs)

find_in : {X : Type 0} (p q : X → Bool) (xs : List X) → ((x : X) → p x ≡ true → q x ≡ true) → find p xs ≡ find p (filter q xs)
find_in p q [] imply = refl
find_in p q (x ∷ xs) imply = by (q x) (p x) refl refl (find_in p q xs imply)
  where
    by : (s t : Bool) → q x ≡ s → p x ≡ t → find p xs ≡ find p (filter q xs) → find p (x ∷ xs) ≡ find p (cond s (x ∷ filter q xs) (filter q xs))
    by true t e f rest = ap (cond (p x) (Some x)) rest
    by false true e f rest = absurd (never (q x) e (imply x f))
    by false false e f rest = ap (λ b. cond b (Some x) (find p xs)) f ∙ rest

pub hit_passes : (passes : Item → Bool) (k : Elem) → ((item : Item) → passes item ≡ true → has_key k item ≡ true) → (c : Candidate) → is_hit passes c ≡ true → has_key k c.item ≡ true
hit_passes passes k imply c h = by c.seen h
  where
    by : (b : Bool) → b && passes c.item ≡ true → has_key k c.item ≡ true
    by true e = imply c.item e
    by false e = absurd (cc)

pub first_of_key : (passes : Item → Bool) (k : Elem) (cs : List Candidate) → ((item : Item) → passes item ≡ true → has_key k item ≡ true) → first_hit passes cs ≡ first_hit passes (of_key k cs)
first_of_key passes k cs imply = ap rows_of_first (find_in (is_hit passes) (λ (c : Candidate). has_key k c.item) cs (hit_passes passes k imply))

pub no_key_hit : (passes : Item → Bool) (k : Elem) (cs : List Candidate) → ((item : Item) → passes item ≡ true → has_key k item ≡ true)
    → filter (λ (d : Found). has_key k d.item) (map found_in cs) ≡ [] → first_hit passes cs ≡ []
no_key_hit passes k cs imply none = first_of_key passes k cs imply ∙ ap (first_hit passes) (no_more (of_key k cs) (found_of_key k cs ∙ none))

one_missed : (passes : Item → Bool) (d : Found) (cs : List Candidate) → map found_in cs ≡ d ∷ [] → found_hit passes d ≡ false → first_hit passes cs ≡ []
one_missed passes d [] one miss = refl
one_missed passes d (c ∷ []) one miss =
    let same : found_in c ≡ d = cc in
    ap (λ b. rows_of_first (cond b (Some c) None)) (ap (found_hit passes) same ∙ miss)
one_missed passes d (c ∷ e ∷ cs) one miss = absurd (cc)

pub key_missed : (passes : Item → Bool) (k : Elem) (d : Found) (cs : List Candidate) → ((item : Item) → passes item ≡ true → has_key k item ≡ true)
    → filter (λ (e : Found). has_key k e.item) (map found_in cs) ≡ d ∷ [] → found_hit passes d ≡ false → first_hit passes cs ≡ []
key_missed passes k d cs imply one miss = first_of_key passes k cs imply ∙ one_missed passes d (of_key k cs) (found_of_key k cs ∙ one) miss
