-- The spots that are taken, where the row of one of them went.
use Rattle.std.proofs.Common.{◌≡◌, ℕ, zero, suc, ◌+◌, ◌-◌, ◌<◌, ◌≤◌, Bool, true, false, cond, List, [], ◌∷◌, length, map, refl, ap, sym, ◌∙◌, subst, arith}
use Rattle.std.specs.Prelude.{Some, slice_get}
use Rattle.std.specs.List.{AllByRecursion, IsDistinct, remove}
use Rattle.std.proofs.lemmas.Option.{same_Some}
use Rattle.std.proofs.lemmas.List.Edits.{length-remove}
use Rattle.vocabulary.specs.declared.items.Item.{Item}
use Rattle.view_laws.specs.declared.places.RowSpot.{RowSpot}
use Rattle.view_laws.specs.Lanes.{turned_if}
use Rattle.view_laws.specs.RowPlaces.{spots_taken}
use Rattle.view_laws.specs.Spots.{same_spot}
use Rattle.view_laws.proofs.ListLemmas.{all-at}
use Rattle.view_laws.proofs.SpotLemmas.{same_spot-refl}
use Rattle.view_steps.proofs.TurnLemmas.{reverse_at, slice_get-reverse}

-- what holds of spots holds of those taken
all_taken : (P : RowSpot → Type 0) (test : Item → Bool) (spots : List RowSpot) (rows : List Item) → AllByRecursion P spots → AllByRecursion P (spots_taken test spots rows)
all_taken P test [] rows a = tt
all_taken P test (s ∷ spots) [] a = tt
all_taken P test (s ∷ spots) (row ∷ rows) a = by (test row) (all_taken P test spots rows a.1)
  where
    by : (b : Bool) → AllByRecursion P (spots_taken test spots rows) → AllByRecursion P (cond b (s ∷ spots_taken test spots rows) (spots_taken test spots rows))
    by true rest = (a.0, rest)
    by false rest = rest

pub taken-map : (f : RowSpot → RowSpot) (test : Item → Bool) (spots : List RowSpot) (rows : List Item) → spots_taken test (map f spots) rows ≡ map f (spots_taken test spots rows)
taken-map f test [] rows = refl
taken-map f test (s ∷ spots) [] = refl
taken-map f test (s ∷ spots) (row ∷ rows) = by (test row) (taken-map f test spots rows)
  where
    by : (b : Bool) → spots_taken test (map f spots) rows ≡ map f (spots_taken test spots rows)
        → cond b (f s ∷ spots_taken test (map f spots) rows) (spots_taken test (map f spots) rows) ≡ map f (cond b (s ∷ spots_taken test spots rows) (spots_taken test spots rows))
    by true rest = ap (λ ts. f s ∷ ts) rest
    by false rest = rest

-- a spot does not stand among others
not_among : (s : RowSpot) (ts : List RowSpot) (i : ℕ) → AllByRecursion (λ t. same_spot s t ≡ false) ts → slice_get ts i ≡ Some s → ⊥
not_among s ts i all at = let e : true ≡ false = sym (same_spot-refl s) ∙ all-at (λ t. same_spot s t ≡ false) ts i s all at in cc

-- the row at a spot goes: those taken then are the others
pub taken_without : (test : Item → Bool) (s : RowSpot) (n m : ℕ) (spots : List RowSpot) (rows : List Item) → length spots ≡ length rows → IsDistinct same_spot spots → slice_get spots n ≡ Some s → slice_get (spots_taken test spots rows) m ≡ Some s
    → spots_taken test (remove spots n) (remove rows n) ≡ remove (spots_taken test spots rows) m
unfolding IsDistinct
taken_without test s n m [] rows many apart at taken = absurd (cc)
taken_without test s n m (t ∷ spots) [] many apart at taken = absurd (omega arith)
taken_without test s zero m (t ∷ spots) (row ∷ rows) many apart at taken = by (test row) m taken
  where
    rest : List RowSpot
    rest = spots_taken test spots rows

    others : AllByRecursion (λ u. same_spot s u ≡ false) rest
    others = all_taken (λ u. same_spot s u ≡ false) test spots rows (subst (λ (x : RowSpot). AllByRecursion (λ u. same_spot x u ≡ false) spots) (same_Some t s at) apart.0)

    by : (b : Bool) (k : ℕ) → slice_get (cond b (t ∷ rest) rest) k ≡ Some s → rest ≡ remove (cond b (t ∷ rest) rest) k
    by true zero h = refl
    by true (suc k) h = absurd (not_among s rest k others h)
    by false k h = absurd (not_among s rest k others h)
taken_without test s (suc n) m (t ∷ spots) (row ∷ rows) many apart at taken = by (test row) m taken (λ k h. taken_without test s n k spots rows (omega arith) apart.1 at h)
  where
    rest : List RowSpot
    rest = spots_taken test spots rows

    left : List RowSpot
    left = spots_taken test (remove spots n) (remove rows n)

    by : (b : Bool) (k : ℕ) → slice_get (cond b (t ∷ rest) rest) k ≡ Some s → ((k : ℕ) → slice_get rest k ≡ Some s → left ≡ remove rest k) → cond b (t ∷ left) left ≡ remove (cond b (t ∷ rest) rest) k
    by true zero h below = absurd (not_among s spots n (subst (λ (x : RowSpot). AllByRecursion (λ u. same_spot x u ≡ false) spots) (same_Some t s h) apart.0) at)
    by true (suc k) h below = ap (λ ts. t ∷ ts) (below k h)
    by false k h below = below k h

-- ---- what stood before the spot that went

removed_front : {X : Type 0} (xs : List X) (k j : ℕ) → j < k → slice_get (remove xs k) j ≡ slice_get xs j
removed_front [] zero j lt = absurd (omega arith)
removed_front [] (suc k) j lt = refl
removed_front (x ∷ xs) zero j lt = absurd (omega arith)
removed_front (x ∷ xs) (suc k) zero lt = refl
removed_front (x ∷ xs) (suc k) (suc j) lt = removed_front xs k j (omega arith)

removed_back : {X : Type 0} (xs : List X) (k j : ℕ) → k ≤ j → k < length xs → slice_get (remove xs k) j ≡ slice_get xs (suc j)
removed_back [] k j le lt = absurd (omega arith)
removed_back (x ∷ xs) zero j le lt = refl
removed_back (x ∷ xs) (suc k) zero le lt = absurd (omega arith)
removed_back (x ∷ xs) (suc k) (suc j) le lt = removed_back xs k j (omega arith) (omega arith)

-- where an element of a list, turned round or not, stands in the list, and what stands before it once it went
pub record StandsFirst {X : Type 0} (t : Bool) (xs : List X) (i : ℕ) (x : X) : Type 0 where
  pub index : ℕ
  pub at : slice_get xs index ≡ Some x
  pub before : (j : ℕ) → j < i → slice_get (turned_if t (remove xs index)) j ≡ slice_get (turned_if t xs) j

pub stands_first : {X : Type 0} (t : Bool) (xs : List X) (i : ℕ) (x : X) → slice_get (turned_if t xs) i ≡ Some x → StandsFirst t xs i x
stands_first false xs i x is = record { index = i; at = is; before = λ j lt. removed_front xs i j lt }
stands_first true xs i x is =
    let there = reverse_at xs i x is in
    let k : ℕ = there.0 in
    let long : i + k + 1 ≡ length xs = there.2 in
    let in_list : k < length xs = omega (arith, long) in
    let less : length (remove xs k) + 1 ≡ length xs = length-remove xs k in_list in
    record {
      index = k;
      at = there.1;
      before = λ j lt.
          slice_get-reverse (remove xs k) j (omega (arith, less, long, lt))
          ∙ removed_back xs k (length (remove xs k) - 1 - j) (omega (arith, less, long, lt)) in_list
          ∙ ap (slice_get xs) (let e : suc (length (remove xs k) - 1 - j) ≡ length xs - 1 - j = omega (arith, less, long, lt) in e)
          ∙ sym (slice_get-reverse xs j (omega (arith, long, lt)));
    }
