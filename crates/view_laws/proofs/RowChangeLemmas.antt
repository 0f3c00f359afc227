-- The spots of the rows that pass, where a row goes or comes.
use Rattle.std.proofs.Common.{◌≡◌, ℕ, zero, suc, ◌≤◌, Bool, true, false, cond, not, ◌&&◌, List, [], ◌∷◌, length, map, refl, ap, sym, ◌∙◌, arith}
use Rattle.std.specs.Prelude.{filter, insert, slice_get, take, Some}
use Rattle.std.specs.List.{remove, AllByRecursion, IsDistinct}
use Rattle.std.specs.Cmp.{nat_eq_equiv}
use Rattle.std.proofs.lemmas.List.{reverse-reverse}
use Rattle.std.proofs.lemmas.Option.{same_Some}
use Rattle.elem.specs.ElementLaws.{same_equiv}
use Rattle.vocabulary.specs.declared.items.Item.{Item}
use Rattle.machine.specs.Bases.{World}
use Rattle.machine.specs.Leaves.{leaf_at}
use Rattle.machine.specs.Views.{View, base_under}
use Rattle.view_laws.specs.declared.places.Place.{Place}
use Rattle.view_laws.specs.declared.places.RowSpot.{RowSpot}
use Rattle.view_laws.specs.declared.places.RowSpot.TheVariants.{Index, Key, Pair, Cell, Nth}
use Rattle.view_laws.specs.Lanes.{turned_if}
use Rattle.view_laws.specs.RowChanges.{GainsRow, LosesRow, with_place}
use Rattle.view_laws.specs.RowForm.{form_of, is_by_row}
use Rattle.view_laws.specs.RowPlaces.{spots_taken}
use Rattle.view_laws.specs.Spots.{Spots, TellAll, same_spot}
use Rattle.view_laws.specs.ViewPlaces.{place_of, places}
use Rattle.view_laws.proofs.FormPlaces.{places_of_rows}
use Rattle.view_laws.proofs.ListLemmas.{all-as, all-at, filter-map}
use Rattle.view_laws.proofs.PickLemmas.{filter-passing}
use Rattle.view_laws.proofs.RowLemmas.{turned-filter}
use Rattle.view_laws.proofs.SpotLemmas.{same_spot-refl}

-- ---- a row goes

same_spot-symm : (a b : RowSpot) → same_spot a b ≡ same_spot b a
same_spot-symm (Index i) (Index j) = nat_eq_equiv.symm i j
same_spot-symm (Index i) (Key k) = refl
same_spot-symm (Index i) (Pair j) = refl
same_spot-symm (Index i) (Cell r c) = refl
same_spot-symm (Index i) (Nth x j) = refl
same_spot-symm (Key k) (Key l) = same_equiv.symm k l
same_spot-symm (Key k) (Index j) = refl
same_spot-symm (Key k) (Pair j) = refl
same_spot-symm (Key k) (Cell r c) = refl
same_spot-symm (Key k) (Nth x j) = refl
same_spot-symm (Pair i) (Pair j) = nat_eq_equiv.symm i j
same_spot-symm (Pair i) (Index j) = refl
same_spot-symm (Pair i) (Key k) = refl
same_spot-symm (Pair i) (Cell r c) = refl
same_spot-symm (Pair i) (Nth x j) = refl
same_spot-symm (Cell r c) (Cell s d) = λ i. same_equiv.symm r s i && same_equiv.symm c d i
same_spot-symm (Cell r c) (Index j) = refl
same_spot-symm (Cell r c) (Key k) = refl
same_spot-symm (Cell r c) (Pair j) = refl
same_spot-symm (Cell r c) (Nth x j) = refl
same_spot-symm (Nth x i) (Nth y j) = λ k. same_equiv.symm x y k && nat_eq_equiv.symm i j k
same_spot-symm (Nth x i) (Index j) = refl
same_spot-symm (Nth x i) (Key k) = refl
same_spot-symm (Nth x i) (Pair j) = refl
same_spot-symm (Nth x i) (Cell r c) = refl

-- what holds of spots holds of those taken
all-taken : (P : RowSpot → Type 0) (test : Item → Bool) (spots : List RowSpot) (rows : List Item) → AllByRecursion P spots → AllByRecursion P (spots_taken test spots rows)
all-taken P test [] rows a = tt
all-taken P test (s ∷ spots) [] a = tt
all-taken P test (s ∷ spots) (row ∷ rows) a = by (test row) (all-taken P test spots rows a.1)
  where
    by : (b : Bool) → AllByRecursion P (spots_taken test spots rows) → AllByRecursion P (cond b (s ∷ spots_taken test spots rows) (spots_taken test spots rows))
    by true rest = (a.0, rest)
    by false rest = rest

abbrev others : RowSpot → RowSpot → Bool
others s t = not (same_spot s t)

taken_without : (test : Item → Bool) (s : RowSpot) (n : ℕ) (spots : List RowSpot) (rows : List Item) → length spots ≡ length rows → IsDistinct same_spot spots → slice_get spots n ≡ Some s
    → spots_taken test (remove spots n) (remove rows n) ≡ filter (others s) (spots_taken test spots rows)
unfolding IsDistinct
taken_without test s n [] rows many apart at = absurd (cc)
taken_without test s n (t ∷ spots) [] many apart at = absurd (omega arith)
taken_without test s zero (t ∷ spots) (row ∷ rows) many apart at = rw (sym (same_Some t s at)) (by (test row))
  where
    taken : List RowSpot
    taken = spots_taken test spots rows

    rest : taken ≡ filter (others t) taken
    rest = sym (filter-passing (others t) taken (all-taken (λ u. others t u ≡ true) test spots rows (all-as (λ u. same_spot t u ≡ false) (λ u. others t u ≡ true) (λ u e. ap not e) spots apart.0)))

    by : (b : Bool) → taken ≡ filter (others t) (cond b (t ∷ taken) taken)
    by true = rest ∙ ap (λ e. cond (not e) (t ∷ filter (others t) taken) (filter (others t) taken)) (sym (same_spot-refl t))
    by false = rest
taken_without test s (suc n) (t ∷ spots) (row ∷ rows) many apart at = by (test row) (taken_without test s n spots rows (omega arith) apart.1 at)
  where
    taken : List RowSpot
    taken = spots_taken test spots rows

    left : List RowSpot
    left = spots_taken test (remove spots n) (remove rows n)

    first : same_spot s t ≡ false
    first = same_spot-symm s t ∙ all-at (λ u. same_spot t u ≡ false) spots n s apart.0 at

    by : (b : Bool) → left ≡ filter (others s) taken → cond b (t ∷ left) left ≡ filter (others s) (cond b (t ∷ taken) taken)
    by true rest = ap (λ ts. t ∷ ts) rest ∙ ap (λ e. cond (not e) (t ∷ filter (others s) taken) (filter (others s) taken)) (sym first)
    by false rest = rest

pub places_without : (world after : World) (spots left : Spots) (v : View) (n : ℕ) (s : RowSpot) → is_by_row world v ≡ true → is_by_row after v ≡ true → TellAll world spots → TellAll after left → LosesRow world spots after left (base_under v) n s
    → places after left v ≡ filter (λ (p : Place). not (same_spot s p.spot)) (places world spots v)
places_without world after spots left v n s ok still tell tells loses =
    let l = base_under v in
    let f = form_of v in
    let taken : List RowSpot = spots_taken f.takes (spots l) (leaf_at world l).rows in
    places_of_rows after left v still tells
    ∙ (λ i. turned_if f.turned (map place_of (spots_taken f.takes (loses.fewer_spots i) (loses.fewer_rows i))))
    ∙ ap (λ ts. turned_if f.turned (map place_of ts)) (taken_without f.takes s n (spots l) (leaf_at world l).rows (tell l).as_many (tell l).apart loses.at)
    ∙ ap (turned_if f.turned) (sym (filter-map (λ (p : Place). not (same_spot s p.spot)) place_of taken))
    ∙ sym (turned-filter (λ (p : Place). not (same_spot s p.spot)) f.turned (map place_of taken))
    ∙ ap (filter (λ (p : Place). not (same_spot s p.spot))) (sym (places_of_rows world spots v ok tell))

-- ---- a row comes

taken_with : (test : Item → Bool) (s : RowSpot) (row : Item) (n : ℕ) (spots : List RowSpot) (rows : List Item) → length spots ≡ length rows → n ≤ length spots
    → spots_taken test (insert spots n s) (insert rows n row) ≡ cond (test row) (insert (spots_taken test spots rows) (length (filter test (take n rows))) s) (spots_taken test spots rows)
taken_with test s row zero spots rows many within = refl
taken_with test s row (suc n) [] rows many within = absurd (omega arith)
taken_with test s row (suc n) (t ∷ spots) [] many within = absurd (omega arith)
taken_with test s row (suc n) (t ∷ spots) (r ∷ rows) many within = by (test r) (test row) (taken_with test s row n spots rows (omega arith) (omega arith))
  where
    taken : List RowSpot
    taken = spots_taken test spots rows

    more : List RowSpot
    more = spots_taken test (insert spots n s) (insert rows n row)

    front : List Item
    front = filter test (take n rows)

    by : (a b : Bool) → more ≡ cond b (insert taken (length front) s) taken → cond a (t ∷ more) more ≡ cond b (insert (cond a (t ∷ taken) taken) (length (cond a (r ∷ front) front)) s) (cond a (t ∷ taken) taken)
    by true true rest = ap (λ ts. t ∷ ts) rest
    by true false rest = ap (λ ts. t ∷ ts) rest
    by false true rest = rest
    by false false rest = rest

map-insert : {X Y : Type 0} (f : X → Y) (n : ℕ) (x : X) (xs : List X) → map f (insert xs n x) ≡ insert (map f xs) n (f x)
map-insert f zero x xs = refl
map-insert f (suc n) x [] = refl
map-insert f (suc n) x (y ∷ xs) = ap (λ ys. f y ∷ ys) (map-insert f n x xs)

turned_back : {X : Type 0} (t : Bool) (xs : List X) → turned_if t (turned_if t xs) ≡ xs
turned_back true xs = reverse-reverse xs
turned_back false xs = refl

pub places_with : (world after : World) (spots more : Spots) (v : View) (n : ℕ) (s : RowSpot) (row : Item) → is_by_row world v ≡ true → is_by_row after v ≡ true → TellAll world spots → TellAll after more → GainsRow world spots after more (base_under v) n s row
    → places after more v ≡ cond ((form_of v).takes row) (with_place (form_of v).turned (length (filter (form_of v).takes (take n (leaf_at world (base_under v)).rows))) (place_of s) (places world spots v)) (places world spots v)
places_with world after spots more v n s row ok still tell tells gains =
    places_of_rows after more v still tells
    ∙ (λ i. turned_if turned (map place_of (spots_taken takes (gains.more_spots i) (gains.more_rows i))))
    ∙ ap (λ ts. turned_if turned (map place_of ts)) (taken_with takes s row n (spots (base_under v)) rows (tell (base_under v)).as_many gains.within)
    ∙ by (takes row)
  where
    takes : Item → Bool
    takes = (form_of v).takes

    turned : Bool
    turned = (form_of v).turned

    rows : List Item
    rows = (leaf_at world (base_under v)).rows

    taken : List RowSpot
    taken = spots_taken takes (spots (base_under v)) rows

    i : ℕ
    i = length (filter takes (take n rows))

    before : turned_if turned (map place_of taken) ≡ places world spots v
    before = sym (places_of_rows world spots v ok tell)

    by : (b : Bool) → turned_if turned (map place_of (cond b (insert taken i s) taken)) ≡ cond b (with_place turned i (place_of s) (places world spots v)) (places world spots v)
    by true =
        ap (turned_if turned) (map-insert place_of i s taken)
        ∙ ap (λ ps. turned_if turned (insert ps i (place_of s))) (sym (turned_back turned (map place_of taken)))
        ∙ ap (λ ps. turned_if turned (insert (turned_if turned ps) i (place_of s))) before
    by false = before
