-- What comes to a list, and what goes from it.
use Rattle.std.proofs.Common.{◌≡◌, ℕ, zero, suc, ◌≤◌, ◌<◌, ◌+◌, Bool, not, List, [], ◌∷◌, ◌++◌, take, drop, map, length, get_or, Some, None, refl, sym, ap, ◌∙◌, subst, arith, length-append}
use Rattle.std.specs.Prelude.{filter, insert, slice_get}
use Rattle.std.specs.List.{remove, remove_range}
use Rattle.std.proofs.lemmas.List.{take-append-drop, length-take-le, drop_at, take-append-le, take-take, take-map, drop-map, map-append, take_all, drop_all, append-nil, length-map}
use Rattle.elem.specs.declared.elements.Elem.{Elem}
use Rattle.base_rows.specs.BaseRows.{items, AreRowsOf, IsRowOf, IsSpotIn, IsFree}
use Rattle.base_rows.specs.Journals.{index_in}
use Rattle.vocabulary.specs.declared.edits.Spot.{Spot}
use Rattle.vocabulary.specs.declared.edits.Spot.TheVariants.{Own, Swapped, Before, Instead, InKey}
use Rattle.vocabulary.specs.declared.items.Item.{Item}
use Rattle.vocabulary.specs.declared.items.Item.TheVariants.{One}
use Rattle.vocabulary.specs.declared.kinds.Kind.TheVariants.{ArrayList}
use Rattle.machine.specs.Placing.{placed}
use Rattle.machine.specs.Edits.{coming, placed_all}
use Rattle.view_laws.proofs.ListLemmas.{filter-map}
use Rattle.base_rows.proofs.PlacedInList.{placed-last, Stands, own_all, before_all, more_rows, taken_back}

-- ---- cuts of any list

pub run_none : {X : Type 0} (xs : List X) (n : ℕ) → remove_range xs n n ≡ xs
run_none xs n = take-append-drop n xs

pub run_within : {X : Type 0} (xs : List X) (n to : ℕ) → n ≤ length xs → n ≤ length (remove_range xs n to)
run_within xs n to h = omega (arith, length-append (take n xs) (drop to xs), length-take-le n xs h)

pub run_more : {X : Type 0} (xs : List X) (e f to : ℕ) → f ≡ suc e → f ≤ length xs → remove (remove_range xs f to) e ≡ remove_range xs e to
run_more xs e f to next h =
    let long : length (take f xs) ≡ f = length-take-le f xs h in
    let front : take e (take f xs ++ drop to xs) ≡ take e xs = take-append-le e (take f xs) (drop to xs) (omega arith) ∙ take-take e f xs (omega arith) in
    let rest : drop (suc e) (take f xs ++ drop to xs) ≡ drop to xs = drop_at (take f xs) (drop to xs) (suc e) (omega arith) in
    λ i. front i ++ rest i

pub map-run : {X Y : Type 0} (f : X → Y) (xs : List X) (a b : ℕ) → map f (remove_range xs a b) ≡ remove_range (map f xs) a b
map-run f xs a b = map-append f (take a xs) (drop b xs) ∙ (λ i. sym (take-map f a xs) i ++ sym (drop-map f b xs) i)

insert-last : {X : Type 0} (xs : List X) (x : X) → insert xs (length xs) x ≡ xs ++ x ∷ []
insert-last [] x = refl
insert-last (y ∷ xs) x = ap (λ l. y ∷ l) (insert-last xs x)

-- ---- a row that comes to a list

pub own_item : (rows : List Elem) (n : ℕ) (x : Elem) → n ≡ length rows → items (insert rows n x) ≡ placed ArrayList (items rows) (One x)
own_item rows n x e = ap (λ m. items (insert rows m x)) e ∙ ap items (insert-last rows x) ∙ map-append One rows (x ∷ []) ∙ sym (placed-last (items rows) (One x))

pub index_within : (spot : Spot) (size : ℕ) → IsSpotIn ArrayList size spot → index_in spot size ≤ size
index_within Own size is = omega arith
index_within (Before i) size is = is.1
index_within (Instead i) size is = let h = is.1 in omega arith
index_within Swapped size is = absurd (cc)
index_within (InKey i) size is = absurd is

pub stands : (spot : Spot) (rows added : List Item) → IsSpotIn ArrayList (length rows) spot → IsFree spot → Stands (index_in spot (length rows)) rows (placed_all ArrayList rows (coming spot added)) (length added)
stands Own rows added is free = record {
  middle = added;
  counted = refl;
  whole = own_all rows added ∙ (λ j. sym (take_all (length rows) rows (omega arith)) j ++ sym (append-nil added) j) ∙ ap (λ (l : List Item). take (length rows) rows ++ (added ++ l)) (sym (drop_all (length rows) rows (omega arith)));
}
stands (Before i) rows added is free = before_all i rows added is.1
stands (Instead i) rows added is free = absurd free
stands Swapped rows added is free = absurd free
stands (InKey i) rows added is free = absurd free

-- a spot of a list is one of a longer list
pub still_spot : (n m : ℕ) (spot : Spot) → n ≤ m → IsSpotIn ArrayList n spot → IsSpotIn ArrayList m spot
still_spot n m Own h is = tt
still_spot n m (Before i) h is = (is.0, (let k : i ≤ m = omega (arith, is.1) in k))
still_spot n m (Instead i) h is = (is.0, (let k : i < m = omega (arith, is.1) in k))
still_spot n m Swapped h is = absurd (cc)
still_spot n m (InKey i) h is = absurd is

pub counted_rows : (spot : Spot) (old now : List Elem) (added : List Item) → IsSpotIn ArrayList (length old) spot → IsFree spot → items now ≡ placed_all ArrayList (items old) (coming spot added) → length now ≡ length old + length added
counted_rows spot old now added is free e =
    let spot_is : IsSpotIn ArrayList (length (items old)) spot = subst (λ n. IsSpotIn ArrayList n spot) (sym (length-map old One)) is in
    let s = more_rows (index_in spot (length (items old))) (items old) (placed_all ArrayList (items old) (coming spot added)) (length added) (stands spot (items old) added spot_is free) in
    omega (arith, s, ap length e, length-map now One, length-map old One)

pub placed_counted : (spot : Spot) (old : List Elem) (added : List Item) → IsSpotIn ArrayList (length old) spot → IsFree spot → length (placed_all ArrayList (items old) (coming spot added)) ≡ length old + length added
placed_counted spot old added is free =
    let spot_is : IsSpotIn ArrayList (length (items old)) spot = subst (λ n. IsSpotIn ArrayList n spot) (sym (length-map old One)) is in
    more_rows (index_in spot (length (items old))) (items old) (placed_all ArrayList (items old) (coming spot added)) (length added) (stands spot (items old) added spot_is free) ∙ ap (λ n. n + length added) (length-map old One)

-- the rows that came to a list are taken back
pub list_back : (spot : Spot) (old now new : List Elem) (added : List Item) (from to : ℕ) → IsSpotIn ArrayList (length old) spot → IsFree spot → items now ≡ placed_all ArrayList (items old) (coming spot added)
    → from ≡ index_in spot (length old) → to ≡ from + length added → new ≡ remove_range now from to → items new ≡ items old
list_back spot old now new added from to is free e from_is to_is new_is =
    let spot_is : IsSpotIn ArrayList (length (items old)) spot = subst (λ n. IsSpotIn ArrayList n spot) (sym (length-map old One)) is in
    let from_items : from ≡ index_in spot (length (items old)) = from_is ∙ ap (index_in spot) (sym (length-map old One)) in
    let s : Stands from (items old) (items now) (length added) = subst (λ (rows : List Item). Stands from (items old) rows (length added)) (sym e) (subst (λ i. Stands i (items old) (placed_all ArrayList (items old) (coming spot added)) (length added)) (sym from_items) (stands spot (items old) added spot_is free)) in
    let within : from ≤ length (items old) = omega (arith, index_within spot (length (items old)) spot_is, from_items) in
    ap items new_is ∙ map-run One now from to ∙ taken_back from to (items old) (items now) (length added) within s to_is

pub fits_at : (rows : List Item) (i : ℕ) (row : Item) → AreRowsOf ArrayList rows → i < length rows → row ≡ get_or rows i row → IsRowOf ArrayList row
fits_at [] i row fits h e = absurd (omega arith)
fits_at (first ∷ rows) zero row fits h e = subst (IsRowOf ArrayList) (sym e) fits.0
fits_at (first ∷ rows) (suc i) row fits h e = fits_at rows i row fits.1 (let k : suc i < suc (length rows) = h in omega (arith, k)) e

-- ---- items that go

pub items_kept : (passes : Item → Bool) (old mid now : List Elem) (kept size : ℕ) → take kept mid ≡ filter (λ x. not (passes (One x))) old → size ≡ length mid → now ≡ remove_range mid kept size
    → items now ≡ filter (λ row. not (passes row)) (items old)
items_kept passes old mid now kept size front long is =
    ap items (is ∙ (λ j. front j ++ drop_all size mid (omega arith) j) ∙ append-nil (filter (λ x. not (passes (One x))) old)) ∙ sym (filter-map (λ row. not (passes row)) One old)

pub read_at : {X : Type 0} (xs : List X) (i : ℕ) (x : X) → slice_get xs i ≡ Some x → x ≡ get_or xs i x
read_at [] i x e = absurd (cc)
read_at (y ∷ xs) zero x e = cc
read_at (y ∷ xs) (suc i) x e = read_at xs i x e

pub past_end : {X : Type 0} (xs : List X) (i : ℕ) → slice_get xs i ≡ None → length xs ≤ i
past_end [] i e = omega arith
past_end (y ∷ xs) zero e = absurd (cc)
past_end (y ∷ xs) (suc i) e = let h = past_end xs i e in omega (arith, h)
