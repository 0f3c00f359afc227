-- The spots of a base, where its rows keep their keys and their number, and where one of them goes.
use Rattle.std.proofs.Common.{◌≡◌, ℕ, zero, suc, ◌+◌, ◌-◌, ◌<◌, ◌≤◌, Bool, true, false, cond, List, [], ◌∷◌, ◌++◌, length, map, take, drop, refl, ap, sym, ◌∙◌, arith}
use Rattle.std.specs.Prelude.{Some, nat_lt, slice_get}
use Rattle.std.specs.List.{remove}
use Rattle.std.proofs.lemmas.Bool.Decides.{nat_tests}
use Rattle.std.proofs.lemmas.List.{drop-map, map-append, map-id, take-map}
use Rattle.std.proofs.lemmas.Option.{same_Some}
use Rattle.std.proofs.lemmas.Simd.{map-map}
use Rattle.base_rows.specs.BaseSpots.{key_spot, numbered, spots_of}
use Rattle.cursor_seat.specs.Dropped.{spot_after}
use Rattle.elem.specs.declared.elements.Elem.{Elem}
use Rattle.view_laws.specs.declared.places.RowSpot.{RowSpot}
use Rattle.view_laws.specs.declared.places.RowSpot.TheVariants.{Index, Key}
use Rattle.view_laws.specs.RowPlaces.{spots_taken}
use Rattle.vocabulary.specs.declared.items.Item.{Item}
use Rattle.vocabulary.specs.declared.kinds.Kind.{Kind}
use Rattle.vocabulary.specs.Items.{key_of}
use Rattle.vocabulary.specs.Kinds.{shape_of_kind}
use Rattle.vocabulary.specs.Shapes.{is_keyed}
use Rattle.base_rows.proofs.SpotsTold.{at_index, at_key}

-- ---- as many rows with the same keys

same_count : (n : ℕ) (xs ys : List Item) → length xs ≡ length ys → numbered n xs ≡ numbered n ys
same_count n [] [] many = refl
same_count n [] (y ∷ ys) many = absurd (omega arith)
same_count n (x ∷ xs) [] many = absurd (omega arith)
same_count n (x ∷ xs) (y ∷ ys) many = ap (λ ss. Index n ∷ ss) (same_count (n + 1) xs ys (omega arith))

pub same_spots : (kind : Kind) (rows after : List Item) → length after ≡ length rows → (is_keyed (shape_of_kind kind) ≡ true → map key_of after ≡ map key_of rows) → spots_of kind after ≡ spots_of kind rows
same_spots kind rows after many keys = by (is_keyed (shape_of_kind kind)) keys
  where
    by : (b : Bool) → (b ≡ true → map key_of after ≡ map key_of rows) → cond b (map key_spot after) (numbered 0 after) ≡ cond b (map key_spot rows) (numbered 0 rows)
    by true k = sym (map-map Key key_of after) ∙ ap (map Key) (k refl) ∙ map-map Key key_of rows
    by false k = same_count 0 after rows many

first_key : (a b : Item) (rows after : List Item) → map key_of (b ∷ after) ≡ map key_of (a ∷ rows) → key_of b ≡ key_of a
first_key a b rows after e = same_Some (key_of b) (key_of a) (ap (λ (ks : List Elem). slice_get ks 0) e)

-- a test that tells no rows of one key apart takes the spots that it took
pub same_taken : (test : Item → Bool) (keyed : Bool) → ((a b : Item) → (keyed ≡ true → key_of a ≡ key_of b) → test a ≡ test b) → (spots : List RowSpot) (rows after : List Item) → length after ≡ length rows
    → (keyed ≡ true → map key_of after ≡ map key_of rows) → spots_taken test spots after ≡ spots_taken test spots rows
same_taken test keyed alike [] rows after many keys = refl
same_taken test keyed alike (s ∷ spots) [] [] many keys = refl
same_taken test keyed alike (s ∷ spots) [] (b ∷ after) many keys = absurd (omega arith)
same_taken test keyed alike (s ∷ spots) (a ∷ rows) [] many keys = absurd (omega arith)
same_taken test keyed alike (s ∷ spots) (a ∷ rows) (b ∷ after) many keys =
    let first : test b ≡ test a = alike b a (λ k. first_key a b rows after (keys k)) in
    let rest : spots_taken test spots after ≡ spots_taken test spots rows = same_taken test keyed alike spots rows after (omega arith) (λ k. ap (λ (ks : List Elem). drop 1 ks) (keys k)) in
    λ i. cond (first i) (s ∷ rest i) (rest i)

-- ---- one row less

is_behind : (g n : ℕ) → g ≤ n → nat_lt g (n + 1) ≡ true
is_behind g n le = grind (arith, nat_tests)

is_before : (g n : ℕ) → n < g → nat_lt g n ≡ false
is_before g n lt = grind (arith, nat_tests)

moves_up : (g n : ℕ) (rows : List Item) → g ≤ n → map (spot_after (Index g)) (numbered (n + 1) rows) ≡ numbered n rows
moves_up g n [] le = refl
moves_up g n (row ∷ rows) le =
    let here : n + 1 - 1 ≡ n = omega arith in
    (λ i. cond (is_behind g n le i) (Index (n + 1 - 1)) (Index (n + 1)) ∷ map (spot_after (Index g)) (numbered (n + 1 + 1) rows)) ∙ (λ i. Index (here i) ∷ moves_up g (n + 1) rows (omega arith) i)

numbers_without : (rows : List Item) (m i n : ℕ) → n ≡ m + i → i < length rows → numbered m (remove rows i) ≡ map (spot_after (Index n)) (remove (numbered m rows) i)
numbers_without [] m i n e lt = absurd (omega arith)
numbers_without (row ∷ rows) m zero n e lt = sym (moves_up n m rows (omega arith))
numbers_without (row ∷ rows) m (suc i) n e lt =
    let stays : nat_lt n m ≡ false = is_before n m (omega arith) in
    let rest = numbers_without rows (m + 1) i n (omega arith) (omega arith) in
    λ j. cond (sym stays j) (Index (m - 1)) (Index m) ∷ rest j

map-remove : {X Y : Type 0} (f : X → Y) (xs : List X) (n : ℕ) → map f (remove xs n) ≡ remove (map f xs) n
map-remove f xs n = map-append f (take n xs) (drop (suc n) xs) ∙ (λ i. sym (take-map f n xs) i ++ sym (drop-map f (suc n) xs) i)

-- the spots of the others, where they stand now
pub spots_without : (kind : Kind) (rows : List Item) (n : ℕ) (s : RowSpot) → slice_get (spots_of kind rows) n ≡ Some s → spots_of kind (remove rows n) ≡ map (spot_after s) (remove (spots_of kind rows) n)
spots_without kind rows n s = by (is_keyed (shape_of_kind kind))
  where
    by : (b : Bool) → slice_get (cond b (map key_spot rows) (numbered 0 rows)) n ≡ Some s
        → cond b (map key_spot (remove rows n)) (numbered 0 (remove rows n)) ≡ map (spot_after s) (remove (cond b (map key_spot rows) (numbered 0 rows)) n)
    by true at =
        let key = at_key rows n s at in
        map-remove key_spot rows n ∙ sym (map-id (remove (map key_spot rows) n)) ∙ ap (λ (x : RowSpot). map (spot_after x) (remove (map key_spot rows) n)) (sym key.1)
    by false at =
        let number = at_index rows 0 n s at in
        numbers_without rows 0 n (0 + n) refl number.1 ∙ ap (λ (x : RowSpot). map (spot_after x) (remove (numbered 0 rows) n)) (sym number.0)
