-- What goes from a table: at a spot, along a lane, and in several rows or columns.
use Rattle.std.proofs.Common.{◌≡◌, ℕ, zero, suc, ◌+◌, ◌≤◌, Bool, true, false, cond, not, ◌&&◌, ◌||◌, List, [], ◌∷◌, ◌++◌, take, drop, length, Option, Some, None, refl, sym, ap, ◌∙◌, subst, arith}
use Rattle.std.specs.Prelude.{filter, slice_get, option_map}
use Rattle.std.specs.List.{IsDistinct, AllByRecursion, list_any, remove}
use Rattle.std.proofs.lemmas.List.{length-map, take_all}
use Rattle.std.proofs.lemmas.Option.{same_Some, slice_get-map}
use Rattle.elem.specs.declared.elements.Elem.{Elem}
use Rattle.elem.specs.Elements.{same}
use Rattle.elem.specs.ElementLaws.{same-Decides, same_equiv}
use Rattle.table_base.specs.Cells.{Cell, is_spot, spot_of, value_in, without_cell}
use Rattle.vocabulary.specs.declared.items.Item.{Item}
use Rattle.vocabulary.specs.declared.items.Item.TheVariants as item
use Rattle.vocabulary.specs.Items.{key_of, second_of}
use Rattle.machine.specs.Edits.{without_rows}
use Rattle.view_laws.specs.declared.lanes.Lane.{Lane}
use Rattle.view_laws.specs.declared.places.RowSpot.{RowSpot}
use Rattle.view_laws.specs.declared.places.RowSpot.TheVariants as spot
use Rattle.view_laws.specs.Following.{Follows, IsFrom}
use Rattle.view_laws.specs.Lanes.{meets, takes}
use Rattle.view_laws.specs.Spots.{same_spot}
use Rattle.view_laws.proofs.ListLemmas.{all-append, all-as, all-drop, all-filter, and-false, and-true, any-and, any-append, any-filter, any-map, both_true, filter-all, filter-filter, filter-map}
use Rattle.cell_rows.specs.CellRows.{items, item_of}
use Rattle.cell_rows.specs.CellSpots.{cell_line, cell_spot, shares_spot, spots_of_cells, HaveOwnSpots, IsRowAt}
use Rattle.cell_rows.specs.Reaches.{but}
use Rattle.cell_rows.proofs.CellLines.{taken_spots}
use Rattle.cell_rows.proofs.OneGone.{without_numbers}
use Rattle.cell_rows.proofs.Placed.{alone_none, cut_at, its_spot, kept_without, none_at, IsCut, NoneAt}

-- ---- lists

-- parts by tests that tell the same of each element are the same
pub filter-same : {X : Type 0} (p q : X → Bool) (xs : List X) → AllByRecursion (λ x. p x ≡ q x) xs → filter p xs ≡ filter q xs
filter-same p q [] a = refl
filter-same p q (x ∷ xs) a = λ i. cond (a.0 i) (x ∷ filter-same p q xs a.1 i) (filter-same p q xs a.1 i)

all-both : {X : Type 0} (P Q R : X → Type 0) → ((x : X) → P x → Q x → R x) → (xs : List X) → AllByRecursion P xs → AllByRecursion Q xs → AllByRecursion R xs
all-both P Q R h [] a b = tt
all-both P Q R h (x ∷ xs) a b = (h x a.0 b.0, all-both P Q R h xs a.1 b.1)

all-of : {X : Type 0} (P : X → Type 0) → ((x : X) → P x) → (xs : List X) → AllByRecursion P xs
all-of P h [] = tt
all-of P h (x ∷ xs) = (h x, all-of P h xs)

pub or-false : (b : Bool) → (b || false) ≡ b
or-false true = refl
or-false false = refl

or-true : (a : Bool) {b : Bool} → b ≡ true → (a || b) ≡ true
or-true true e = refl
or-true false e = e

and-swap : (a b : Bool) → (a && b) ≡ (b && a)
and-swap true true = refl
and-swap true false = refl
and-swap false true = refl
and-swap false false = refl

get_drop : {X : Type 0} (i : ℕ) (xs : List X) → slice_get (drop i xs) 0 ≡ slice_get xs i
get_drop zero xs = refl
get_drop (suc i) [] = refl
get_drop (suc i) (x ∷ xs) = get_drop i xs

get_behind : {X : Type 0} (i : ℕ) (xs : List X) → slice_get (drop i xs) 1 ≡ slice_get xs (i + 1)
get_behind zero xs = refl
get_behind (suc i) [] = refl
get_behind (suc i) (x ∷ xs) = get_behind i xs ∙ ap (slice_get (x ∷ xs)) (let e : suc (i + 1) ≡ suc i + 1 = omega arith in e)

pub take_end : {X : Type 0} (i : ℕ) (xs : List X) → slice_get xs i ≡ None → take i xs ≡ xs
take_end zero [] e = refl
take_end zero (x ∷ xs) e = absurd (cc)
take_end (suc i) [] e = refl
take_end (suc i) (x ∷ xs) e = ap (λ l. x ∷ l) (take_end i xs e)

pub take_next : {X : Type 0} (i : ℕ) (xs : List X) (x : X) → slice_get xs i ≡ Some x → take (suc i) xs ≡ take i xs ++ x ∷ []
take_next i [] x e = absurd (cc)
take_next zero (y ∷ xs) x e = ap (λ z. z ∷ []) (same_Some y x e)
take_next (suc i) (y ∷ xs) x e = ap (λ l. y ∷ l) (take_next i xs x e)

-- ---- rows that go one after another

both_gone : (p q t : Bool) → (not (p && t) && not (q && t)) ≡ not ((p || q) && t)
both_gone true q true = refl
both_gone true true false = refl
both_gone true false false = refl
both_gone false q t = refl

pub gone_more : (passes p q r : Item → Bool) (old now new : List Item) → ((x : Item) → r x ≡ (p x || q x)) → now ≡ but passes p old → new ≡ but passes q now → new ≡ but passes r old
gone_more passes p q r old now new is e f =
    f ∙ ap (but passes q) e ∙ filter-filter (λ x. not (q x && passes x)) (λ x. not (p x && passes x)) old
    ∙ ap (λ (s : Item → Bool). filter s old) (λ i x. (both_gone (p x) (q x) (passes x) ∙ ap (λ b. not (b && passes x)) (sym (is x))) i)

pub none_gone : (passes : Item → Bool) (rows : List Item) → rows ≡ but passes (λ row. false) rows
none_gone passes [] = refl
none_gone passes (row ∷ rows) = ap (λ l. row ∷ l) (none_gone passes rows)

implied : (p t : Bool) → (t ≡ true → p ≡ true) → (p && t) ≡ t
implied p true h = ap (λ b. b && true) (h refl)
implied true false h = refl
implied false false h = refl

-- where each row that passes is within reach, all go that pass
pub all_gone : (passes within : Item → Bool) (old now : List Item) → AllByRecursion (λ x. passes x ≡ true → within x ≡ true) old → now ≡ but passes within old → now ≡ filter (λ x. not (passes x)) old
all_gone passes within old now covers e =
    e ∙ filter-same (λ x. not (within x && passes x)) (λ x. not (passes x)) old (all-as (λ x. passes x ≡ true → within x ≡ true) (λ x. not (within x && passes x) ≡ not (passes x)) (λ x h. ap not (implied (within x) (passes x) h)) old covers)

pub none_stay : (passes : Item → Bool) (rows : List Item) → ((row : Item) → passes row ≡ true) → [] ≡ filter (λ row. not (passes row)) rows
none_stay passes [] all = refl
none_stay passes (row ∷ rows) all = rw (all row) (none_stay passes rows all)

-- ---- one cell

module _ (r c : Elem) (passes : Item → Bool) where
  -- the rows without that of a row and a column, where it passes
  abbrev pub at_spot : Item → Bool
  at_spot row = same_spot (spot.Cell r c) (cell_spot row)

  pub no_cell_gone : (cells : List Cell) → value_in r c cells ≡ None → items cells ≡ but passes at_spot (items cells)
  no_cell_gone cells e = by cells (none_at r c cells e)
    where
      by : (xs : List Cell) → NoneAt r c xs → items xs ≡ but passes at_spot (items xs)
      by [] n = refl
      by (x ∷ xs) n = ap (λ (l : List Item). item_of x ∷ l) (by xs n.1) ∙ sym (λ i. cond (not (n.0 i && passes (item_of x))) (item_of x ∷ but passes at_spot (items xs)) (but passes at_spot (items xs)))

  -- each cell there passes as that of the value does
  abbrev Tells : Bool → Cell → Type 0
  Tells t x = is_spot r c (spot_of x) ≡ true → passes (item_of x) ≡ t

  other_tells : (t : Bool) (x : Cell) → is_spot r c (spot_of x) ≡ false → Tells t x
  other_tells t x n h = absurd (let e : true ≡ false = sym h ∙ n in cc)

  all_tell : (t : Bool) (w : Elem) (cells : List Cell) → IsCut r c w cells → passes (item.Cell r c w) ≡ t → AllByRecursion (Tells t) cells
  all_tell t w cells k p =
      let others = all-as (λ (x : Cell). is_spot r c (spot_of x) ≡ false) (Tells t) (other_tells t) in
      subst (AllByRecursion (Tells t)) (sym k.cut) (all-append (Tells t) k.front ((r, (c, w)) ∷ k.behind) (others k.front k.none_front) ((λ h. p), others k.behind k.none_behind))

  gone_then : (x : Cell) → Tells true x → not (is_spot r c (spot_of x)) ≡ not (is_spot r c (spot_of x) && passes (item_of x))
  gone_then x h = ap not (sym (and-swap (is_spot r c (spot_of x)) (passes (item_of x)) ∙ implied (passes (item_of x)) (is_spot r c (spot_of x)) h))

  kept_then : (x : Cell) → Tells false x → true ≡ not (is_spot r c (spot_of x) && passes (item_of x))
  kept_then x h = by (is_spot r c (spot_of x)) h
    where
      by : (b : Bool) → (b ≡ true → passes (item_of x) ≡ false) → true ≡ not (b && passes (item_of x))
      by true g = ap not (sym (g refl))
      by false g = refl

  pub cell_gone : (w : Elem) (cells : List Cell) → HaveOwnSpots (items cells) → value_in r c cells ≡ Some w → passes (item.Cell r c w) ≡ true → items (without_cell r c cells) ≡ but passes at_spot (items cells)
  cell_gone w cells d e p =
      ap items (filter-same (λ (x : Cell). not (is_spot r c (spot_of x))) (λ (x : Cell). not (is_spot r c (spot_of x) && passes (item_of x))) cells
      (all-as (Tells true) (λ (x : Cell). not (is_spot r c (spot_of x)) ≡ not (is_spot r c (spot_of x) && passes (item_of x))) gone_then cells (all_tell true w cells (cut_at r c w cells d e) p)))
      ∙ sym (filter-map (λ row. not (at_spot row && passes row)) item_of cells)

  pub cell_kept : (w : Elem) (cells : List Cell) → HaveOwnSpots (items cells) → value_in r c cells ≡ Some w → passes (item.Cell r c w) ≡ false → items cells ≡ but passes at_spot (items cells)
  cell_kept w cells d e p =
      ap items (sym (filter-all cells) ∙ filter-same (λ (x : Cell). true) (λ (x : Cell). not (is_spot r c (spot_of x) && passes (item_of x))) cells
      (all-as (Tells false) (λ (x : Cell). true ≡ not (is_spot r c (spot_of x) && passes (item_of x))) kept_then cells (all_tell false w cells (cut_at r c w cells d e) p)))
      ∙ sym (filter-map (λ row. not (at_spot row && passes row)) item_of cells)

-- no cell stands at a spot that is none of a cell
pub no_spot_gone : (passes : Item → Bool) (at : RowSpot) (rows : List Item) → ((r c : Elem) → at ≡ spot.Cell r c → ⊥) → rows ≡ but passes (λ row. same_spot at (cell_spot row)) rows
no_spot_gone passes (spot.Cell r c) rows other = absurd (other r c refl)
no_spot_gone passes (spot.Index i) rows other = none_gone passes rows
no_spot_gone passes (spot.Key k) rows other = none_gone passes rows
no_spot_gone passes (spot.Pair i) rows other = none_gone passes rows
no_spot_gone passes (spot.Nth x i) rows other = none_gone passes rows

-- ---- one cell by its number

apart_at : (x : Item) (rows : List Item) (n : ℕ) (s : RowSpot) → AllByRecursion (λ y. shares_spot x y ≡ false) rows → slice_get (spots_of_cells rows) n ≡ Some s → same_spot (cell_spot x) s ≡ false
apart_at x [] n s a e = absurd (cc)
apart_at x (y ∷ rows) zero s a e = ap (same_spot (cell_spot x)) (sym (same_Some (cell_spot y) s e)) ∙ a.0
apart_at x (y ∷ rows) (suc n) s a e = apart_at x rows n s a.1 e

number_gone : (r c : Elem) (cells : List Cell) (n : ℕ) → HaveOwnSpots (items cells) → slice_get (spots_of_cells (items cells)) n ≡ Some (spot.Cell r c) → items (without_cell r c cells) ≡ remove (items cells) n
unfolding IsDistinct
number_gone r c [] n d e = absurd (cc)
number_gone r c (x ∷ cells) zero d e =
    let here : (same r x.0 && same c x.1.0) ≡ true = ap (λ s. same_spot s (cell_spot (item_of x))) (sym (same_Some (cell_spot (item_of x)) (spot.Cell r c) e)) ∙ its_spot x.0 x.1.0 in
    let parts = both_true (same r x.0) (same c x.1.0) here in
    let rest : without_cell r c cells ≡ cells = kept_without r c cells (alone_none r c x cells parts.0 parts.1 d.0) in
    (λ i. items (cond (not (here i)) (x ∷ rest i) (rest i)))
number_gone r c (x ∷ cells) (suc n) d e =
    let other : (same r x.0 && same c x.1.0) ≡ false = (λ i. same_equiv.symm r x.0 i && same_equiv.symm c x.1.0 i) ∙ apart_at (item_of x) (items cells) n (spot.Cell r c) d.0 e in
    ap (λ b. items (cond (not b) (x ∷ without_cell r c cells) (without_cell r c cells))) other ∙ ap (λ (rest : List Item). item_of x ∷ rest) (number_gone r c cells n d.1 e)

pub row_gone : (r c : Elem) (cells : List Cell) (s : RowSpot) (numbers : List ℕ) → HaveOwnSpots (items cells) → s ≡ spot.Cell r c → IsRowAt (spots_of_cells (items cells)) s numbers
    → items (without_cell r c cells) ≡ without_rows numbers 0 (items cells)
row_gone r c cells s numbers d is at = number_gone r c cells at.number d (at.at ∙ ap Some is) ∙ without_numbers (items cells) at.number numbers at.only

-- a spot of a cell is one
pub is_cell_spot : (rows : List Item) (s : RowSpot) → IsFrom (spots_of_cells rows) (Some s) → ((r c : Elem) → s ≡ spot.Cell r c → ⊥) → ⊥
is_cell_spot rows s h other = by rows h.0 h.1
  where
    by : (rs : List Item) (i : ℕ) → slice_get (spots_of_cells rs) i ≡ Some s → ⊥
    by [] i e = cc
    by (row ∷ rs) zero e = other (key_of row) (second_of row) (sym (same_Some (cell_spot row) s e))
    by (row ∷ rs) (suc i) e = by rs i e

-- ---- along a lane

-- whether a row is at one of some spots
abbrev pub is_among : List RowSpot → Item → Bool
is_among spots row = list_any (λ s. same_spot s (cell_spot row)) spots

-- one spot more
pub among_more : (spots : List RowSpot) (i j : ℕ) (s : RowSpot) (row : Item) → j ≡ suc i → slice_get spots i ≡ Some s → is_among (take j spots) row ≡ (is_among (take i spots) row || same_spot s (cell_spot row))
among_more spots i j s row j_is at =
    ap (λ n. is_among (take n spots) row) j_is ∙ ap (λ l. is_among l row) (take_next i spots s at)
    ∙ any-append (λ s. same_spot s (cell_spot row)) (take i spots) (s ∷ [])
    ∙ ap (λ b. is_among (take i spots) row || b) (or-false (same_spot s (cell_spot row)))

apart_filter : (p : Item → Bool) (rows : List Item) → HaveOwnSpots rows → HaveOwnSpots (filter p rows)
unfolding IsDistinct
apart_filter p [] d = tt
apart_filter p (row ∷ rows) d = by (p row) (apart_filter p rows d.1)
  where
    by : (b : Bool) → HaveOwnSpots (filter p rows) → HaveOwnSpots (cond b (row ∷ filter p rows) (filter p rows))
    by true rest = (all-filter (λ y. shares_spot row y ≡ false) p rows d.0, rest)
    by false rest = rest

-- of rows one after another, none is at a spot of those before it
none_among : (i : ℕ) (rows : List Item) → HaveOwnSpots rows → AllByRecursion (λ row. is_among (take i (spots_of_cells rows)) row ≡ false) (drop i rows)
unfolding IsDistinct
none_among zero rows d = all-of (λ row. false ≡ false) (λ row. refl) rows
none_among (suc i) [] d = tt
none_among (suc i) (row ∷ rows) d =
    all-both (λ x. shares_spot row x ≡ false) (λ x. is_among (take i (spots_of_cells rows)) x ≡ false) (λ x. (shares_spot row x || is_among (take i (spots_of_cells rows)) x) ≡ false)
    (λ x p q. (λ j. p j || q j)) (drop i rows) (all-drop (λ x. shares_spot row x ≡ false) i rows d.0) (none_among i rows d.1)

-- those that are kept go on from a place as all do
kept_on : (keep : Item → Bool) (i : ℕ) (rows : List Item) → AllByRecursion (λ row. keep row ≡ true) (drop i rows) → (j : ℕ) × (drop j (filter keep rows) ≡ drop i rows)
kept_on keep zero rows a = (0, filter-same keep (λ row. true) rows a ∙ filter-all rows)
kept_on keep (suc i) [] a = (0, refl)
kept_on keep (suc i) (row ∷ rows) a = by (keep row) (kept_on keep i rows a)
  where
    by : (b : Bool) → (j : ℕ) × (drop j (filter keep rows) ≡ drop i rows) → (j : ℕ) × (drop j (cond b (row ∷ filter keep rows) (filter keep rows)) ≡ drop i rows)
    by true h = (suc h.0, h.1)
    by false h = h

spot_at : (rows : List Item) (i : ℕ) → slice_get (spots_of_cells rows) i ≡ option_map cell_spot (slice_get (drop i rows) 0)
spot_at rows i = slice_get-map cell_spot rows i ∙ ap (option_map cell_spot) (sym (get_drop i rows))

spot_behind : (rows : List Item) (i : ℕ) → slice_get (spots_of_cells rows) (i + 1) ≡ option_map cell_spot (slice_get (drop i rows) 1)
spot_behind rows i = slice_get-map cell_spot rows (i + 1) ∙ ap (option_map cell_spot) (sym (get_behind i rows))

module _ (lane : Lane) (passes : Item → Bool) (old : List Item) (d : HaveOwnSpots old) where
  abbrev pub lane_spots : List RowSpot
  lane_spots = cell_line old lane false

  abbrev rows_in : List Item
  rows_in = filter (takes lane) old

  spots_in : lane_spots ≡ spots_of_cells rows_in
  spots_in = taken_spots (takes lane) old

  module _ (i : ℕ) (now : List Item) (so_far : now ≡ but passes (is_among (take i lane_spots)) old) where
    abbrev keep : Item → Bool
    keep row = not (is_among (take i (spots_of_cells rows_in)) row && passes row)

    kept_behind : (j : ℕ) × (drop j (filter keep rows_in) ≡ drop i rows_in)
    kept_behind = kept_on keep i rows_in (all-as (λ row. is_among (take i (spots_of_cells rows_in)) row ≡ false) (λ row. keep row ≡ true) (λ row h. ap (λ b. not (b && passes row)) h) (drop i rows_in) (none_among i rows_in (apart_filter (takes lane) old d)))

    -- the line then
    line_now : cell_line now lane false ≡ spots_of_cells (filter keep rows_in)
    line_now =
        taken_spots (takes lane) now
        ∙ ap spots_of_cells
        (ap (filter (takes lane)) (so_far ∙ ap (λ spots. but passes (is_among (take i spots)) old) spots_in)
        ∙ filter-filter (takes lane) keep old
        ∙ ap (λ (p : Item → Bool). filter p old) (λ k row. and-swap (keep row) (takes lane row) k)
        ∙ sym (filter-filter keep (takes lane) old))

    module _ (s : RowSpot) (at : slice_get lane_spots i ≡ Some s) where
      stands : slice_get (cell_line now lane false) kept_behind.0 ≡ Some s
      stands =
          ap (λ spots. slice_get spots kept_behind.0) line_now ∙ spot_at (filter keep rows_in) kept_behind.0
          ∙ ap (λ rows. option_map cell_spot (slice_get rows 0)) kept_behind.1 ∙ sym (spot_at rows_in i) ∙ ap (λ spots. slice_get spots i) (sym spots_in) ∙ at

      pub stands_there : IsFrom (cell_line now lane false) (Some s)
      stands_there = (kept_behind.0, stands)

      pub next_there : (to : Option RowSpot) (j : ℕ) → j ≡ i + 1 → Follows (cell_line now lane false) (Some s) to → slice_get lane_spots j ≡ to
      next_there to j j_is follows =
          ap (λ n. slice_get lane_spots n) j_is
          ∙ ap (λ spots. slice_get spots (i + 1)) spots_in ∙ spot_behind rows_in i ∙ ap (λ rows. option_map cell_spot (slice_get rows 1)) (sym kept_behind.1)
          ∙ sym (spot_behind (filter keep rows_in) kept_behind.0) ∙ ap (λ spots. slice_get spots (kept_behind.0 + 1)) (sym line_now) ∙ follows kept_behind.0 stands

  -- ---- at the end

  shared_takes : (x y : Item) → shares_spot x y ≡ true → takes lane x ≡ takes lane y
  shared_takes x y h =
      let parts = both_true (same (key_of x) (key_of y)) (same (second_of x) (second_of y)) h in
      (λ i. meets lane.first ((same-Decides (key_of x) (key_of y)).0 parts.0 i) && meets lane.second ((same-Decides (second_of x) (second_of y)).0 parts.1 i))

  shares_in_lane : (x y : Item) → (shares_spot y x && takes lane y) ≡ (takes lane x && shares_spot y x)
  shares_in_lane x y = by (shares_spot y x) refl
    where
      by : (b : Bool) → shares_spot y x ≡ b → (b && takes lane y) ≡ (takes lane x && b)
      by true e = shared_takes y x e ∙ sym (and-true (takes lane x))
      by false e = sym (and-false (takes lane x))

  among_lane : (x : Item) → is_among lane_spots x ≡ (takes lane x && list_any (λ y. shares_spot y x) old)
  among_lane x =
      ap (λ spots. is_among spots x) spots_in ∙ any-map (λ s. same_spot s (cell_spot x)) cell_spot rows_in ∙ any-filter (λ y. shares_spot y x) (takes lane) old
      ∙ any-and (takes lane x) (λ y. shares_spot y x) (λ y. shares_spot y x && takes lane y) old (shares_in_lane x)

  each_there : (rows : List Item) → AllByRecursion (λ x. list_any (λ y. shares_spot y x) rows ≡ true) rows
  each_there [] = tt
  each_there (row ∷ rows) = (
    ap (λ b. b || list_any (λ y. shares_spot y row) rows) (its_spot (key_of row) (second_of row)),
    all-as (λ x. list_any (λ y. shares_spot y x) rows ≡ true) (λ x. (shares_spot row x || list_any (λ y. shares_spot y x) rows) ≡ true) (λ x h. or-true (shares_spot row x) h) rows (each_there rows),
  )

  among_all : AllByRecursion (λ x. not (is_among lane_spots x && passes x) ≡ not (takes lane x && passes x)) old
  among_all = all-as (λ x. list_any (λ y. shares_spot y x) old ≡ true) (λ x. not (is_among lane_spots x && passes x) ≡ not (takes lane x && passes x))
      (λ x h. ap (λ b. not (b && passes x)) (among_lane x ∙ ap (λ b. takes lane x && b) h ∙ and-true (takes lane x))) old (each_there old)

  lane_gone : (now : List Item) → now ≡ but passes (is_among lane_spots) old → now ≡ but passes (takes lane) old
  lane_gone now e = e ∙ filter-same (λ x. not (is_among lane_spots x && passes x)) (λ x. not (takes lane x && passes x)) old among_all

  pub gone_at_end : (i : ℕ) (now : List Item) → now ≡ but passes (is_among (take i lane_spots)) old → slice_get lane_spots i ≡ None → now ≡ but passes (takes lane) old
  gone_at_end i now e at = lane_gone now (e ∙ ap (λ spots. but passes (is_among spots) old) (take_end i lane_spots at))

  -- no more than all rows
  kept_fewer : (p : Item → Bool) (rows : List Item) → length (filter p rows) ≤ length rows
  kept_fewer p [] = omega arith
  kept_fewer p (row ∷ rows) = by (p row) (kept_fewer p rows)
    where
      by : (b : Bool) → length (filter p rows) ≤ length rows → length (cond b (row ∷ filter p rows) (filter p rows)) ≤ suc (length rows)
      by true h = omega arith
      by false h = omega arith

  pub gone_of_all : (i : ℕ) (now : List Item) → now ≡ but passes (is_among (take i lane_spots)) old → length old ≤ i → now ≡ but passes (takes lane) old
  gone_of_all i now e end =
      let few : length lane_spots ≤ i = omega (arith, kept_fewer (takes lane) old, ap length spots_in, length-map rows_in cell_spot) in
      lane_gone now (e ∙ ap (λ spots. but passes (is_among spots) old) (take_all i lane_spots few))
