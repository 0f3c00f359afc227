-- No two cells of a table share row and column, nor two of a row its column, nor two of a column its row.
use Rattle.std.proofs.Common.{◌≡◌, Bool, true, false, cond, ◌&&◌, ◌||◌, List, [], ◌∷◌, refl, ap, sym, ◌∙◌, subst, Decides}
use Rattle.std.specs.List.{IsDistinct, AllByRecursion}
use Rattle.std.specs.Map.{keys_of}
use Rattle.std.proofs.lemmas.List.{length-map}
use Rattle.elem.specs.declared.elements.Elem.{Elem}
use Rattle.elem.specs.Elements.{same}
use Rattle.elem.specs.ElementLaws.{same-Decides, same_equiv}
use Rattle.elem.specs.Keyed.{HasDistinctKeys}
use Rattle.elem.specs.Orders.{natural_before}
use Rattle.elem.specs.OrderLaws.{natural_before_strict}
use Rattle.plain_base.specs.Sorted.{ComesFirst}
use Rattle.plain_base.specs.TwoKeys.{both_before, by_both, IsInBothOrder}
use Rattle.plain_base.proofs.SortedCuts.{apart_after}
use Rattle.table_base.specs.Cells.{Cell, row, turned, transposed, by_spot, is_spot, spot_of, HasDistinctCells}
use Rattle.vocabulary.specs.declared.items.Side.{Side}
use Rattle.vocabulary.specs.declared.items.Side.TheVariants.{First, Second}
use Rattle.cell_rows.specs.CellRows.{items, item_of}
use Rattle.cell_rows.specs.CellSpots.{cell_spot, shares_spot, spots_of_cells, HaveOwnSpots, SpotsTell}
use Rattle.view_laws.specs.Spots.{same_spot}
use Rattle.vocabulary.specs.declared.items.Item.{Item}
use Rattle.cell_rows.specs.Threads.{along}

-- none of those cells has the row and the column of x
abbrev pub IsAlone : Cell → List Cell → Type 0
IsAlone x cells = AllByRecursion (λ y. shares_spot (item_of x) y ≡ false) (items cells)

-- ---- in a linked table

alone_in_row : (x : Cell) (cells : List Cell) → AllByRecursion (λ c. same x.1.0 c ≡ false) (keys_of (row x.0 cells)) → IsAlone x cells
alone_in_row x [] h = tt
alone_in_row x (y ∷ cells) h = let both = by (same x.0 y.0) h in (both.0, alone_in_row x cells both.1)
  where
    by : (b : Bool) → AllByRecursion (λ c. same x.1.0 c ≡ false) (keys_of (cond b (y.1 ∷ row x.0 cells) (row x.0 cells)))
        → ((b && same x.1.0 y.1.0) ≡ false) × AllByRecursion (λ c. same x.1.0 c ≡ false) (keys_of (row x.0 cells))
    by true a = (a.0, a.1)
    by false a = (refl, a)

tail_distinct : (x : Cell) (cells : List Cell) (r : Elem) (b : Bool) → HasDistinctKeys (cond b (x.1 ∷ row r cells) (row r cells)) → HasDistinctKeys (row r cells)
unfolding IsDistinct
tail_distinct x cells r true d = d.1
tail_distinct x cells r false d = d

pub apart_linked : (cells : List Cell) → HasDistinctCells cells → HaveOwnSpots (items cells)
unfolding IsDistinct
apart_linked [] d = tt
apart_linked (x ∷ cells) d =
    let own : HasDistinctKeys (x.1 ∷ row x.0 cells) = subst (λ b. HasDistinctKeys (cond b (x.1 ∷ row x.0 cells) (row x.0 cells))) (same_equiv.refl x.0) (d x.0) in
    (alone_in_row x cells own.0, apart_linked cells (λ r. tail_distinct x cells r (same r x.0) (d r)))

-- ---- in a sorted table

pub not_shared : (p q : Elem × Elem) → both_before p q ≡ true → (same p.0 q.0 && same p.1 q.1) ≡ false
not_shared p q h = by (same p.0 q.0) refl h
  where
    by : (b : Bool) → same p.0 q.0 ≡ b → (natural_before p.0 q.0 || (b && natural_before p.1 q.1)) ≡ true → (b && same p.1 q.1) ≡ false
    by true e f =
        let none : natural_before p.0 q.0 ≡ false = ap (natural_before p.0) (sym ((same-Decides p.0 q.0).0 e)) ∙ natural_before_strict.irreflexive p.0 in
        apart_after natural_before_strict p.1 q.1 (ap (λ b. b || natural_before p.1 q.1) (sym none) ∙ f)
    by false e f = refl

pub alone_first : (x : Cell) (cells : List Cell) → ComesFirst both_before (spot_of x) (by_both cells) → IsAlone x cells
alone_first x [] f = tt
alone_first x (y ∷ cells) f = (not_shared (spot_of x) (spot_of y) f.0, alone_first x cells f.1)

pub apart_sorted : (cells : List Cell) → IsInBothOrder cells → HaveOwnSpots (items cells)
unfolding IsDistinct
apart_sorted [] s = tt
apart_sorted (x ∷ cells) s = (alone_first x cells s.0, apart_sorted cells s.1)

-- ---- of a row, and of a column

own_column : (k : Elem) (x : Cell) (cells : List Cell) → same k x.0 ≡ true → IsAlone x cells → AllByRecursion (λ c. same x.1.0 c ≡ false) (keys_of (row k cells))
own_column k x [] e a = tt
own_column k x (y ∷ cells) e a = by (same k y.0) refl a.0 (own_column k x cells e a.1)
  where
    by : (b : Bool) → same k y.0 ≡ b → (same x.0 y.0 && same x.1.0 y.1.0) ≡ false → AllByRecursion (λ c. same x.1.0 c ≡ false) (keys_of (row k cells))
        → AllByRecursion (λ c. same x.1.0 c ≡ false) (keys_of (cond b (y.1 ∷ row k cells) (row k cells)))
    by true f h rest =
        let equal : same x.0 y.0 ≡ true = (same-Decides x.0 y.0).1 (sym ((same-Decides k x.0).0 e) ∙ (same-Decides k y.0).0 f) in
        (ap (λ b. b && same x.1.0 y.1.0) (sym equal) ∙ h, rest)
    by false f h rest = rest

row_distinct : (k : Elem) (cells : List Cell) → HaveOwnSpots (items cells) → HasDistinctKeys (row k cells)
unfolding IsDistinct
row_distinct k [] d = tt
row_distinct k (x ∷ cells) d = by (same k x.0) refl (row_distinct k cells d.1)
  where
    by : (b : Bool) → same k x.0 ≡ b → HasDistinctKeys (row k cells) → HasDistinctKeys (cond b (x.1 ∷ row k cells) (row k cells))
    by true e rest = (own_column k x cells e d.0, rest)
    by false e rest = rest

and-swap : (a b : Bool) → (a && b) ≡ (b && a)
and-swap true true = refl
and-swap true false = refl
and-swap false true = refl
and-swap false false = refl

alone_turned : (x : Cell) (cells : List Cell) → IsAlone x cells → IsAlone (turned x) (transposed cells)
alone_turned x [] a = tt
alone_turned x (y ∷ cells) a = (and-swap (same x.1.0 y.1.0) (same x.0 y.0) ∙ a.0, alone_turned x cells a.1)

apart_turned : (cells : List Cell) → HaveOwnSpots (items cells) → HaveOwnSpots (items (transposed cells))
unfolding IsDistinct
apart_turned [] d = tt
apart_turned (x ∷ cells) d = (alone_turned x cells d.0, apart_turned cells d.1)

pub line_distinct : (side : Side) (k : Elem) (cells : List Cell) → HaveOwnSpots (items cells) → HasDistinctKeys (along side k cells)
line_distinct First k cells d = row_distinct k cells d
line_distinct Second k cells d = row_distinct k (transposed cells) (apart_turned cells d)

-- ---- among all

-- whether two spots are the same
abbrev pub same_parts : Elem × Elem → Elem × Elem → Bool
same_parts p q = is_spot p.0 p.1 q

pub same_parts-Decides : (p q : Elem × Elem) → Decides (same_parts p q) (p ≡ q)
same_parts-Decides p q = (λ h. by (same p.0 q.0) refl h, λ e. (λ i. (same-Decides p.0 q.0).1 (ap (λ (s : Elem × Elem). s.0) e) i && (same-Decides p.1 q.1).1 (ap (λ (s : Elem × Elem). s.1) e) i))
  where
    by : (b : Bool) → same p.0 q.0 ≡ b → (b && same p.1 q.1) ≡ true → p ≡ q
    by true e h = λ i. ((same-Decides p.0 q.0).0 e i, (same-Decides p.1 q.1).0 h i)
    by false e h = absurd (cc)

alone_spot : (x : Cell) (cells : List Cell) → IsAlone x cells → AllByRecursion (λ s. same_parts (spot_of x) s ≡ false) (keys_of (by_spot cells))
alone_spot x [] a = tt
alone_spot x (y ∷ cells) a = (a.0, alone_spot x cells a.1)

pub spots_distinct : (cells : List Cell) → HaveOwnSpots (items cells) → IsDistinct same_parts (keys_of (by_spot cells))
unfolding IsDistinct
spots_distinct [] d = tt
spots_distinct (x ∷ cells) d = (alone_spot x cells d.0, spots_distinct cells d.1)

-- ---- the law of spots

spots_apart : (rows : List Item) → HaveOwnSpots rows → IsDistinct same_spot (spots_of_cells rows)
unfolding IsDistinct
spots_apart [] d = tt
spots_apart (row ∷ rows) d = (other_spots row rows d.0, spots_apart rows d.1)
  where
    other_spots : (a : Item) (xs : List Item) → AllByRecursion (λ y. shares_spot a y ≡ false) xs → AllByRecursion (λ s. same_spot (cell_spot a) s ≡ false) (spots_of_cells xs)
    other_spots a [] h = tt
    other_spots a (x ∷ xs) h = (h.0, other_spots a xs h.1)

pub spots_tell : SpotsTell
spots_tell rows d = record { as_many = length-map rows cell_spot; apart = spots_apart rows d }
