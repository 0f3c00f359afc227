-- The columns of a sorted table, by the tree of its spots turned round.
use Rattle.std.proofs.Common.{◌≡◌, Bool, true, false, not, cond, ◌&&◌, ◌||◌, List, [], ◌∷◌, Option, refl, sym, ap, ◌∙◌, subst}
use Rattle.std.specs.Prelude.{is_some}
use Rattle.std.specs.Map.{keys_of}
use Rattle.elem.specs.declared.elements.Elem.{Elem}
use Rattle.elem.specs.declared.cuts.Cut.{Cut}
use Rattle.elem.specs.declared.cuts.Cut.TheVariants.{Start, Below, Above, End}
use Rattle.elem.specs.Cuts.{cut_upto}
use Rattle.elem.specs.Elements.{same}
use Rattle.elem.specs.ElementLaws.{same-Decides, same_equiv}
use Rattle.elem.specs.Keyed.{value_at, AddsRow}
use Rattle.elem.specs.Orders.{natural_before}
use Rattle.elem.specs.OrderLaws.{natural_before_strict}
use Rattle.elem.specs.Rows.{first_key}
use Rattle.plain_base.specs.Sorted.{ComesFirst, IsInOrder}
use Rattle.plain_base.specs.TwoKeys.{both_before, group, by_both, has_both, IsInBothOrder, without_both, with_both}
use Rattle.plain_base.proofs.Having.{has_added, has_without, has_with}
use Rattle.plain_base.proofs.SameKeys.{same_keys, first_of_keys}
use Rattle.table_base.specs.Cells.{Cell, row, column, with_value}
use Rattle.table_base.specs.TreeCells.{AreTurned}
use Rattle.table_base.proofs.CellLists.{turned_has}

abbrev pub Spots : Type 0
Spots = List (Elem × (Elem × Unit {0}))

-- ---- cuts at the ends
pub upto_end : (c : Cut) → cut_upto natural_before c End ≡ true
upto_end Start = refl
upto_end (Below k) = refl
upto_end (Above k) = refl
upto_end End = refl

pub from_start : (c : Cut) → cut_upto natural_before Start c ≡ true
from_start Start = refl
from_start (Below k) = refl
from_start (Above k) = refl
from_start End = refl

-- ---- a column's cells in order
pub row_is : (r : Elem) (cells : List Cell) → group r cells ≡ row r cells
row_is r [] = refl
row_is r (x ∷ cells) = ap (λ (l : List (Elem × Elem)). cond (same r x.0) (x.1 ∷ l) l) (row_is r cells)

later_row : (r q c : Elem) → (natural_before r q || (same r q && natural_before c c)) ≡ true → natural_before r q ≡ true
later_row r q c h = by (natural_before r q) (same r q) (ap (λ b. natural_before r q || (same r q && b)) (sym (natural_before_strict.irreflexive c)) ∙ h)
  where
    by : (b s : Bool) → (b || (s && false)) ≡ true → b ≡ true
    by true s e = refl
    by false true e = cc
    by false false e = cc

first_in_column : (r c : Elem) (cells : List Cell) → ComesFirst both_before (r, c) (by_both cells) → ComesFirst natural_before r (column c cells)
first_in_column r c [] f = tt
first_in_column r c (x ∷ cells) f = by (same c x.1.0) refl (first_in_column r c cells f.1)
  where
    by : (b : Bool) → same c x.1.0 ≡ b → ComesFirst natural_before r (column c cells) → ComesFirst natural_before r (cond b ((x.0, x.1.1) ∷ column c cells) (column c cells))
    by true e ih =
        let here : (natural_before r x.0 || (same r x.0 && natural_before c c)) ≡ true = ap (λ (q : Elem). natural_before r x.0 || (same r x.0 && natural_before c q)) ((same-Decides c x.1.0).0 e) ∙ f.0 in
        (later_row r x.0 c here, ih)
    by false e ih = ih

pub column_in_order : (c : Elem) (cells : List Cell) → IsInBothOrder cells → IsInOrder natural_before (column c cells)
column_in_order c [] s = tt
column_in_order c (x ∷ cells) s = by (same c x.1.0) refl (column_in_order c cells s.1)
  where
    by : (b : Bool) → same c x.1.0 ≡ b → IsInOrder natural_before (column c cells) → IsInOrder natural_before (cond b ((x.0, x.1.1) ∷ column c cells) (column c cells))
    by true e ih = (subst (λ (q : Elem). ComesFirst natural_before x.0 (column q cells)) (sym ((same-Decides c x.1.0).0 e)) (first_in_column x.0 x.1.0 cells s.0), ih)
    by false e ih = ih

pub row_of : (inside now : List Cell) (r : Elem) → inside ≡ now → group r inside ≡ row r now
row_of inside now r e = ap (group r) e ∙ row_is r now

pub with_is : (r c v : Elem) (inside now : List Cell) → inside ≡ now → with_both r c v inside ≡ with_value r c v now
with_is r c v inside now e = ap (with_both r c v) e ∙ alike now
  where
    alike : (cells : List Cell) → with_both r c v cells ≡ with_value r c v cells
    alike [] = refl
    alike (x ∷ cells) = ap (λ (l : List Cell). cond (same r x.0 && same c x.1.0) (r, (c, v)) x ∷ l) (alike cells)

pub never_there : {P : Type 0} (x : Option Elem) → is_some x ≡ false → is_some x ≡ true → P
never_there x e f = let n : true ≡ false = sym f ∙ e in absurd (cc)

-- a group in order, where the rows are
in_group : {V : Type 0} (k x : Elem) (rows : List (Elem × (Elem × V))) → ComesFirst both_before (k, x) (by_both rows) → ComesFirst natural_before x (group k rows)
in_group k x [] f = tt
in_group k x (r ∷ rows) f = by (same k r.0) refl (in_group k x rows f.1)
  where
    later : (b : Bool) → (natural_before k k || (b && natural_before x r.1.0)) ≡ true → natural_before x r.1.0 ≡ true
    later true e = ap (λ t. t || natural_before x r.1.0) (sym (natural_before_strict.irreflexive k)) ∙ e
    later false e = let n = ap (λ t. t || false) (sym (natural_before_strict.irreflexive k)) ∙ e in cc

    by : (b : Bool) → same k r.0 ≡ b → ComesFirst natural_before x (group k rows) → ComesFirst natural_before x (cond b (r.1 ∷ group k rows) (group k rows))
    by true e ih = (later (same k r.0) (ap (λ (q : Elem). natural_before k q || (same k r.0 && natural_before x r.1.0)) ((same-Decides k r.0).0 e) ∙ f.0), ih)
    by false e ih = ih

pub group_in_order : {V : Type 0} (k : Elem) (rows : List (Elem × (Elem × V))) → IsInBothOrder rows → IsInOrder natural_before (group k rows)
group_in_order k [] s = tt
group_in_order k (r ∷ rows) s = by (same k r.0) refl (group_in_order k rows s.1)
  where
    by : (b : Bool) → same k r.0 ≡ b → IsInOrder natural_before (group k rows) → IsInOrder natural_before (cond b (r.1 ∷ group k rows) (group k rows))
    by true e ih = (subst (λ (q : Elem). ComesFirst natural_before r.1.0 (group q rows)) (sym ((same-Decides k r.0).0 e)) (in_group r.0 r.1.0 rows s.0), ih)
    by false e ih = ih

-- ---- a column has the rows of its spots
pub column_keys : (c : Elem) (cells : List Cell) (columns : Spots) → AreTurned cells columns → IsInBothOrder cells → IsInBothOrder columns → keys_of (group c columns) ≡ keys_of (column c cells)
column_keys c cells columns h s t =
    same_keys (group c columns) (column c cells) (group_in_order c columns t) (column_in_order c cells s)
    (λ r. h r c ∙ ap (λ (l : List (Elem × Elem)). is_some (value_at l c)) (row_is r cells) ∙ sym (turned_has r c cells))

pub has_column : (cells : List Cell) (columns : Spots) → AreTurned cells columns → IsInBothOrder cells → IsInBothOrder columns → (x : Elem) → is_some (first_key (group x columns)) ≡ is_some (first_key (column x cells))
has_column cells columns h s t x = ap is_some (first_of_keys (group x columns) (column x cells) (column_keys x cells columns h s t))

-- ---- the fields after a change
turned_test : (a b : Bool) → (a && b) ≡ (b && a)
turned_test true true = refl
turned_test true false = refl
turned_test false true = refl
turned_test false false = refl

pub turned_put : (cells new : List Cell) (columns more : Spots) (r c v : Elem) → AreTurned cells columns → AddsRow cells new r (c, v) → AddsRow columns more c (r, tt) → AreTurned new more
turned_put cells new columns more r c v h a b = λ q x.
    has_added columns more c r tt b x q ∙ (λ i. h q x i || turned_test (same x c) (same q r) i) ∙ sym (has_added cells new r c v a q x)

pub turned_without_cell : (cells : List Cell) (columns : Spots) (r c : Elem) → AreTurned cells columns → AreTurned (without_both r c cells) (without_both c r columns)
turned_without_cell cells columns r c h = λ q x.
    has_without c r columns x q ∙ (λ i. h q x i && not (turned_test (same c x) (same r q) i)) ∙ sym (has_without r c cells q x)

pub turned_with : (cells : List Cell) (columns : Spots) (r c v : Elem) → AreTurned cells columns → AreTurned (with_both r c v cells) columns
turned_with cells columns r c v h = λ q x. h q x ∙ sym (has_with r c v cells q x)

left : (t e : Bool) → (e ≡ true → t ≡ false) → ((t || e) && not e) ≡ t
left true true f = sym (f refl)
left true false f = refl
left false true f = refl
left false false f = refl

both_true : (a b : Bool) → (a && b) ≡ true → (a ≡ true) × (b ≡ true)
both_true true true e = (refl, refl)
both_true true false e = cc
both_true false d e = cc

-- a spot put and taken back
pub turned_back : (cells : List Cell) (columns more : Spots) (r c : Elem) → AreTurned cells columns → AddsRow columns more c (r, tt) → has_both r c cells ≡ false → AreTurned cells (without_both c r more)
turned_back cells columns more r c h b none = λ q x.
    has_without c r more x q ∙ ap (λ t. t && not (same c x && same r q)) (has_added columns more c r tt b x q ∙ ap (λ t. t || (same x c && same q r)) (h q x))
    ∙ (λ i. (has_both q x cells || (same_equiv.symm x c i && same_equiv.symm q r i)) && not (same c x && same r q))
    ∙ left (has_both q x cells) (same c x && same r q)
    (λ e. (let t = both_true (same c x) (same r q) e in (λ k. has_both (sym ((same-Decides r q).0 t.1) k) (sym ((same-Decides c x).0 t.0) k) cells) ∙ none))
