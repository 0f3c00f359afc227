-- Walks along the threads of a table: what stands there, what follows, and the windows that are served.
use Rattle.std.proofs.Common.{◌≡◌, Bool, true, false, cond, ◌&&◌, ◌||◌, List, [], ◌∷◌, Option, Some, None, refl, ap, sym, ◌∙◌, subst}
use Rattle.std.specs.Prelude.{IsSome}
use Rattle.std.specs.Map.{keys_of, lookup}
use Rattle.elem.specs.declared.elements.Elem.{Elem}
use Rattle.elem.specs.declared.windows.Window.{Window}
use Rattle.elem.specs.Cuts.{cut_upto, lies_between}
use Rattle.elem.specs.Elements.{same}
use Rattle.elem.specs.ElementLaws.{same-Decides}
use Rattle.elem.specs.Orders.{natural_before}
use Rattle.elem.specs.OrderLaws.{natural_before_strict}
use Rattle.elem.specs.Rows.{first_key, last_key, key_after, key_before}
use Rattle.plain_base.specs.Sorted.{ComesFirst, IsInOrder}
use Rattle.plain_base.specs.TwoKeys.{both_before, by_both, IsInBothOrder}
use Rattle.table_base.specs.Cells.{Cell, row, by_spot, is_spot, spot_of, value_in, HasCell}
use Rattle.vocabulary.specs.declared.kinds.Kind.{Kind}
use Rattle.vocabulary.specs.declared.kinds.Kind.TheVariants.{LinkedTable, TreeBasedTable}
use Rattle.vocabulary.specs.declared.orders.Order.{Order}
use Rattle.vocabulary.specs.Orders.{before, upto}
use Rattle.view_laws.specs.declared.lanes.PartAsk.{PartAsk}
use Rattle.view_laws.specs.declared.lanes.PartAsk.TheVariants.{Is, Within}
use Rattle.view_laws.specs.Following.{Follows, IsFrom}
use Rattle.view_laws.specs.Lanes.{meets, turned_if}
use Rattle.cell_rows.specs.declared.cell_rows.CellRows.{CellRows}
use Rattle.cell_rows.specs.CellRows.{items, kind_of}
use Rattle.cell_rows.specs.CellSpots.{HaveOwnSpots}
use Rattle.cell_rows.specs.Serving.{ServesColumns}
use Rattle.cell_rows.proofs.Apart.{same_parts, same_parts-Decides, spots_distinct}
use Rattle.cell_rows.proofs.KeyLemmas.{follows_first, follows_key, from_there}

-- ---- all cells

-- what the spots tell at a spot is the value there
value_of_spot : (r c : Elem) (cells : List Cell) → lookup (is_spot r c) (by_spot cells) ≡ value_in r c cells
value_of_spot r c [] = refl
value_of_spot r c (x ∷ cells) = by (same r x.0) (value_of_spot r c cells)
  where
    by : (b : Bool) → lookup (is_spot r c) (by_spot cells) ≡ value_in r c cells
        → cond (b && same c x.1.0) (Some x.1.1) (lookup (is_spot r c) (by_spot cells)) ≡ lookup (same c) (cond b (x.1 ∷ row r cells) (row r cells))
    by true h = ap (cond (same c x.1.0) (Some x.1.1)) h
    by false h = h

pub cell_there : (cells : List Cell) (back : Bool) (from : Option (Elem × Elem)) (r c : Elem) → IsFrom (turned_if back (keys_of (by_spot cells))) from → from ≡ Some (r, c) → HasCell r c cells
cell_there cells back from r c h f =
    subst IsSome (value_of_spot r c cells) (from_there same_parts same_parts-Decides (by_spot cells) back (r, c) (subst (IsFrom (turned_if back (keys_of (by_spot cells)))) f h))

pub follows_end_cell : (cells : List Cell) (back : Bool) (from to : Option (Elem × Elem)) → from ≡ None → to ≡ cond back (last_key (by_spot cells)) (first_key (by_spot cells)) → Follows (turned_if back (keys_of (by_spot cells))) from to
follows_end_cell cells back from to f e = rw f (follows_first same_parts same_parts-Decides (by_spot cells) back to e)

pub follows_cell : (cells : List Cell) (back : Bool) (from to : Option (Elem × Elem)) (r c : Elem) → HaveOwnSpots (items cells) → from ≡ Some (r, c)
    → to ≡ cond back (key_before (is_spot r c) (by_spot cells)) (key_after (is_spot r c) (by_spot cells)) → Follows (turned_if back (keys_of (by_spot cells))) from to
follows_cell cells back from to r c d f e = rw f (follows_key same_parts same_parts-Decides (by_spot cells) back (r, c) to (spots_distinct cells d) e)

-- ---- windows of columns in a row

no_sorted : (kind : Kind) (r : Elem) (ask : PartAsk) (order : Order) (w : Window) → kind ≡ LinkedTable → ask ≡ Within order w → ServesColumns kind (Is r) ask → ⊥
no_sorted kind r ask order w k e s =
    let own : ServesColumns LinkedTable (Is r) (Within order w) = subst (λ a. ServesColumns LinkedTable (Is r) a) e (subst (λ q. ServesColumns q (Is r) ask) k s) in
    let f = own.0 in
    cc

-- a linked table is asked for none
pub no_window : (self : CellRows) {X : Type 0} (r : Elem) (ask : PartAsk) (order : Order) (w : Window) → kind_of self ≡ LinkedTable → ask ≡ Within order w → ServesColumns (kind_of self) (Is r) ask → X
no_window self r ask order w k e s = absurd (no_sorted (kind_of self) r ask order w k e s)

pub record IsServedWindow (ask : PartAsk) (w : Window) : Type 0 where
  pub test : meets ask ≡ lies_between natural_before w.lo w.hi
  pub upto : cut_upto natural_before w.lo w.hi ≡ true

-- a sorted table is asked for one in the natural order
pub served_window : (self : CellRows) (r : Elem) (ask : PartAsk) (order : Order) (w : Window) → kind_of self ≡ TreeBasedTable → ask ≡ Within order w → ServesColumns (kind_of self) (Is r) ask → IsServedWindow ask w
served_window self r ask order w k e s =
    let own : ServesColumns TreeBasedTable (Is r) (Within order w) = subst (λ a. ServesColumns TreeBasedTable (Is r) a) e (subst (λ q. ServesColumns q (Is r) ask) k s) in
    record {
      test = ap meets e ∙ ap (λ o. lies_between (before o) w.lo w.hi) own.1;
      upto = subst (λ o. upto o w.lo w.hi ≡ true) own.1 own.2;
    }

-- a row of a sorted table stands in the order of its columns
column_later : (p q : Elem × Elem) → same p.0 q.0 ≡ true → both_before p q ≡ true → natural_before p.1 q.1 ≡ true
column_later p q e h =
    let equal : p.0 ≡ q.0 = (same-Decides p.0 q.0).0 e in
    let none : natural_before p.0 q.0 ≡ false = ap (natural_before p.0) (sym equal) ∙ natural_before_strict.irreflexive p.0 in
    sym (λ i. none i || (e i && natural_before p.1 q.1)) ∙ h

first_in_row : (k : Elem) (x : Cell) (cells : List Cell) → same k x.0 ≡ true → ComesFirst both_before (spot_of x) (by_both cells) → ComesFirst natural_before x.1.0 (row k cells)
first_in_row k x [] e f = tt
first_in_row k x (y ∷ cells) e f = by (same k y.0) refl f.0 (first_in_row k x cells e f.1)
  where
    by : (b : Bool) → same k y.0 ≡ b → both_before (spot_of x) (spot_of y) ≡ true → ComesFirst natural_before x.1.0 (row k cells) → ComesFirst natural_before x.1.0 (cond b (y.1 ∷ row k cells) (row k cells))
    by true g h rest = (column_later (spot_of x) (spot_of y) ((same-Decides x.0 y.0).1 (sym ((same-Decides k x.0).0 e) ∙ (same-Decides k y.0).0 g)) h, rest)
    by false g h rest = rest

pub row_in_order : (k : Elem) (cells : List Cell) → IsInBothOrder cells → IsInOrder natural_before (row k cells)
row_in_order k [] s = tt
row_in_order k (x ∷ cells) s = by (same k x.0) refl (row_in_order k cells s.1)
  where
    by : (b : Bool) → same k x.0 ≡ b → IsInOrder natural_before (row k cells) → IsInOrder natural_before (cond b (x.1 ∷ row k cells) (row k cells))
    by true e rest = (first_in_row k x cells e s.0, rest)
    by false e rest = rest
