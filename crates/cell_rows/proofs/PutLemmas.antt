-- What a put does to a table of either kind, and what several do, one after another.
use Rattle.std.proofs.Common.{◌≡◌, ℕ, ◌≤◌, ◌<◌, ◌+◌, zero, suc, Bool, true, false, cond, List, [], ◌∷◌, ◌++◌, take, drop, length, get_or, Option, Some, None, Result, Ok, Err, refl, sym, ap, ◌∙◌, subst, arith}
use Rattle.std.specs.Prelude.{fold, IfOk, OnOk, IsSome, MatchOption, option_map, is_some}
use Rattle.std.proofs.lemmas.List.{take_more, take_all}
use Rattle.elem.specs.declared.elements.Elem.{Elem}
use Rattle.elem.specs.Keyed.{AddsRow}
use Rattle.plain_base.specs.TwoKeys.{IsInBothOrder}
use Rattle.table_base.specs.Cells.{Cell, HasCell, HasDistinctCells, Table, put_at, value_in, with_cell, with_put, with_value}
use Rattle.vocabulary.specs.declared.edits.Spot.TheVariants.{Own}
use Rattle.vocabulary.specs.declared.items.Item.{Item}
use Rattle.vocabulary.specs.declared.items.Item.TheVariants as item
use Rattle.vocabulary.specs.declared.kinds.Kind.{Kind}
use Rattle.vocabulary.specs.declared.kinds.Kind.TheVariants.{LinkedTable, TreeBasedTable}
use Rattle.vocabulary.specs.Items.{key_of, second_of, value_of}
use Rattle.machine.specs.Edits.{coming, placed_all}
use Rattle.machine.specs.Placing.{follows, placed, precedes, replaces, settled}
use Rattle.cell_rows.specs.declared.journal.Before.{Before}
use Rattle.cell_rows.specs.CellRows.{items, AreCells, IsCell}
use Rattle.cell_rows.specs.CellSpots.{row_of_cell}
use Rattle.cell_rows.specs.Journals.{all_undone, undone, IsPut}
use Rattle.cell_rows.proofs.Apart.{apart_linked, apart_sorted}
use Rattle.cell_rows.proofs.Placed.{cut_at, kept_value, new_linked, new_linked_back, new_sorted, new_sorted_back, none_at, replaced_linked, replaced_sorted, value_back, IsCut}
use Rattle.cell_rows.proofs.ThreadCells.{cell_found}

-- ---- one put

none_was : {o : Option Elem} {X : Type 0} → o ≡ None → IsSome o → X
none_was {o} {X} e h = absurd (by o e h)
  where
    by : (x : Option Elem) → x ≡ None → IsSome x → ⊥
    by None f g = cc
    by (Some y) f g = cc

module _ (t : Table) (r c v : Elem) (tight : t.loose ≡ false) (d : HasDistinctCells t.cells) where
  linked_put : (before : Option Elem) (new : List Cell) → before ≡ value_in r c t.cells → new ≡ with_put r c v t → IsPut LinkedTable t.cells r c v before new
  linked_put before new e f = by (value_in r c t.cells) refl f
    where
      by : (o : Option Elem) → value_in r c t.cells ≡ o → new ≡ put_at o r c v t → IsPut LinkedTable t.cells r c v before new
      by None was is =
          let none = none_at r c t.cells was in
          let added = is ∙ ap (λ b. cond b (t.cells ++ (r, (c, v)) ∷ []) (with_cell (r, (c, v)) t.cells)) tight in
          record {
            was = e;
            rows = ap items added ∙ new_linked r c v t.cells none;
            kept = none_was (e ∙ was);
            back = (λ i. undone (added i) r c ((e ∙ was) i)) ∙ new_linked_back r c v t.cells none;
          }
      by (Some w) was is =
          let k : IsCut r c w t.cells = cut_at r c w t.cells (apart_linked t.cells d) was in
          record {
            was = e;
            rows = ap items is ∙ replaced_linked r c v w t.cells k;
            kept = λ h. is;
            back = (λ i. undone (is i) r c ((e ∙ was) i)) ∙ value_back r c v w t.cells k;
          }

  pub linked_result : {E : Type 0} (result : Result (Option Elem) E) (new : List Cell) → IfOk result (λ before. before ≡ value_in r c t.cells) → OnOk result (new ≡ with_put r c v t) → IfOk result (λ before. IsPut LinkedTable t.cells r c v before new)
  linked_result (Ok before) new e f = linked_put before new e f
  linked_result (Err why) new e f = tt

module _ (old new : List Cell) (r c v : Elem) (s : IsInBothOrder old) (then : IsInBothOrder new) where
  pub sorted_put : (before : Option Elem) → before ≡ value_in r c old → MatchOption before (AddsRow old new r (c, v)) (λ w. new ≡ with_value r c v old) → IsPut TreeBasedTable old r c v before new
  sorted_put None e f =
      let none = none_at r c old (sym e) in
      record {
        was = e;
        rows = ap items f.1 ∙ new_sorted r c v f.0 old (subst IsInBothOrder f.1 then);
        kept = none_was refl;
        back = ap (λ cells. undone cells r c None) f.1 ∙ new_sorted_back r c v f.0 old none;
      }
  sorted_put (Some w) e f =
      let k : IsCut r c w old = cut_at r c w old (apart_sorted old s) (sym e) in
      record {
        was = e;
        rows = ap items f ∙ replaced_sorted r c v w old s k;
        kept = λ h. f;
        back = ap (λ cells. undone cells r c (Some w)) f ∙ value_back r c v w old k;
      }

-- where a cell would be no want of memory, there is none
pub no_row_there : (cells : List Cell) (r c : Elem) → (HasCell r c cells → ⊥) → row_of_cell (items cells) r c ≡ None
no_row_there cells r c h = cell_found cells r c ∙ by (value_in r c cells) h
  where
    by : (o : Option Elem) → (IsSome o → ⊥) → option_map (item.Cell r c) o ≡ None
    by None f = refl
    by (Some w) f = absurd (f refl)

pub made : (row : Item) → IsCell row → item.Cell (key_of row) (second_of row) (value_of row) ≡ row
made (item.Cell r c v) is = refl
made other is = absurd is

-- a value that goes where there is none changes nothing
pub nothing_undone : (cells : List Cell) (r c v : Elem) → value_in r c cells ≡ None → cells ≡ undone cells r c (Some v)
nothing_undone cells r c v e = sym (kept_value r c v cells (none_at r c cells e))

pub none_there : {X : Type 0} (o : Option X) → is_some o ≡ false → o ≡ None
none_there None h = refl
none_there (Some x) h = absurd (cc)

pub some_there : {X : Type 0} (o : Option X) → is_some o ≡ true → IsSome o
some_there o h = h

-- ---- rows grow

pub placed_longer : (kind : Kind) (rows : List Item) (new : Item) → length rows ≤ length (placed kind rows new)
placed_longer kind [] new = omega arith
placed_longer kind (row ∷ rows) new = by (replaces kind new row) (precedes kind new row) (follows kind new row rows) (placed_longer kind rows new)
  where
    by : (a b d : Bool) → length rows ≤ length (placed kind rows new) → length (row ∷ rows) ≤ length (cond a (settled new row ∷ rows) (cond b (new ∷ row ∷ rows) (cond d (row ∷ new ∷ rows) (row ∷ placed kind rows new))))
    by true b d ih = omega arith
    by false true d ih = omega arith
    by false false true ih = omega arith
    by false false false ih = omega arith

pub fold_longer : (kind : Kind) (rows added : List Item) → length rows ≤ length (fold (placed kind) rows added)
fold_longer kind rows [] = omega arith
fold_longer kind rows (new ∷ added) = omega (arith, placed_longer kind rows new, fold_longer kind (placed kind rows new) added)

-- rows that come one after another
pub one_by_one : (kind : Kind) (rows added : List Item) → placed_all kind rows (coming Own added) ≡ fold (placed kind) rows added
one_by_one kind rows [] = refl
one_by_one kind rows (new ∷ added) = one_by_one kind (placed kind rows new) added

-- ---- several, one after another

pub fold_split : {A B : Type 0} (f : B → A → B) (start : B) (n : ℕ) (xs : List A) → fold f start xs ≡ fold f (fold f start (take n xs)) (drop n xs)
fold_split f start zero xs = refl
fold_split f start (suc n) [] = refl
fold_split f start (suc n) (x ∷ xs) = fold_split f (f start x) n xs

fold_push : {A B : Type 0} (f : B → A → B) (start : B) (xs : List A) (x : A) → fold f start (xs ++ x ∷ []) ≡ f (fold f start xs) x
fold_push f start [] x = refl
fold_push f start (y ∷ xs) x = fold_push f (f start y) xs x

-- one more row of several
pub fold_next : (kind : Kind) (start now new : List Item) (xs : List Item) (i : ℕ) (x : Item) → now ≡ fold (placed kind) start (take i xs) → i < length xs → x ≡ get_or xs i x → new ≡ placed kind now x → new ≡ fold (placed kind) start (take (i + 1) xs)
fold_next kind start now new xs i x e within read step =
    step ∙ ap (λ b. placed kind b x) e ∙ sym (fold_push (placed kind) start (take i xs) x) ∙ ap (λ y. fold (placed kind) start (take i xs ++ y ∷ [])) read ∙ ap (fold (placed kind) start) (sym (take_more xs i x within))

pub fold_end : (kind : Kind) (start now : List Item) (xs : List Item) (i : ℕ) → now ≡ fold (placed kind) start (take i xs) → length xs ≤ i → now ≡ placed_all kind start (coming Own xs)
fold_end kind start now xs i e end = e ∙ ap (fold (placed kind) start) (take_all i xs end) ∙ sym (one_by_one kind start xs)

-- the rows after some are no more than after all
pub grows : (kind : Kind) (start new : List Item) (xs : List Item) (i : ℕ) → new ≡ fold (placed kind) start (take i xs) → length new ≤ length (placed_all kind start (coming Own xs))
grows kind start new xs i e =
    omega (arith, ap length (one_by_one kind start xs), ap length (fold_split (placed kind) start i xs), ap length e, fold_longer kind (fold (placed kind) start (take i xs)) (drop i xs))

-- each row that comes is a cell, put as that of its parts
cells_at : (rows : List Item) (i : ℕ) (x : Item) → AreCells rows → i < length rows → x ≡ get_or rows i x → IsCell x
cells_at [] i x a lt e = absurd (omega arith)
cells_at (row ∷ rows) zero x a lt e = subst IsCell (sym e) a.0
cells_at (row ∷ rows) (suc i) x a lt e = cells_at rows i x a.1 (omega arith) e

pub so_far : (kind k : Kind) (start : List Item) (now new : List Cell) (rows : List Item) (i : ℕ) (x : Item) (before : Option Elem) → AreCells rows → k ≡ kind → items now ≡ fold (placed kind) start (take i rows) → i < length rows → x ≡ get_or rows i x
    → IsPut k now (key_of x) (second_of x) (value_of x) before new → items new ≡ fold (placed kind) start (take (i + 1) rows)
so_far kind k start now new rows i x before a same e within read put =
    fold_next kind start (items now) (items new) rows i x e within read (put.rows ∙ (λ j. placed (same j) (items now) (made x (cells_at rows i x a within read) j)))

pub longer_so_far : (kind : Kind) (start new : List Item) (rows : List Item) (i : ℕ) → new ≡ fold (placed kind) start (take i rows) → length start ≤ length new
longer_so_far kind start new rows i e = omega (arith, ap length e, fold_longer kind start (take i rows))

-- ---- the journal

-- the last entry is taken back first
pub all_undone-push : (cells : List Cell) (entries : List Before) (entry : Before) → all_undone cells (entries ++ entry ∷ []) ≡ all_undone (undone cells entry.row entry.column entry.value) entries
all_undone-push cells [] entry = refl
all_undone-push cells (first ∷ entries) entry = ap (λ rest. undone rest first.row first.column first.value) (all_undone-push cells entries entry)

-- with the entry of what was put, the journal leads back to the same cells
pub journal_back : (kind : Kind) (start now new : List Cell) (r c v : Elem) (entry : Before) (journal longer : List Before) → IsPut kind now r c v entry.value new → entry.row ≡ r → entry.column ≡ c → all_undone now journal ≡ start → longer ≡ journal ++ entry ∷ []
    → all_undone new longer ≡ start
journal_back kind start now new r c v entry journal longer put at_row at_column back long =
    ap (all_undone new) long ∙ all_undone-push new journal entry ∙ ap (λ cells. all_undone cells journal) ((λ i. undone new (at_row i) (at_column i) entry.value) ∙ put.back) ∙ back
