-- Cells whose rows each stand together: what keeps them so, and the rows' order then.
use Rattle.std.proofs.Common.{◌≡◌, ◌⊎◌, inl, inr, Bool, true, false, cond, not, ◌&&◌, List, [], ◌∷◌, ◌++◌, refl, sym, ap, ◌∙◌, subst}
use Rattle.std.specs.Prelude.{is_some}
use Rattle.std.specs.List.{filter}
use Rattle.elem.specs.declared.elements.Elem.{Elem}
use Rattle.elem.specs.Elements.{same}
use Rattle.elem.specs.ElementLaws.{same-Decides, same_equiv}
use Rattle.elem.specs.Rows.{first_key}
use Rattle.table_base.specs.Cells.{Cell, row, spot_of, is_spot, past_row, IsGrouped, has_row, with_value, with_cell, Table, with_new}

both_true : (a b : Bool) → (a && b) ≡ true → a ≡ true
both_true true b e = refl
both_true false b e = cc

-- a row that no cell is of
row_past : (r : Elem) (cells : List Cell) → row r cells ≡ [] → row r (past_row r cells) ≡ []
row_past r [] e = refl
row_past r (y ∷ cells) e = by_case (same r y.0) refl (row_past r cells) e
  where
    by_case : (a : Bool) → same r y.0 ≡ a → (row r cells ≡ [] → row r (past_row r cells) ≡ []) → cond a (y.1 ∷ row r cells) (row r cells) ≡ [] → row r (cond a (past_row r cells) (y ∷ cells)) ≡ []
    by_case true i h f = absurd (cc)
    by_case false i h f = ap (λ a. cond a (y.1 ∷ row r cells) (row r cells)) i ∙ f

row_filter : (r : Elem) (t : Cell → Bool) (cells : List Cell) → row r cells ≡ [] → row r (filter t cells) ≡ []
row_filter r t [] e = refl
row_filter r t (y ∷ cells) e = by_case (same r y.0) (t y) refl (row_filter r t cells) e
  where
    by_case : (a b : Bool) → same r y.0 ≡ a → (row r cells ≡ [] → row r (filter t cells) ≡ []) → cond a (y.1 ∷ row r cells) (row r cells) ≡ [] → row r (cond b (y ∷ filter t cells) (filter t cells)) ≡ []
    by_case true b i h f = absurd (cc)
    by_case false true i h f = ap (λ a. cond a (y.1 ∷ row r (filter t cells)) (row r (filter t cells))) i ∙ h f
    by_case false false i h f = h f

past_filter : (r : Elem) (t : Cell → Bool) (cells : List Cell) → row r (past_row r cells) ≡ [] → row r (past_row r (filter t cells)) ≡ []
past_filter r t [] e = refl
past_filter r t (y ∷ cells) e = by_case (same r y.0) (t y) refl (past_filter r t cells) e
  where
    by_case : (a b : Bool) → same r y.0 ≡ a → (row r (past_row r cells) ≡ [] → row r (past_row r (filter t cells)) ≡ []) → row r (cond a (past_row r cells) (y ∷ cells)) ≡ [] → row r (past_row r (cond b (y ∷ filter t cells) (filter t cells))) ≡ []
    by_case true true i h f = ap (λ a. row r (cond a (past_row r (filter t cells)) (y ∷ filter t cells))) i ∙ h f
    by_case true false i h f = h f
    by_case false b i h f = row_past r (cond b (y ∷ filter t cells) (filter t cells)) (row_filter_cons b (ap (λ a. cond a (y.1 ∷ row r cells) (row r cells)) (sym i) ∙ f))
      where
        row_filter_cons : (b : Bool) → row r cells ≡ [] → row r (cond b (y ∷ filter t cells) (filter t cells)) ≡ []
        row_filter_cons true g = ap (λ a. cond a (y.1 ∷ row r (filter t cells)) (row r (filter t cells))) i ∙ row_filter r t cells g
        row_filter_cons false g = row_filter r t cells g

-- fewer cells
pub grouped_filter : (t : Cell → Bool) (cells : List Cell) → IsGrouped cells → IsGrouped (filter t cells)
grouped_filter t [] g = tt
grouped_filter t (x ∷ cells) g = by_case (t x) (grouped_filter t cells g.1)
  where
    by_case : (b : Bool) → IsGrouped (filter t cells) → IsGrouped (cond b (x ∷ filter t cells) (filter t cells))
    by_case true h = (past_filter x.0 t cells g.0, h)
    by_case false h = h

-- a value written
module _ (r c v : Elem) where
  written : Cell → Cell
  written x = cond (is_spot r c (spot_of x)) (r, (c, v)) x

  same_row : (x : Cell) → (cond (is_spot r c (spot_of x)) (r, (c, v)) x).0 ≡ x.0
  same_row x = by_case (is_spot r c (spot_of x)) refl
    where
      by_case : (b : Bool) → is_spot r c (spot_of x) ≡ b → (cond b (r, (c, v)) x).0 ≡ x.0
      by_case true e = (same-Decides r x.0).0 (both_true (same r x.0) (same c x.1.0) e)
      by_case false e = refl

  row_value : (q : Elem) (cells : List Cell) → row q cells ≡ [] → row q (with_value r c v cells) ≡ []
  row_value q [] e = refl
  row_value q (y ∷ cells) e = by_case (same q y.0) refl (row_value q cells) e
    where
      new : Cell
      new = cond (is_spot r c (spot_of y)) (r, (c, v)) y

      by_case : (a : Bool) → same q y.0 ≡ a → (row q cells ≡ [] → row q (with_value r c v cells) ≡ []) → cond a (y.1 ∷ row q cells) (row q cells) ≡ []
          → row q (cond (is_spot r c (spot_of y)) (r, (c, v)) y ∷ with_value r c v cells) ≡ []
      by_case true i h f = absurd (cc)
      by_case false i h f =
          ap (λ a. cond a ((cond (is_spot r c (spot_of y)) (r, (c, v)) y).1 ∷ row q (with_value r c v cells)) (row q (with_value r c v cells))) (ap (same q) (same_row y) ∙ i) ∙ h f

  past_value : (q : Elem) (cells : List Cell) → row q (past_row q cells) ≡ [] → row q (past_row q (with_value r c v cells)) ≡ []
  past_value q [] e = refl
  past_value q (y ∷ cells) e = by_case (same q y.0) refl (past_value q cells) e
    where
      by_case : (a : Bool) → same q y.0 ≡ a → (row q (past_row q cells) ≡ [] → row q (past_row q (with_value r c v cells)) ≡ []) → row q (cond a (past_row q cells) (y ∷ cells)) ≡ []
          → row q (past_row q (cond (is_spot r c (spot_of y)) (r, (c, v)) y ∷ with_value r c v cells)) ≡ []
      by_case true i h f =
          ap (λ a. row q (cond a (past_row q (with_value r c v cells)) (cond (is_spot r c (spot_of y)) (r, (c, v)) y ∷ with_value r c v cells))) (ap (same q) (same_row y) ∙ i) ∙ h f
      by_case false i h f = row_past q (with_value r c v (y ∷ cells)) (row_value q (y ∷ cells) f)

  pub grouped_value : (cells : List Cell) → IsGrouped cells → IsGrouped (with_value r c v cells)
  grouped_value [] g = tt
  grouped_value (x ∷ cells) g = (subst (λ q. row q (past_row q (with_value r c v cells)) ≡ []) (sym (same_row x)) (past_value x.0 cells g.0), grouped_value cells g.1)

-- a new cell
module _ (x : Cell) where
  there_or : (q : Elem) (cells : List Cell) → same q x.0 ≡ true → has_row x.0 cells ≡ true → row q cells ≡ [] → ⊥
  there_or q cells i h e =
      let own : q ≡ x.0 = (same-Decides q x.0).0 i in
      let none = ap (λ l. is_some (first_key l)) (ap (λ y. row y cells) (sym own) ∙ e) in
      let both : false ≡ true = sym none ∙ h in cc

  row_with : (q : Elem) (cells : List Cell) → same q x.0 ≡ false → row q cells ≡ [] → row q (with_cell x cells) ≡ []
  row_with q [] i e = ap (λ a. cond a (x.1 ∷ []) []) i
  row_with q (z ∷ cells) i e = by_case (same q z.0) refl (same x.0 z.0 && not (has_row x.0 cells)) (row_with q cells i) e
    where
      by_case : (b : Bool) → same q z.0 ≡ b → (a : Bool) → (row q cells ≡ [] → row q (with_cell x cells) ≡ []) → cond b (z.1 ∷ row q cells) (row q cells) ≡ [] → row q (cond a (z ∷ x ∷ cells) (z ∷ with_cell x cells)) ≡ []
      by_case true j a h f = absurd (cc)
      by_case false j true h f =
          ap (λ b. cond b (z.1 ∷ row q (x ∷ cells)) (row q (x ∷ cells))) j ∙ ap (λ b. cond b (x.1 ∷ row q cells) (row q cells)) i ∙ f
      by_case false j false h f = ap (λ b. cond b (z.1 ∷ row q (with_cell x cells)) (row q (with_cell x cells))) j ∙ h f

  -- the row is another, or is there later
  past_with : (q : Elem) (cells : List Cell) → (same q x.0 ≡ false) ⊎ (has_row x.0 cells ≡ true) → row q (past_row q cells) ≡ [] → row q (past_row q (with_cell x cells)) ≡ []
  past_with q [] (inl i) e = ap (λ a. row q (cond a [] (x ∷ []))) i ∙ ap (λ a. cond a (x.1 ∷ []) []) i
  past_with q [] (inr i) e = absurd (cc)
  past_with q (z ∷ cells) o e = by_case (same q z.0) refl (same x.0 z.0) refl (has_row x.0 cells) refl (past_with q cells) o e
    where
      later : (d h : Bool) → same x.0 z.0 ≡ d → has_row x.0 cells ≡ h → (d && not h) ≡ false → (same q x.0 ≡ false) ⊎ (has_row x.0 (z ∷ cells) ≡ true) → (same q x.0 ≡ false) ⊎ (has_row x.0 cells ≡ true)
      later d h i j f (inl k) = inl k
      later true true i j f (inr k) = inr j
      later true false i j f (inr k) = absurd (cc)
      later false h i j f (inr k) = inr (sym (ap (λ a. is_some (first_key (cond a (z.1 ∷ row x.0 cells) (row x.0 cells)))) i) ∙ k)

      others : (a : Bool) → same q z.0 ≡ false → row q (z ∷ cells) ≡ [] → (same q x.0 ≡ false) ⊎ (has_row x.0 (z ∷ cells) ≡ true) → (b : Bool) → same q x.0 ≡ b → row q (with_cell x (z ∷ cells)) ≡ []
      others a i f p true k = absurd (never p k f)
        where
          never : (same q x.0 ≡ false) ⊎ (has_row x.0 (z ∷ cells) ≡ true) → same q x.0 ≡ true → row q (z ∷ cells) ≡ [] → ⊥
          never (inl m) k f = let both : true ≡ false = sym k ∙ m in cc
          never (inr m) k f = there_or q (z ∷ cells) k m f
      others a i f p false k = row_with q (z ∷ cells) k f

      by_case : (b : Bool) → same q z.0 ≡ b → (d : Bool) → same x.0 z.0 ≡ d → (h : Bool) → has_row x.0 cells ≡ h → ((same q x.0 ≡ false) ⊎ (has_row x.0 cells ≡ true) → row q (past_row q cells) ≡ [] → row q (past_row q (with_cell x cells)) ≡ [])
          → (same q x.0 ≡ false) ⊎ (has_row x.0 (z ∷ cells) ≡ true) → row q (cond b (past_row q cells) (z ∷ cells)) ≡ [] → row q (past_row q (with_cell x (z ∷ cells))) ≡ []
      by_case true i true j false k ih p f =
          let own : same q x.0 ≡ true = subst (λ y. same q y ≡ true) (sym ((same-Decides x.0 z.0).0 j)) i in
          ap (λ l. row q (past_row q l)) ((λ m. cond (j m && not (k m)) (z ∷ x ∷ cells) (z ∷ with_cell x cells)))
          ∙ ap (λ a. row q (cond a (past_row q (x ∷ cells)) (z ∷ x ∷ cells))) i ∙ ap (λ a. row q (cond a (past_row q cells) (x ∷ cells))) own ∙ f
      by_case true i true j true k ih p f =
          ap (λ l. row q (past_row q l)) ((λ m. cond (j m && not (k m)) (z ∷ x ∷ cells) (z ∷ with_cell x cells)))
          ∙ ap (λ a. row q (cond a (past_row q (with_cell x cells)) (z ∷ with_cell x cells))) i ∙ ih (later true true j k refl p) f
      by_case true i false j h k ih p f =
          ap (λ l. row q (past_row q l)) ((λ m. cond (j m && not (k m)) (z ∷ x ∷ cells) (z ∷ with_cell x cells)))
          ∙ ap (λ a. row q (cond a (past_row q (with_cell x cells)) (z ∷ with_cell x cells))) i ∙ ih (later false h j k refl p) f
      by_case false i d j h k ih p f = row_past q (with_cell x (z ∷ cells)) (others true i f p (same q x.0) refl)

  pub grouped_with : (cells : List Cell) → IsGrouped cells → IsGrouped (with_cell x cells)
  grouped_with [] g = (refl, tt)
  grouped_with (y ∷ cells) g = by_case (same x.0 y.0) refl (has_row x.0 cells) refl (grouped_with cells g.1)
    where
      none_there : (xs : List (Elem × Elem)) → is_some (first_key xs) ≡ false → xs ≡ []
      none_there [] e = refl
      none_there (z ∷ xs) e = absurd (cc)

      by_case : (d : Bool) → same x.0 y.0 ≡ d → (h : Bool) → has_row x.0 cells ≡ h → IsGrouped (with_cell x cells) → IsGrouped (cond (d && not h) (y ∷ x ∷ cells) (y ∷ with_cell x cells))
      by_case true j false k ih =
          let own : same y.0 x.0 ≡ true = same_equiv.symm y.0 x.0 ∙ j in
          (ap (λ a. row y.0 (cond a (past_row y.0 cells) (x ∷ cells))) own ∙ g.0, (row_past x.0 cells (none_there (row x.0 cells) k), g.1))
      by_case true j true k ih = (past_with y.0 cells (inr k) g.0, ih)
      by_case false j h k ih = (past_with y.0 cells (inl (same_equiv.symm y.0 x.0 ∙ j)) g.0, ih)

pub grouped_new : (t : Table) (x : Cell) → (t.loose ≡ false → IsGrouped t.cells) → t.loose ≡ false → IsGrouped (with_new t x)
grouped_new t x g e = subst (λ b. IsGrouped (cond b (t.cells ++ x ∷ []) (with_cell x t.cells))) (sym e) (grouped_with x t.cells (g e))
