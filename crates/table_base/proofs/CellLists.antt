-- Lists of cells with a new cell, with another value at a spot, and without a spot.
use Rattle.std.proofs.Common.{◌≡◌, Bool, true, false, cond, not, ◌&&◌, List, [], ◌∷◌, ◌++◌, Some, refl, sym, ap, ◌∙◌}
use Rattle.std.specs.Prelude.{is_some}
use Rattle.std.specs.Map.{lookup}
use Rattle.std.proofs.lemmas.List.Elements.{filter-append}
use Rattle.std.proofs.lemmas.Map.{NonePasses}
use Rattle.elem.specs.declared.elements.Elem.{Elem}
use Rattle.elem.specs.Elements.{same}
use Rattle.elem.specs.ElementLaws.{same_equiv}
use Rattle.elem.specs.Rows.{first_key}
use Rattle.table_base.specs.Cells.{Cell, row, turned, transposed, value_in, has_row, spot_of, is_spot, without_cell, with_value, with_cell}

-- the cell of a new row goes last
pub with_cell_new : (x : Cell) (cells : List Cell) → row x.0 cells ≡ [] → with_cell x cells ≡ cells ++ x ∷ []
with_cell_new x [] e = refl
with_cell_new x (y ∷ cells) e = by_case (same x.0 y.0) (with_cell_new x cells) e
  where
    by_case : (b : Bool) → (row x.0 cells ≡ [] → with_cell x cells ≡ cells ++ x ∷ []) → cond b (y.1 ∷ row x.0 cells) (row x.0 cells) ≡ [] → cond (b && not (has_row x.0 cells)) (y ∷ x ∷ cells) (y ∷ with_cell x cells) ≡ y ∷ (cells ++ x ∷ [])
    by_case true r f = absurd (cc)
    by_case false r f = ap (λ l. y ∷ l) (r f)

pub row_there : (r : Elem) (us : List Cell) (y : Cell) (vs : List Cell) → same r y.0 ≡ true → has_row r (us ++ y ∷ vs) ≡ true
row_there r [] y vs t = ap (λ b. is_some (first_key (cond b (y.1 ∷ row r vs) (row r vs)))) t
row_there r (u ∷ us) y vs t = by_case (same r u.0) (row_there r us y vs t)
  where
    by_case : (b : Bool) → has_row r (us ++ y ∷ vs) ≡ true → is_some (first_key (cond b (u.1 ∷ row r (us ++ y ∷ vs)) (row r (us ++ y ∷ vs)))) ≡ true
    by_case true h = refl
    by_case false h = h

and_false : (b : Bool) → (b && false) ≡ false
and_false true = refl
and_false false = refl

-- the cell of another row goes behind the row's last cell
pub with_cell_behind : (x : Cell) (us : List Cell) (y : Cell) (vs : List Cell) → same x.0 y.0 ≡ true → row x.0 vs ≡ [] → with_cell x (us ++ y ∷ vs) ≡ us ++ y ∷ x ∷ vs
with_cell_behind x [] y vs t e =
    ap (λ b. cond (b && not (has_row x.0 vs)) (y ∷ x ∷ vs) (y ∷ with_cell x vs)) t ∙ ap (λ l. cond (not (is_some (first_key l))) (y ∷ x ∷ vs) (y ∷ with_cell x vs)) e
with_cell_behind x (u ∷ us) y vs t e =
    let all = us ++ y ∷ vs in
    ap (λ h. cond (same x.0 u.0 && not h) (u ∷ x ∷ all) (u ∷ with_cell x all)) (row_there x.0 us y vs t)
    ∙ ap (λ b. cond b (u ∷ x ∷ all) (u ∷ with_cell x all)) (and_false (same x.0 u.0)) ∙ ap (λ l. u ∷ l) (with_cell_behind x us y vs t e)

-- cells beside that of a row and a column
module _ (r c : Elem) where
  pub split_none : (x : Cell) (cells : List Cell) → NonePasses (same c) (row r (x ∷ cells)) → (is_spot r c (spot_of x) ≡ false) × NonePasses (same c) (row r cells)
  split_none x cells n = by_case (same r x.0) n
    where
      by_case : (b : Bool) → NonePasses (same c) (cond b (x.1 ∷ row r cells) (row r cells)) → ((b && same c x.1.0) ≡ false) × NonePasses (same c) (row r cells)
      by_case true m = (m.0, m.1)
      by_case false m = (refl, m)

  pub kept_without : (cells : List Cell) → NonePasses (same c) (row r cells) → without_cell r c cells ≡ cells
  kept_without [] n = refl
  kept_without (x ∷ cells) n =
      let s = split_none x cells n in
      ap (λ b. cond (not b) (x ∷ without_cell r c cells) (without_cell r c cells)) s.0 ∙ ap (λ l. x ∷ l) (kept_without cells s.1)

  kept_value : (v : Elem) (cells : List Cell) → NonePasses (same c) (row r cells) → with_value r c v cells ≡ cells
  kept_value v [] n = refl
  kept_value v (x ∷ cells) n =
      let s = split_none x cells n in
      ap (λ b. cond b (r, (c, v)) x ∷ with_value r c v cells) s.0 ∙ ap (λ l. x ∷ l) (kept_value v cells s.1)

  pub its_spot : (w : Elem) → is_spot r c (spot_of (r, (c, w))) ≡ true
  its_spot w = λ i. same_equiv.refl r i && same_equiv.refl c i

  -- a list cut at the cell
  pub without_cell_at : (us : List Cell) (w : Elem) (vs : List Cell) → NonePasses (same c) (row r us) → NonePasses (same c) (row r vs) → without_cell r c (us ++ (r, (c, w)) ∷ vs) ≡ us ++ vs
  without_cell_at us w vs m n =
      filter-append (λ (x : Cell). not (is_spot r c (spot_of x))) us ((r, (c, w)) ∷ vs)
      ∙ (λ i. kept_without us m i ++ cond (not (its_spot w i)) ((r, (c, w)) ∷ kept_without vs n i) (kept_without vs n i))

  value-append : (v : Elem) (us vs : List Cell) → with_value r c v (us ++ vs) ≡ with_value r c v us ++ with_value r c v vs
  value-append v [] vs = refl
  value-append v (u ∷ us) vs = ap (λ l. cond (is_spot r c (spot_of u)) (r, (c, v)) u ∷ l) (value-append v us vs)

  pub with_value_at : (v : Elem) (us : List Cell) (w : Elem) (vs : List Cell) → NonePasses (same c) (row r us) → NonePasses (same c) (row r vs) → with_value r c v (us ++ (r, (c, w)) ∷ vs) ≡ us ++ (r, (c, v)) ∷ vs
  with_value_at v us w vs m n =
      value-append v us ((r, (c, w)) ∷ vs)
      ∙ (λ i. kept_value v us m i ++ cond (its_spot w i) (r, (c, v)) (r, (c, w)) ∷ kept_value v vs n i)

-- a table turned round has the same cells
pub turned_value : (r c : Elem) (cells : List Cell) → value_in c r (transposed cells) ≡ value_in r c cells
turned_value r c [] = refl
turned_value r c (x ∷ cells) = by_case (same r x.0) (same c x.1.0) refl refl (turned_value r c cells)
  where
    by_case : (a b : Bool) → same r x.0 ≡ a → same c x.1.0 ≡ b → value_in c r (transposed cells) ≡ value_in r c cells
        → lookup (same r) (cond b ((turned x).1 ∷ row c (transposed cells)) (row c (transposed cells))) ≡ lookup (same c) (cond a (x.1 ∷ row r cells) (row r cells))
    by_case true true i j h = ap (λ b. cond b (Some x.1.1) (lookup (same r) (row c (transposed cells)))) i ∙ sym (ap (λ b. cond b (Some x.1.1) (lookup (same c) (row r cells))) j)
    by_case true false i j h = h ∙ sym (ap (λ b. cond b (Some x.1.1) (lookup (same c) (row r cells))) j)
    by_case false true i j h = ap (λ b. cond b (Some x.1.1) (lookup (same r) (row c (transposed cells)))) i ∙ h
    by_case false false i j h = h

pub turned_has : (r c : Elem) (cells : List Cell) → is_some (value_in c r (transposed cells)) ≡ is_some (value_in r c cells)
turned_has r c cells = ap is_some (turned_value r c cells)
