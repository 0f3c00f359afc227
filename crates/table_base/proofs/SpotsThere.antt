-- A row and a column read from the spots of the cells have a cell.
use Rattle.std.proofs.Common.{◌≡◌, ◌⊎◌, inl, inr, Bool, true, false, cond, List, [], ◌∷◌, Option, Some, None, refl, ap, ◌∙◌, subst}
use Rattle.std.specs.Prelude.{IsSome, is_some}
use Rattle.std.specs.Map.{lookup}
use Rattle.elem.specs.declared.elements.Elem.{Elem}
use Rattle.elem.specs.Elements.{same}
use Rattle.elem.specs.ElementLaws.{same_equiv}
use Rattle.elem.specs.Rows.{first_key, last_key, last_key_or, key_after, key_before, key_before_or}
use Rattle.plain_base.specs.TwoKeys.{by_both}
use Rattle.table_base.specs.Cells.{Cell, row, HasCell, spot_of, by_spot}

pub spots_are : (cells : List Cell) → by_both cells ≡ by_spot cells
spots_are [] = refl
spots_are (x ∷ cells) = ap (λ l. (spot_of x, x.1.1) ∷ l) (spots_are cells)

here : (x : Cell) (cells : List Cell) (s : Elem × Elem) → Some (spot_of x) ≡ Some s → HasCell s.0 s.1 (x ∷ cells)
here x cells s e =
    let equal : spot_of x ≡ s = cc in
    subst (λ (t : Elem × Elem). HasCell t.0 t.1 (x ∷ cells)) equal
    (ap (λ b. is_some (lookup (same x.1.0) (cond b (x.1 ∷ row x.0 cells) (row x.0 cells)))) (same_equiv.refl x.0) ∙ ap (λ b. is_some (cond b (Some x.1.1) (lookup (same x.1.0) (row x.0 cells)))) (same_equiv.refl x.1.0))

later : (x : Cell) (cells : List Cell) (r c : Elem) → HasCell r c cells → HasCell r c (x ∷ cells)
later x cells r c h = by_row (same r x.0)
  where
    by_column : (b : Bool) → IsSome (cond b (Some x.1.1) (lookup (same c) (row r cells)))
    by_column true = refl
    by_column false = h

    by_row : (b : Bool) → IsSome (lookup (same c) (cond b (x.1 ∷ row r cells) (row r cells)))
    by_row true = by_column (same c x.1.0)
    by_row false = h

pub first_spot_there : (cells : List Cell) (s : Elem × Elem) → first_key (by_spot cells) ≡ Some s → HasCell s.0 s.1 cells
first_spot_there [] s e = absurd (cc)
first_spot_there (x ∷ cells) s e = here x cells s e

pub after_spot_there : (test : Elem × Elem → Bool) (cells : List Cell) (s : Elem × Elem) → key_after test (by_spot cells) ≡ Some s → HasCell s.0 s.1 cells
after_spot_there test [] s e = absurd (cc)
after_spot_there test (x ∷ cells) s e = later x cells s.0 s.1 (by_case (test (spot_of x)) e (after_spot_there test cells s))
  where
    by_case : (b : Bool) → cond b (first_key (by_spot cells)) (key_after test (by_spot cells)) ≡ Some s → (key_after test (by_spot cells) ≡ Some s → HasCell s.0 s.1 cells) → HasCell s.0 s.1 cells
    by_case true f ih = first_spot_there cells s f
    by_case false f ih = ih f

-- from the back, a spot is the one from which the walk goes on, or one that is there
last_there_or : (cells : List Cell) (start : Option (Elem × Elem)) (s : Elem × Elem) → last_key_or start (by_spot cells) ≡ Some s → (start ≡ Some s) ⊎ HasCell s.0 s.1 cells
last_there_or [] start s e = inl e
last_there_or (x ∷ cells) start s e = elim (last_there_or cells (Some (spot_of x)) s e) [ inl own ↦ inr (here x cells s own) | inr there ↦ inr (later x cells s.0 s.1 there) ]

before_there_or : (test : Elem × Elem → Bool) (cells : List Cell) (start : Option (Elem × Elem)) (s : Elem × Elem) → key_before_or start test (by_spot cells) ≡ Some s → (start ≡ Some s) ⊎ HasCell s.0 s.1 cells
before_there_or test [] start s e = absurd (cc)
before_there_or test (x ∷ cells) start s e = by (test (spot_of x)) e (before_there_or test cells (Some (spot_of x)) s)
  where
    by : (b : Bool) → cond b start (key_before_or (Some (spot_of x)) test (by_spot cells)) ≡ Some s
        → (key_before_or (Some (spot_of x)) test (by_spot cells) ≡ Some s → (Some (spot_of x) ≡ Some s) ⊎ HasCell s.0 s.1 cells) → (start ≡ Some s) ⊎ HasCell s.0 s.1 (x ∷ cells)
    by true f ih = inl f
    by false f ih = elim (ih f) [ inl own ↦ inr (here x cells s own) | inr there ↦ inr (later x cells s.0 s.1 there) ]

none_is : (s : Elem × Elem) → None ≡ Some s → ⊥
none_is s e = cc

pub last_spot_there : (cells : List Cell) (s : Elem × Elem) → last_key (by_spot cells) ≡ Some s → HasCell s.0 s.1 cells
last_spot_there cells s e = elim (last_there_or cells None s e) [ inl none ↦ absurd (none_is s none) | inr there ↦ there ]

pub before_spot_there : (test : Elem × Elem → Bool) (cells : List Cell) (s : Elem × Elem) → key_before test (by_spot cells) ≡ Some s → HasCell s.0 s.1 cells
before_spot_there test cells s e = elim (before_there_or test cells None s e) [ inl none ↦ absurd (none_is s none) | inr there ↦ there ]
