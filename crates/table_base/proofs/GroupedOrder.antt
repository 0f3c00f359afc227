-- The order of rows that each stand together: the next begins behind the last cell of a row, and the one before ends ahead of its first.
use Rattle.std.proofs.Common.{◌≡◌, Bool, true, false, cond, not, List, [], ◌∷◌, ◌++◌, Option, Some, refl, sym, ap, ◌∙◌, subst}
use Rattle.std.specs.Prelude.{is_some}
use Rattle.std.specs.List.{filter}
use Rattle.std.proofs.lemmas.Map.{NonePasses}
use Rattle.elem.specs.declared.elements.Elem.{Elem}
use Rattle.elem.specs.Elements.{same}
use Rattle.elem.specs.ElementLaws.{same-Decides}
use Rattle.elem.specs.Rows.{first_key, last_key_or, key_after, key_before_or}
use Rattle.table_base.specs.Cells.{Cell, row, past_row, IsGrouped, first_of_rows}
use Rattle.table_base.proofs.CellLists.{row_there}

-- the cells of other rows than r
abbrev others : Elem → List Cell → List Cell
others r cells = filter (λ (y : Cell). not (same r y.0)) cells

none_others : (r q : Elem) (cells : List Cell) → NonePasses (same r) cells → NonePasses (same r) (others q cells)
none_others r q [] n = tt
none_others r q (y ∷ cells) n = by_case (same q y.0) (none_others r q cells n.1)
  where
    by_case : (b : Bool) → NonePasses (same r) (others q cells) → NonePasses (same r) (cond (not b) (y ∷ others q cells) (others q cells))
    by_case true h = h
    by_case false h = (n.0, h)

none_firsts : (r : Elem) (cells : List Cell) → row r cells ≡ [] → NonePasses (same r) (first_of_rows cells)
none_firsts r [] e = tt
none_firsts r (y ∷ cells) e = by_case (same r y.0) refl (none_firsts r cells) e
  where
    by_case : (b : Bool) → same r y.0 ≡ b → (row r cells ≡ [] → NonePasses (same r) (first_of_rows cells)) → cond b (y.1 ∷ row r cells) (row r cells) ≡ [] → NonePasses (same r) (y ∷ others y.0 (first_of_rows cells))
    by_case true i h f = absurd (cc)
    by_case false i h f = (i, none_others r y.0 (first_of_rows cells) (h f))

kept_others : (r : Elem) (cells : List Cell) → NonePasses (same r) cells → others r cells ≡ cells
kept_others r [] n = refl
kept_others r (y ∷ cells) n = ap (λ b. cond (not b) (y ∷ others r cells) (others r cells)) n.0 ∙ ap (λ l. y ∷ l) (kept_others r cells n.1)

others_twice : (r : Elem) (cells : List Cell) → others r (others r cells) ≡ others r cells
others_twice r [] = refl
others_twice r (y ∷ cells) = by_case (same r y.0) refl (others_twice r cells)
  where
    by_case : (b : Bool) → same r y.0 ≡ b → others r (others r cells) ≡ others r cells → others r (cond (not b) (y ∷ others r cells) (others r cells)) ≡ cond (not b) (y ∷ others r cells) (others r cells)
    by_case true i h = h
    by_case false i h = ap (λ b. cond (not b) (y ∷ others r (others r cells)) (others r (others r cells))) i ∙ ap (λ l. y ∷ l) h

past_none : (r : Elem) (cells : List Cell) → row r cells ≡ [] → past_row r cells ≡ cells
past_none r [] e = refl
past_none r (y ∷ cells) e = by_case (same r y.0) e
  where
    by_case : (b : Bool) → cond b (y.1 ∷ row r cells) (row r cells) ≡ [] → cond b (past_row r cells) (y ∷ cells) ≡ y ∷ cells
    by_case true f = absurd (cc)
    by_case false f = refl

-- the first cell of another row is the first of its row
first_past : (r : Elem) (cells : List Cell) → first_key (others r (first_of_rows cells)) ≡ first_key (past_row r cells)
first_past r [] = refl
first_past r (z ∷ cells) = by_case (same r z.0) refl (first_past r cells)
  where
    by_case : (b : Bool) → same r z.0 ≡ b → first_key (others r (first_of_rows cells)) ≡ first_key (past_row r cells) → first_key (cond (not b) (z ∷ others r (others z.0 (first_of_rows cells))) (others r (others z.0 (first_of_rows cells)))) ≡ first_key (cond b (past_row r cells) (z ∷ cells))
    by_case true i h = ap (λ q. first_key (others r (others q (first_of_rows cells)))) (sym ((same-Decides r z.0).0 i)) ∙ ap first_key (others_twice r (first_of_rows cells)) ∙ h
    by_case false i h = refl

-- a row that stands together ends where its last cell does
past_block : (k : Elem) (us : List Cell) (y : Cell) (vs : List Cell) → same k y.0 ≡ true → row k vs ≡ [] → row k (past_row k (us ++ y ∷ vs)) ≡ [] → past_row k (us ++ y ∷ vs) ≡ vs
past_block k [] y vs t e g = ap (λ b. cond b (past_row k vs) (y ∷ vs)) t ∙ past_none k vs e
past_block k (u ∷ us) y vs t e g = by_case (same k u.0) refl (past_block k us y vs t e) g
  where
    by_case : (b : Bool) → same k u.0 ≡ b → (row k (past_row k (us ++ y ∷ vs)) ≡ [] → past_row k (us ++ y ∷ vs) ≡ vs) → row k (cond b (past_row k (us ++ y ∷ vs)) (u ∷ (us ++ y ∷ vs))) ≡ [] → cond b (past_row k (us ++ y ∷ vs)) (u ∷ (us ++ y ∷ vs)) ≡ vs
    by_case true i h f = h f
    by_case false i h f = absurd (let both = sym (row_there k (u ∷ us) y vs t) ∙ ap (λ l. is_some (first_key l)) f in cc)

-- the first cells without those of a row that is at the front or nowhere
module _ (b : Elem) (k : Elem) (d : same k b ≡ false) where
  past_others : (z : Cell) (cells : List Cell) → same b z.0 ≡ false → row b (past_row b (z ∷ cells)) ≡ [] → others b (first_of_rows (z ∷ cells)) ≡ first_of_rows (z ∷ cells)
  past_others z cells i g = kept_others b (first_of_rows (z ∷ cells)) (none_firsts b (z ∷ cells) (sym (ap (λ a. row b (cond a (past_row b cells) (z ∷ cells))) i) ∙ g))

  front_others : (z : Cell) (cells : List Cell) → same b z.0 ≡ true → others b (first_of_rows (z ∷ cells)) ≡ others z.0 (first_of_rows cells)
  front_others z cells i =
      ap (λ a. cond (not a) (z ∷ others b (others z.0 (first_of_rows cells))) (others b (others z.0 (first_of_rows cells)))) i
      ∙ ap (λ q. others q (others z.0 (first_of_rows cells))) ((same-Decides b z.0).0 i) ∙ others_twice z.0 (first_of_rows cells)

  its_key : (z : Cell) → same b z.0 ≡ true → same k z.0 ≡ false
  its_key z i = ap (same k) (sym ((same-Decides b z.0).0 i)) ∙ d

  after_others : (cells : List Cell) → row b (past_row b cells) ≡ [] → key_after (same k) (others b (first_of_rows cells)) ≡ key_after (same k) (first_of_rows cells)
  after_others [] g = refl
  after_others (z ∷ cells) g = by_case (same b z.0) refl
    where
      by_case : (a : Bool) → same b z.0 ≡ a → key_after (same k) (others b (first_of_rows (z ∷ cells))) ≡ key_after (same k) (first_of_rows (z ∷ cells))
      by_case true i =
          ap (key_after (same k)) (front_others z cells i)
          ∙ sym (ap (λ a. cond a (first_key (others z.0 (first_of_rows cells))) (key_after (same k) (others z.0 (first_of_rows cells)))) (its_key z i))
      by_case false i = ap (key_after (same k)) (past_others z cells i g)

  before_others : (cells : List Cell) → row b (past_row b cells) ≡ [] → key_before_or (Some b) (same k) (others b (first_of_rows cells)) ≡ key_before_or (Some b) (same k) (first_of_rows cells)
  before_others [] g = refl
  before_others (z ∷ cells) g = by_case (same b z.0) refl
    where
      by_case : (a : Bool) → same b z.0 ≡ a → key_before_or (Some b) (same k) (others b (first_of_rows (z ∷ cells))) ≡ key_before_or (Some b) (same k) (first_of_rows (z ∷ cells))
      by_case true i =
          ap (key_before_or (Some b) (same k)) (front_others z cells i) ∙ ap (λ q. key_before_or (Some q) (same k) (others z.0 (first_of_rows cells))) ((same-Decides b z.0).0 i)
          ∙ sym (ap (λ a. cond a (Some b) (key_before_or (Some z.0) (same k) (others z.0 (first_of_rows cells)))) (its_key z i))
      by_case false i = ap (key_before_or (Some b) (same k)) (past_others z cells i g)

pub after_grouped : (k : Elem) (us : List Cell) (y : Cell) (vs : List Cell) → same k y.0 ≡ true → row k vs ≡ [] → IsGrouped (us ++ y ∷ vs) → key_after (same k) (first_of_rows (us ++ y ∷ vs)) ≡ first_key vs
after_grouped k [] y vs t e g =
    ap (λ b. cond b (first_key (others y.0 (first_of_rows vs))) (key_after (same k) (others y.0 (first_of_rows vs)))) t
    ∙ ap (λ q. first_key (others q (first_of_rows vs))) (sym ((same-Decides k y.0).0 t)) ∙ first_past k vs ∙ ap first_key (past_none k vs e)
after_grouped k (u ∷ us) y vs t e g = by_case (same k u.0) refl (after_grouped k us y vs t e g.1)
  where
    by_case : (b : Bool) → same k u.0 ≡ b → key_after (same k) (first_of_rows (us ++ y ∷ vs)) ≡ first_key vs
        → cond (same k u.0) (first_key (others u.0 (first_of_rows (us ++ y ∷ vs)))) (key_after (same k) (others u.0 (first_of_rows (us ++ y ∷ vs)))) ≡ first_key vs
    by_case true i h =
        let own : k ≡ u.0 = (same-Decides k u.0).0 i in
        ap (λ b. cond b (first_key (others u.0 (first_of_rows (us ++ y ∷ vs)))) (key_after (same k) (others u.0 (first_of_rows (us ++ y ∷ vs))))) i
        ∙ ap (λ q. first_key (others q (first_of_rows (us ++ y ∷ vs)))) (sym own) ∙ first_past k (us ++ y ∷ vs)
        ∙ ap first_key (past_block k us y vs t e (subst (λ q. row q (past_row q (us ++ y ∷ vs)) ≡ []) (sym own) g.0))
    by_case false i h =
        ap (λ b. cond b (first_key (others u.0 (first_of_rows (us ++ y ∷ vs)))) (key_after (same k) (others u.0 (first_of_rows (us ++ y ∷ vs))))) i
        ∙ after_others u.0 k i (us ++ y ∷ vs) g.0 ∙ h

pub before_grouped : (start : Option Elem) (k : Elem) (us : List Cell) (y : Cell) (vs : List Cell) → same k y.0 ≡ true → row k us ≡ [] → IsGrouped (us ++ y ∷ vs) → key_before_or start (same k) (first_of_rows (us ++ y ∷ vs)) ≡ last_key_or start us
before_grouped start k [] y vs t e g = ap (λ b. cond b start (key_before_or (Some y.0) (same k) (others y.0 (first_of_rows vs)))) t
before_grouped start k (u ∷ us) y vs t e g = by_case (same k u.0) refl (λ f. before_grouped (Some u.0) k us y vs t f g.1) e
  where
    by_case : (b : Bool) → same k u.0 ≡ b → (row k us ≡ [] → key_before_or (Some u.0) (same k) (first_of_rows (us ++ y ∷ vs)) ≡ last_key_or (Some u.0) us) → cond b (u.1 ∷ row k us) (row k us) ≡ []
        → cond (same k u.0) start (key_before_or (Some u.0) (same k) (others u.0 (first_of_rows (us ++ y ∷ vs)))) ≡ last_key_or (Some u.0) us
    by_case true i h f = absurd (cc)
    by_case false i h f = ap (λ b. cond b start (key_before_or (Some u.0) (same k) (others u.0 (first_of_rows (us ++ y ∷ vs))))) i ∙ before_others u.0 k i (us ++ y ∷ vs) g.0 ∙ h f
