-- The cells at places: those of a row, those seen from the other side, and the list cut at one of them.
use Rattle.std.proofs.Common.{◌≡◌, ℕ, Bool, true, false, cond, List, [], ◌∷◌, ◌++◌, Option, Some, None, refl, sym, ap, ◌∙◌}
use Rattle.std.specs.Option.{option_map}
use Rattle.std.specs.List.{filter, cons_option}
use Rattle.elem.specs.declared.elements.Elem.{Elem}
use Rattle.elem.specs.Elements.{same}
use Rattle.linked_base.specs.Group.{has, of_key}
use Rattle.linked_base.specs.Places.{rows_of}
use Rattle.linked_base.proofs.PlacesLemmas.{rows-cons}
use Rattle.table_base.specs.Cells.{Cell, row, turned, transposed}

module _ (core : ℕ → Option Cell) (key : ℕ → Option Elem) (rest : ℕ → Option (Elem × Elem)) (keys : (p : ℕ) → key p ≡ option_map (λ (x : Cell). x.0) (core p)) (rests : (p : ℕ) → rest p ≡ option_map (λ (x : Cell). x.1) (core p)) where
  -- a row is what the places of the row have
  pub row_read : (k : Elem) (ps : List ℕ) → row k (rows_of core ps) ≡ rows_of rest (of_key key k ps)
  row_read k [] = refl
  row_read k (p ∷ ps) = split (core p) refl (row_read k ps)
    where
      by_case : (c : Cell) → rest p ≡ Some c.1 → (b : Bool) → row k (rows_of core ps) ≡ rows_of rest (of_key key k ps) → cond b (c.1 ∷ row k (rows_of core ps)) (row k (rows_of core ps)) ≡ rows_of rest (cond b (p ∷ of_key key k ps) (of_key key k ps))
      by_case c e true r = ap (λ l. c.1 ∷ l) r ∙ sym (rows-cons rest p (of_key key k ps) c.1 e)
      by_case c e false r = r

      split : (o : Option Cell) → core p ≡ o → row k (rows_of core ps) ≡ rows_of rest (of_key key k ps) → row k (cons_option (core p) (rows_of core ps)) ≡ rows_of rest (cond (has k (key p)) (p ∷ of_key key k ps) (of_key key k ps))
      split None e r =
          ap (λ x. row k (cons_option x (rows_of core ps))) e ∙ r
          ∙ sym (ap (λ o. rows_of rest (cond (has k o) (p ∷ of_key key k ps) (of_key key k ps))) (keys p ∙ ap (option_map (λ (x : Cell). x.0)) e))
      split (Some c) e r =
          ap (λ x. row k (cons_option x (rows_of core ps))) e ∙ by_case c (rests p ∙ ap (option_map (λ (x : Cell). x.1)) e) (same k c.0) r
          ∙ sym (ap (λ o. rows_of rest (cond (has k o) (p ∷ of_key key k ps) (of_key key k ps))) (keys p ∙ ap (option_map (λ (x : Cell). x.0)) e))

module _ (core other : ℕ → Option Cell) (turns : (p : ℕ) → other p ≡ option_map turned (core p)) where
  pub transposed_read : (ps : List ℕ) → transposed (rows_of core ps) ≡ rows_of other ps
  transposed_read [] = refl
  transposed_read (p ∷ ps) = split (core p) refl (transposed_read ps)
    where
      split : (o : Option Cell) → core p ≡ o → transposed (rows_of core ps) ≡ rows_of other ps → transposed (cons_option (core p) (rows_of core ps)) ≡ cons_option (other p) (rows_of other ps)
      split None e r = ap (λ x. transposed (cons_option x (rows_of core ps))) e ∙ r ∙ sym (ap (λ x. cons_option x (rows_of other ps)) (turns p ∙ ap (option_map turned) e))
      split (Some c) e r =
          ap (λ x. transposed (cons_option x (rows_of core ps))) e ∙ ap (λ l. turned c ∷ l) r ∙ sym (ap (λ x. cons_option x (rows_of other ps)) (turns p ∙ ap (option_map turned) e))

-- a list is cut where the list of those that pass is cut
pub record IsCutAt (test : ℕ → Bool) (ps us : List ℕ) (p : ℕ) (vs : List ℕ) : Type 0 where
  pub before : List ℕ
  pub after : List ℕ
  pub places : ps ≡ before ++ p ∷ after
  pub front : filter test before ≡ us
  pub back : filter test after ≡ vs
  pub passes : test p ≡ true

no_cut : (us : List ℕ) (p : ℕ) (vs : List ℕ) → [] ≡ us ++ p ∷ vs → ⊥
no_cut [] p vs e = cc
no_cut (u ∷ us) p vs e = cc

pub filter_cut : (test : ℕ → Bool) (ps us : List ℕ) (p : ℕ) (vs : List ℕ) → filter test ps ≡ us ++ p ∷ vs → IsCutAt test ps us p vs
filter_cut test [] us p vs e = absurd (no_cut us p vs e)
filter_cut test (x ∷ ps) us p vs e = split (test x) refl (λ ws. filter_cut test ps ws p vs) us e
  where
    later : (IsCutAt test ps us p vs) → test x ≡ false → IsCutAt test (x ∷ ps) us p vs
    later c t = record {
      before = x ∷ c.before;
      after = c.after;
      places = ap (λ l. x ∷ l) c.places;
      front = ap (λ b. cond b (x ∷ filter test c.before) (filter test c.before)) t ∙ c.front;
      back = c.back;
      passes = c.passes;
    }

    split : (b : Bool) → test x ≡ b → ((ws : List ℕ) → filter test ps ≡ ws ++ p ∷ vs → IsCutAt test ps ws p vs) → (ws : List ℕ) → cond b (x ∷ filter test ps) (filter test ps) ≡ ws ++ p ∷ vs → IsCutAt test (x ∷ ps) ws p vs
    split true t rest [] f =
        let equal : x ≡ p = cc in
        let tail : filter test ps ≡ vs = cc in
        record { before = []; after = ps; places = ap (λ y. y ∷ ps) equal; front = refl; back = tail; passes = ap test (sym equal) ∙ t }
    split true t rest (w ∷ ws) f =
        let equal : x ≡ w = cc in
        let c = rest ws (cc) in
        record {
          before = x ∷ c.before;
          after = c.after;
          places = ap (λ l. x ∷ l) c.places;
          front = ap (λ b. cond b (x ∷ filter test c.before) (filter test c.before)) t ∙ (λ i. equal i ∷ c.front i);
          back = c.back;
          passes = c.passes;
        }
    split false t rest ws f =
        let c = rest ws f in
        record {
          before = x ∷ c.before;
          after = c.after;
          places = ap (λ l. x ∷ l) c.places;
          front = ap (λ b. cond b (x ∷ filter test c.before) (filter test c.before)) t ∙ c.front;
          back = c.back;
          passes = c.passes;
        }
