-- A walk along a list of places to one that passes a test, forwards and backwards.
use Rattle.std.proofs.Common.{◌≡◌, ℕ, ◌+◌, ◌≤◌, Bool, true, false, cond, List, [], ◌∷◌, ◌++◌, length, Option, Some, None, refl, sym, ap, ◌∙◌, arith, length-append, append-nil, append_assoc}
use Rattle.std.specs.List.{filter}
use Rattle.std.proofs.lemmas.List.Elements.{filter-append}
use Rattle.linked_base.specs.Thread.{head_or, last_or}
use Rattle.linked_base.proofs.ThreadLemmas.{last_or-append}

pub split_head : (vs : List ℕ) (p : ℕ) → head_or None vs ≡ Some p → (ws : List ℕ) × (vs ≡ p ∷ ws)
split_head [] p e = absurd (cc)
split_head (q ∷ vs) p e = let equal : q ≡ p = cc in (vs, ap (λ x. x ∷ vs) equal)

pub no_head : (vs : List ℕ) → head_or None vs ≡ None → vs ≡ []
no_head [] e = refl
no_head (q ∷ vs) e = absurd (cc)

split_last_of : (q : ℕ) (us : List ℕ) (p : ℕ) → last_or (Some q) us ≡ Some p → (ws : List ℕ) × (q ∷ us ≡ ws ++ p ∷ [])
split_last_of q [] p e = let equal : q ≡ p = cc in ([], ap (λ x. x ∷ []) equal)
split_last_of q (r ∷ us) p e = let rest = split_last_of r us p e in (q ∷ rest.0, ap (λ l. q ∷ l) rest.1)

pub split_last : (us : List ℕ) (p : ℕ) → last_or None us ≡ Some p → (ws : List ℕ) × (us ≡ ws ++ p ∷ [])
split_last [] p e = absurd (cc)
split_last (q ∷ us) p e = split_last_of q us p e

last_there : (q : ℕ) (us : List ℕ) → last_or (Some q) us ≡ None → us ≡ []
last_there q [] e = refl
last_there q (r ∷ us) e = absurd (let f = last_there r us e in let g : last_or (Some r) [] ≡ None = ap (last_or (Some r)) (sym f) ∙ e in cc)

pub no_last : (us : List ℕ) → last_or None us ≡ None → us ≡ []
no_last [] e = refl
no_last (q ∷ us) e = absurd (let f = last_there q us e in let g : last_or (Some q) [] ≡ None = ap (last_or (Some q)) (sym f) ∙ e in cc)

module _ (test : ℕ → Bool) where
  -- n places were passed by, and none of them passes the test
  pub record WalkedOn (vs : List ℕ) (at : Option ℕ) (n : ℕ) : Type 0 where
    pub passed : List ℕ
    pub left : List ℕ
    pub cut : vs ≡ passed ++ left
    pub here : at ≡ head_or None left
    pub none : filter test passed ≡ []
    pub count : length passed ≡ n

  pub on_start : (vs : List ℕ) (at : Option ℕ) → at ≡ head_or None vs → WalkedOn vs at 0
  on_start vs at e = record { passed = []; left = vs; cut = refl; here = e; none = refl; count = refl }

  module _ (vs : List ℕ) (at : Option ℕ) (n : ℕ) (w : WalkedOn vs at n) where
    left_found : filter test vs ≡ filter test w.left
    left_found = ap (filter test) w.cut ∙ filter-append test w.passed w.left ∙ ap (λ l. l ++ filter test w.left) w.none

    module _ (p : ℕ) (e : at ≡ Some p) where
      pub on_split : (ws : List ℕ) × (w.left ≡ p ∷ ws)
      on_split = split_head w.left p (sym w.here ∙ e)

      pub on_cut : vs ≡ w.passed ++ p ∷ on_split.0
      on_cut = w.cut ∙ ap (λ l. w.passed ++ l) on_split.1

      pub on_next : test p ≡ false → (next : Option ℕ) → next ≡ head_or None on_split.0 → WalkedOn vs next (n + 1)
      on_next f next g = record {
        passed = w.passed ++ p ∷ [];
        left = on_split.0;
        cut = on_cut ∙ sym (append_assoc w.passed (p ∷ []) on_split.0);
        here = g;
        none = filter-append test w.passed (p ∷ []) ∙ (λ i. w.none i ++ cond (f i) (p ∷ []) []);
        count = let c = w.count in omega (arith, length-append w.passed (p ∷ []));
      }

      pub on_here : test p ≡ true → head_or None (filter test vs) ≡ Some p
      on_here t = ap (head_or None) (left_found ∙ ap (filter test) on_split.1 ∙ ap (λ b. cond b (p ∷ filter test on_split.0) (filter test on_split.0)) t)

    pub on_none : at ≡ None → head_or None (filter test vs) ≡ None
    on_none e = ap (head_or None) (left_found ∙ ap (filter test) (no_head w.left (sym w.here ∙ e)))

    pub on_end : length vs ≤ n → head_or None (filter test vs) ≡ None
    on_end l = ap (head_or None) (left_found ∙ ap (filter test) (nothing w.left (let whole = ap length w.cut ∙ length-append w.passed w.left in let c = w.count in omega arith)))
      where
        nothing : (xs : List ℕ) → length xs ≡ 0 → xs ≡ []
        nothing [] e = refl
        nothing (x ∷ xs) e = absurd (omega arith)

  -- the same backwards
  pub record WalkedBack (us : List ℕ) (at : Option ℕ) (n : ℕ) : Type 0 where
    pub left : List ℕ
    pub passed : List ℕ
    pub cut : us ≡ left ++ passed
    pub here : at ≡ last_or None left
    pub none : filter test passed ≡ []
    pub count : length passed ≡ n

  pub back_start : (us : List ℕ) (at : Option ℕ) → at ≡ last_or None us → WalkedBack us at 0
  back_start us at e = record { left = us; passed = []; cut = sym (append-nil us); here = e; none = refl; count = refl }

  module _ (us : List ℕ) (at : Option ℕ) (n : ℕ) (w : WalkedBack us at n) where
    front_found : filter test us ≡ filter test w.left
    front_found = ap (filter test) w.cut ∙ filter-append test w.left w.passed ∙ ap (λ l. filter test w.left ++ l) w.none ∙ append-nil (filter test w.left)

    module _ (p : ℕ) (e : at ≡ Some p) where
      pub back_split : (ws : List ℕ) × (w.left ≡ ws ++ p ∷ [])
      back_split = split_last w.left p (sym w.here ∙ e)

      pub back_cut : us ≡ back_split.0 ++ p ∷ w.passed
      back_cut = w.cut ∙ ap (λ l. l ++ w.passed) back_split.1 ∙ append_assoc back_split.0 (p ∷ []) w.passed

      pub back_next : test p ≡ false → (next : Option ℕ) → next ≡ last_or None back_split.0 → WalkedBack us next (n + 1)
      back_next f next g = record {
        left = back_split.0;
        passed = p ∷ w.passed;
        cut = back_cut;
        here = g;
        none = ap (λ b. cond b (p ∷ filter test w.passed) (filter test w.passed)) f ∙ w.none;
        count = let c = w.count in omega arith;
      }

      pub back_here : test p ≡ true → last_or None (filter test us) ≡ Some p
      back_here t =
          ap (last_or None) (front_found ∙ ap (filter test) back_split.1 ∙ filter-append test back_split.0 (p ∷ []) ∙ ap (λ b. filter test back_split.0 ++ cond b (p ∷ []) []) t)
          ∙ last_or-append None (filter test back_split.0) (p ∷ [])

    pub back_none : at ≡ None → last_or None (filter test us) ≡ None
    back_none e = ap (last_or None) (front_found ∙ ap (filter test) (no_last w.left (sym w.here ∙ e)))

    pub back_end : length us ≤ n → last_or None (filter test us) ≡ None
    back_end l = ap (last_or None) (front_found ∙ ap (filter test) (nothing w.left (let whole = ap length w.cut ∙ length-append w.left w.passed in let c = w.count in omega arith)))
      where
        nothing : (xs : List ℕ) → length xs ≡ 0 → xs ≡ []
        nothing [] e = refl
        nothing (x ∷ xs) e = absurd (omega arith)
