-- A walk along a list that counts what passes a test.
use Rattle.std.proofs.Common.{◌≡◌, ◌≤◌, ◌+◌, ◌-◌, ℕ, zero, suc, Bool, true, false, cond, List, [], ◌∷◌, length, drop, Option, Some, None, refl, sym, ap, ◌∙◌, arith, slice_get, add-one}
use Rattle.std.specs.List.{filter}

pub counted_down : (m n : ℕ) → (m ≡ 0 → ⊥) → n ≡ m - 1 → n + 1 ≡ m
counted_down m n some less = omega arith

module _ {X : Type 0} where
  drop_at : (xs : List X) (n : ℕ) (x : X) → slice_get xs n ≡ Some x → drop n xs ≡ x ∷ drop (suc n) xs
  drop_at [] n x e = absurd (cc)
  drop_at (y ∷ xs) zero x e = let equal : y ≡ x = cc in ap (λ z. z ∷ xs) equal
  drop_at (y ∷ xs) (suc n) x e = drop_at xs n x e

  drop_none : (xs : List X) (n : ℕ) → slice_get xs n ≡ None → drop n xs ≡ []
  drop_none [] zero e = refl
  drop_none [] (suc n) e = refl
  drop_none (y ∷ xs) zero e = absurd (cc)
  drop_none (y ∷ xs) (suc n) e = drop_none xs n e

  none_beyond : (xs : List X) (n : ℕ) → length xs ≤ n → slice_get xs n ≡ None
  none_beyond [] n h = refl
  none_beyond (y ∷ xs) zero h = absurd (omega arith)
  none_beyond (y ∷ xs) (suc n) h = none_beyond xs n (omega arith)

  -- those that pass a narrower test are among those that pass a wider one
  pub filter_within : (narrow wide : X → Bool) → ((x : X) → narrow x ≡ true → wide x ≡ true) → (xs : List X) → filter narrow (filter wide xs) ≡ filter narrow xs
  filter_within narrow wide h [] = refl
  filter_within narrow wide h (x ∷ xs) = by_case (wide x) (narrow x) refl refl (filter_within narrow wide h xs)
    where
      by_case : (w t : Bool) → wide x ≡ w → narrow x ≡ t → filter narrow (filter wide xs) ≡ filter narrow xs → filter narrow (cond w (x ∷ filter wide xs) (filter wide xs)) ≡ cond t (x ∷ filter narrow xs) (filter narrow xs)
      by_case true t p q e = (λ i. cond (q i) (x ∷ e i) (e i))
      by_case false true p q e = let both = sym p ∙ h x q in absurd (cc)
      by_case false false p q e = e

module _ {X : Type 0} (test : X → Bool) where
  -- what passes stands among those that pass
  pub some_among : (xs : List X) (k : ℕ) (x : X) → slice_get xs k ≡ Some x → test x ≡ true → (m : ℕ) × (slice_get (filter test xs) m ≡ Some x)
  some_among [] k x e t = absurd (cc)
  some_among (y ∷ xs) zero x e t = let equal : y ≡ x = cc in (0, ap (λ b. slice_get (cond b (y ∷ filter test xs) (filter test xs)) 0) (ap test equal ∙ t) ∙ ap Some equal)
  some_among (y ∷ xs) (suc k) x e t = by_case (test y) (some_among xs k x e t)
    where
      by_case : (b : Bool) → (m : ℕ) × (slice_get (filter test xs) m ≡ Some x) → (m : ℕ) × (slice_get (cond b (y ∷ filter test xs) (filter test xs)) m ≡ Some x)
      by_case true c = (suc c.0, c.1)
      by_case false c = c

  -- and was there before
  pub some_before : (xs : List X) (k : ℕ) (x : X) → slice_get (filter test xs) k ≡ Some x → (m : ℕ) × (slice_get xs m ≡ Some x)
  some_before [] k x e = absurd (cc)
  some_before (y ∷ xs) k x e = by_case (test y) k e (some_before xs)
    where
      later : (m : ℕ) × (slice_get xs m ≡ Some x) → (m : ℕ) × (slice_get (y ∷ xs) m ≡ Some x)
      later c = (suc c.0, c.1)

      by_case : (b : Bool) (j : ℕ) → slice_get (cond b (y ∷ filter test xs) (filter test xs)) j ≡ Some x → ((n : ℕ) (z : X) → slice_get (filter test xs) n ≡ Some z → (m : ℕ) × (slice_get xs m ≡ Some z)) → (m : ℕ) × (slice_get (y ∷ xs) m ≡ Some x)
      by_case true zero f rest = (0, f)
      by_case true (suc j) f rest = later (rest j x f)
      by_case false j f rest = later (rest j x f)

module _ {X : Type 0} (test : X → Bool) (xs : List X) (target : Option X) where
  -- the walk stands at number n, and of what passes from there on, number `left` is looked for
  pub record IsWalking (n : ℕ) (at : Option X) (left : ℕ) : Type 0 where
    pub here : at ≡ slice_get xs n
    pub rest : slice_get (filter test (drop n xs)) left ≡ target

  module _ (n : ℕ) (at : Option X) (left : ℕ) (w : IsWalking n at left) where
    pub walk_over : at ≡ None → None ≡ target
    walk_over e = sym (ap (λ l. slice_get (filter test l) left) (drop_none xs n (sym w.here ∙ e))) ∙ w.rest

    pub walk_end : length xs ≤ n → None ≡ target
    walk_end h = walk_over (w.here ∙ none_beyond xs n h)

    module _ (x : X) (e : at ≡ Some x) where
      split : (t : Bool) → test x ≡ t → slice_get (cond t (x ∷ filter test (drop (suc n) xs)) (filter test (drop (suc n) xs))) left ≡ target
      split t p = ap (λ b. slice_get (cond b (x ∷ filter test (drop (suc n) xs)) (filter test (drop (suc n) xs))) left) (sym p) ∙ sym (ap (λ l. slice_get (filter test l) left) (drop_at xs n x (sym w.here ∙ e))) ∙ w.rest

      pub walk_found : test x ≡ true → left ≡ 0 → Some x ≡ target
      walk_found t z = ap (λ m. slice_get (x ∷ filter test (drop (suc n) xs)) m) (sym z) ∙ split true t

      pub walk_counted : test x ≡ true → (fewer : ℕ) → fewer + 1 ≡ left → (next : Option X) → next ≡ slice_get xs (n + 1) → IsWalking (n + 1) next fewer
      walk_counted t fewer m next h = record {
        here = h;
        rest = ap (λ k. slice_get (filter test (drop k xs)) fewer) (add-one n) ∙ ap (λ k. slice_get (x ∷ filter test (drop (suc n) xs)) k) (sym (add-one fewer) ∙ m) ∙ split true t;
      }

      pub walk_passed : test x ≡ false → (next : Option X) → next ≡ slice_get xs (n + 1) → IsWalking (n + 1) next left
      walk_passed t next h = record {
        here = h;
        rest = ap (λ k. slice_get (filter test (drop k xs)) left) (add-one n) ∙ split false t;
      }

  -- the same walk, that has come at least as far as it took steps
  pub record IsOnward (taken : ℕ) (at : Option X) : Type 0 where
    pub number : ℕ
    pub far : taken ≤ number
    pub walking : IsWalking number at 0
