-- What the new count of one element makes of the counts and of their sum.
use Rattle.std.proofs.Common.{◌≡◌, ℕ, zero, suc, ◌+◌, ◌*◌, ◌<◌, ◌≤◌, Bool, true, false, cond, nat_eq, is_some, unwrap_or, List, [], ◌∷◌, length, Option, Some, None, refl, sym, ap, ◌∙◌, subst, arith}
use Rattle.std.specs.Prelude.{IsSome}
use Rattle.std.specs.List.{insert}
use Rattle.std.specs.Map.{lookup, remove_entry, set_value}
use Rattle.std.proofs.lemmas.Bool.Decides.{nat_tests}
use Rattle.std.proofs.lemmas.List.Sums.{sum_by-cons, sum_by-insert}
use Rattle.std.proofs.lemmas.Map.{lookup-insert, lookup-set_value, lookup-remove_entry, none_passes_from_lookup}
use Rattle.elem.specs.declared.elements.Elem.{Elem}
use Rattle.elem.specs.Elements.{same}
use Rattle.elem.specs.ElementLaws.{same-Decides, same_equiv}
use Rattle.elem.specs.Keyed.{value_at, HasDistinctKeys, with_value, without, AddsRow}
use Rattle.bag_base.specs.Counts.{most, count_of, with_count, SetsCount, AreCounts, total_of}

total-cons : (row : Elem × ℕ) (rows : List (Elem × ℕ)) → total_of (row ∷ rows) ≡ row.1 + total_of rows
total-cons row rows = sum_by-cons (λ (r : Elem × ℕ). r.1) row rows

-- each count is at most their sum, and the sum is bounded by their number
module _ (x : Elem) where
  pub count-le-most : (rows : List (Elem × ℕ)) → AreCounts rows → count_of rows x ≤ most
  count-le-most [] a = omega arith
  count-le-most (row ∷ rows) a = by (same x row.0) (count-le-most rows a.2)
    where
      by : (b : Bool) → count_of rows x ≤ most → unwrap_or (cond b (Some row.1) (value_at rows x)) 0 ≤ most
      by true h = a.1
      by false h = h

  pub count-le-total : (rows : List (Elem × ℕ)) → count_of rows x ≤ total_of rows
  count-le-total [] = omega arith
  count-le-total (row ∷ rows) = by (same x row.0) (count-le-total rows) (total-cons row rows)
    where
      by : (b : Bool) → count_of rows x ≤ total_of rows → total_of (row ∷ rows) ≡ row.1 + total_of rows → unwrap_or (cond b (Some row.1) (value_at rows x)) 0 ≤ total_of (row ∷ rows)
      by true h e = omega arith
      by false h e = omega arith

pub total-le : (rows : List (Elem × ℕ)) → AreCounts rows → total_of rows ≤ length rows * most
total-le [] a = omega arith
total-le (row ∷ rows) a = let e = total-cons row rows in let h = total-le rows a.2 in let p = a.1 in grind arith

-- a row taken out
module _ (test : Elem → Bool) where
  counts-without : (rows : List (Elem × ℕ)) → AreCounts rows → AreCounts (remove_entry test rows)
  counts-without [] a = tt
  counts-without (row ∷ rows) a = by (test row.0) (counts-without rows a.2)
    where
      by : (b : Bool) → AreCounts (remove_entry test rows) → AreCounts (cond b rows (row ∷ remove_entry test rows))
      by true h = a.2
      by false h = (a.0, a.1, h)

  total-without : (rows : List (Elem × ℕ)) → total_of (remove_entry test rows) + unwrap_or (lookup test rows) 0 ≡ total_of rows
  total-without [] = refl
  total-without (row ∷ rows) = by (test row.0) (total-without rows) (total-cons row rows) (total-cons row (remove_entry test rows))
    where
      by : (b : Bool) → total_of (remove_entry test rows) + unwrap_or (lookup test rows) 0 ≡ total_of rows → total_of (row ∷ rows) ≡ row.1 + total_of rows → total_of (row ∷ remove_entry test rows) ≡ row.1 + total_of (remove_entry test rows)
          → total_of (cond b rows (row ∷ remove_entry test rows)) + unwrap_or (cond b (Some row.1) (lookup test rows)) 0 ≡ total_of (row ∷ rows)
      by true h e f = omega arith
      by false h e f = omega arith

  -- a count written in its place
  counts-with : (n : ℕ) → 0 < n → n ≤ most → (rows : List (Elem × ℕ)) → AreCounts rows → AreCounts (set_value test rows n)
  counts-with n p q [] a = tt
  counts-with n p q (row ∷ rows) a = by (test row.0) (counts-with n p q rows a.2)
    where
      by : (b : Bool) → AreCounts (set_value test rows n) → AreCounts (cond b ((row.0, n) ∷ rows) (row ∷ set_value test rows n))
      by true h = (p, q, a.2)
      by false h = (a.0, a.1, h)

  total-with : (n c : ℕ) (rows : List (Elem × ℕ)) → lookup test rows ≡ Some c → total_of (set_value test rows n) + c ≡ total_of rows + n
  total-with n c [] e = cc
  total-with n c (row ∷ rows) e = by (test row.0) e (total-with n c rows) (total-cons row rows) (total-cons (row.0, n) rows) (total-cons row (set_value test rows n))
    where
      by : (b : Bool) → cond b (Some row.1) (lookup test rows) ≡ Some c → (lookup test rows ≡ Some c → total_of (set_value test rows n) + c ≡ total_of rows + n) → total_of (row ∷ rows) ≡ row.1 + total_of rows → total_of ((row.0, n) ∷ rows) ≡ n + total_of rows
          → total_of (row ∷ set_value test rows n) ≡ row.1 + total_of (set_value test rows n) → total_of (cond b ((row.0, n) ∷ rows) (row ∷ set_value test rows n)) + c ≡ total_of (row ∷ rows) + n
      by true e h p q r = let same_count : row.1 ≡ c = cc in omega arith
      by false e h p q r = let rest = h e in omega arith

  same_with : (n : ℕ) (rows : List (Elem × ℕ)) → lookup test rows ≡ Some n → set_value test rows n ≡ rows
  same_with n [] e = refl
  same_with n (row ∷ rows) e = by (test row.0) e (same_with n rows)
    where
      by : (b : Bool) → cond b (Some row.1) (lookup test rows) ≡ Some n → (lookup test rows ≡ Some n → set_value test rows n ≡ rows) → cond b ((row.0, n) ∷ rows) (row ∷ set_value test rows n) ≡ row ∷ rows
      by true e h = let same_count : row.1 ≡ n = cc in ap (λ m. (row.0, m) ∷ rows) (sym same_count)
      by false e h = ap (λ l. row ∷ l) (h e)

  same_without : (rows : List (Elem × ℕ)) → lookup test rows ≡ None → remove_entry test rows ≡ rows
  same_without [] e = refl
  same_without (row ∷ rows) e = by (test row.0) e (same_without rows)
    where
      by : (b : Bool) → cond b (Some row.1) (lookup test rows) ≡ None → (lookup test rows ≡ None → remove_entry test rows ≡ rows) → cond b rows (row ∷ remove_entry test rows) ≡ row ∷ rows
      by true e h = cc
      by false e h = ap (λ l. row ∷ l) (h e)

-- a row put in
counts-insert : (rows : List (Elem × ℕ)) (i : ℕ) (x : Elem) (n : ℕ) → 0 < n → n ≤ most → AreCounts rows → AreCounts (insert rows i (x, n))
counts-insert [] zero x n p q a = (p, q, tt)
counts-insert [] (suc i) x n p q a = (p, q, tt)
counts-insert (row ∷ rows) zero x n p q a = (p, q, a)
counts-insert (row ∷ rows) (suc i) x n p q a = (a.0, a.1, counts-insert rows i x n p q a.2)

positive : (n : ℕ) → nat_eq n 0 ≡ false → 0 < n
positive n e = grind (arith, nat_tests)

is_zero : (n : ℕ) → nat_eq n 0 ≡ true → n ≡ 0
is_zero n e = grind (arith, nat_tests)

module _ (inserted : List (Elem × ℕ) → Elem → ℕ → List (Elem × ℕ)) (adds : (old : List (Elem × ℕ)) (x : Elem) (n : ℕ) → AddsRow old (inserted old x n) x n) (rows : List (Elem × ℕ)) (x : Elem) (n : ℕ) where
  -- what holds of the three ways to write a count holds of the rows with that count
  by_cases : (P : List (Elem × ℕ) → Type 0) → (n ≡ 0 → P (without rows x)) → ((c : ℕ) → 0 < n → value_at rows x ≡ Some c → P (with_value rows x n)) → (0 < n → value_at rows x ≡ None → P (inserted rows x n)) → P (with_count inserted rows x n)
  by_cases P h0 h1 h2 = by (nat_eq n 0) refl (value_at rows x) refl
    where
      by : (b : Bool) → nat_eq n 0 ≡ b → (o : Option ℕ) → value_at rows x ≡ o → P (cond b (without rows x) (cond (is_some o) (with_value rows x n) (inserted rows x n)))
      by true e o f = h0 (is_zero n e)
      by false e None f = h2 (positive n e) f
      by false e (Some c) f = h1 c (positive n e) f

  pub counts-with_count : n ≤ most → AreCounts rows → AreCounts (with_count inserted rows x n)
  counts-with_count q a = by_cases AreCounts (λ e. counts-without (same x) rows a) (λ c p f. counts-with (same x) n p q rows a) (λ p f. (let i = adds rows x n in subst AreCounts (sym i.1) (counts-insert rows i.0 x n p q a)))

  pub total-with_count : total_of (with_count inserted rows x n) + count_of rows x ≡ total_of rows + n
  total-with_count = by_cases (λ l. total_of l + count_of rows x ≡ total_of rows + n) zeroed written put
    where
      zeroed : n ≡ 0 → total_of (without rows x) + count_of rows x ≡ total_of rows + n
      zeroed e = let t = total-without (same x) rows in omega arith

      written : (c : ℕ) → 0 < n → value_at rows x ≡ Some c → total_of (with_value rows x n) + count_of rows x ≡ total_of rows + n
      written c p f = let t = total-with (same x) n c rows f in let u : count_of rows x ≡ c = ap (λ o. unwrap_or o 0) f in omega arith

      put : 0 < n → value_at rows x ≡ None → total_of (inserted rows x n) + count_of rows x ≡ total_of rows + n
      put p f =
          let i = adds rows x n in
          let t : total_of (inserted rows x n) ≡ total_of rows + n = ap total_of i.1 ∙ sum_by-insert (λ (r : Elem × ℕ). r.1) rows i.0 (x, n) in
          let u : count_of rows x ≡ 0 = ap (λ o. unwrap_or o 0) f in
          omega arith

  one : (y z : Elem) → same x y ≡ true → same x z ≡ same y z
  one y z e = ap (λ w. same w z) ((same-Decides x y).0 e)

  pub sets-with_count : HasDistinctKeys rows → SetsCount rows (with_count inserted rows x n) x n
  sets-with_count d y = by_cases (λ l. count_of l y ≡ cond (same x y) n (count_of rows y)) zeroed written put
    where
      spread : (b : Bool) (o : Option ℕ) (m : ℕ) → unwrap_or (cond b (Some m) o) 0 ≡ cond b m (unwrap_or o 0)
      spread true o m = refl
      spread false o m = refl

      spread_none : (b : Bool) (o : Option ℕ) → unwrap_or (cond b None o) 0 ≡ cond b 0 (unwrap_or o 0)
      spread_none true o = refl
      spread_none false o = refl

      zeroed : n ≡ 0 → count_of (without rows x) y ≡ cond (same x y) n (count_of rows y)
      zeroed e = ap (λ o. unwrap_or o 0) (lookup-remove_entry same_equiv (same x) one y rows d) ∙ spread_none (same x y) (value_at rows y) ∙ ap (λ m. cond (same x y) m (count_of rows y)) (sym e)

      written : (c : ℕ) → 0 < n → value_at rows x ≡ Some c → count_of (with_value rows x n) y ≡ cond (same x y) n (count_of rows y)
      written c p f = ap (λ o. unwrap_or o 0) (lookup-set_value same_equiv (same x) one y n rows (subst IsSome (sym f) refl)) ∙ spread (same x y) (value_at rows y) n

      put : 0 < n → value_at rows x ≡ None → count_of (inserted rows x n) y ≡ cond (same x y) n (count_of rows y)
      put p f =
          let i = adds rows x n in
          ap (λ l. count_of l y) i.1 ∙ ap (λ o. unwrap_or o 0) (lookup-insert same_equiv x n y rows i.0 (none_passes_from_lookup (same x) rows f)) ∙ spread (same x y) (value_at rows y) n

  -- the count that is there changes nothing
  pub same_with_count : AreCounts rows → n ≡ count_of rows x → with_count inserted rows x n ≡ rows
  same_with_count a e = by_cases (λ l. l ≡ rows) zeroed written put
    where
      zeroed : n ≡ 0 → without rows x ≡ rows
      zeroed z = same_without (same x) rows (absent rows a (sym e ∙ z))
        where
          absent : (l : List (Elem × ℕ)) → AreCounts l → count_of l x ≡ 0 → value_at l x ≡ None
          absent [] b u = refl
          absent (row ∷ l) b u = by (same x row.0) u (absent l b.2)
            where
              by : (t : Bool) → unwrap_or (cond t (Some row.1) (value_at l x)) 0 ≡ 0 → (count_of l x ≡ 0 → value_at l x ≡ None) → cond t (Some row.1) (value_at l x) ≡ None
              by true u h = let p = b.0 in absurd (omega arith)
              by false u h = h u

      written : (c : ℕ) → 0 < n → value_at rows x ≡ Some c → with_value rows x n ≡ rows
      written c p f = let u : n ≡ c = e ∙ ap (λ o. unwrap_or o 0) f in same_with (same x) n rows (f ∙ ap Some (sym u))

      put : 0 < n → value_at rows x ≡ None → inserted rows x n ≡ rows
      put p f = let u : n ≡ 0 = e ∙ ap (λ o. unwrap_or o 0) f in absurd (omega arith)
