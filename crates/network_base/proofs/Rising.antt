-- Numbers that rise tell which of two rows comes first.
use Rattle.std.proofs.Common.{◌≡◌, ◌<◌, ◌≤◌, ℕ, zero, suc, Bool, true, false, List, [], ◌∷◌, Some, nat_lt, refl, sym, ap, ◌∙◌, subst, arith, slice_get}
use Rattle.std.specs.Prelude.{MatchBool}
use Rattle.std.specs.List.{AllByRecursion}
use Rattle.std.proofs.lemmas.Bool.Decides.{nat_tests}
use Rattle.network_base.specs.NamedEdges.{Named, IsRising}

all_nth : (P : Named → Type 0) (rows : List Named) (k : ℕ) (r : Named) → AllByRecursion P rows → slice_get rows k ≡ Some r → P r
all_nth P [] k r h e = absurd (cc)
all_nth P (s ∷ rows) zero r h e = let equal : s ≡ r = cc in subst P equal h.0
all_nth P (s ∷ rows) (suc k) r h e = all_nth P rows k r h.1 e

rising_at : (rows : List Named) (i j : ℕ) (r s : Named) → IsRising rows → slice_get rows i ≡ Some r → slice_get rows j ≡ Some s → i < j → r.1.number < s.1.number
rising_at [] i j r s h e f l = absurd (cc)
rising_at (t ∷ rows) zero zero r s h e f l = absurd (omega arith)
rising_at (t ∷ rows) zero (suc j) r s h e f l = let equal : t ≡ r = cc in subst (λ (x : Named). x.1.number < s.1.number) equal (all_nth (λ (later : Named). t.1.number < later.1.number) rows j s h.0 f)
rising_at (t ∷ rows) (suc i) zero r s h e f l = absurd (omega arith)
rising_at (t ∷ rows) (suc i) (suc j) r s h e f l = rising_at rows i j r s h.1 e f (omega arith)

equal_at : (rows : List Named) (i j : ℕ) (r s : Named) → slice_get rows i ≡ Some r → slice_get rows j ≡ Some s → i ≡ j → r.1.number ≡ s.1.number
equal_at rows i j r s e f l = let whole = sym e ∙ ap (slice_get rows) l ∙ f in let equal : r ≡ s = cc in ap (λ (x : Named). x.1.number) equal

pub test_true : (m n : ℕ) → nat_lt m n ≡ true → m < n
test_true m n e = grind (arith, nat_tests)

pub test_false : (m n : ℕ) → nat_lt m n ≡ false → n ≤ m
test_false m n e = grind (arith, nat_tests)

pub numbers_tell : (rows : List Named) (i j : ℕ) (r s : Named) → IsRising rows → slice_get rows i ≡ Some r → slice_get rows j ≡ Some s → MatchBool (nat_lt r.1.number s.1.number) (i < j) (j ≤ i)
numbers_tell rows i j r s h e f = by_case (nat_lt r.1.number s.1.number) refl
  where
    by_case : (b : Bool) → nat_lt r.1.number s.1.number ≡ b → MatchBool b (i < j) (j ≤ i)
    by_case true t = by_order (nat_lt i j) (nat_lt j i) refl refl
      where
        less : r.1.number < s.1.number
        less = test_true r.1.number s.1.number t

        by_order : (a b : Bool) → nat_lt i j ≡ a → nat_lt j i ≡ b → i < j
        by_order true b u v = test_true i j u
        by_order false true u v = let turned = rising_at rows j i s r h f e (test_true j i v) in absurd (omega (arith, less))
        by_order false false u v =
            let up = test_false i j u in
            let down = test_false j i v in
            let equal = equal_at rows i j r s e f (omega arith) in
            absurd (omega (arith, less))
    by_case false t = by_order (nat_lt i j) refl
      where
        more : s.1.number ≤ r.1.number
        more = test_false r.1.number s.1.number t

        by_order : (a : Bool) → nat_lt i j ≡ a → j ≤ i
        by_order true u = let along = rising_at rows i j r s h e f (test_true i j u) in absurd (omega (arith, more))
        by_order false u = test_false i j u
