-- The number of members below a rank, and the members in their order.
use Rattle.std.proofs.Common.{◌≡◌, ℕ, zero, suc, ◌+◌, ◌-◌, ◌<◌, ◌≤◌, min, Bool, true, false, cond, inl, inr, List, [], ◌∷◌, Option, Some, None, refl, ap, ◌∙◌, arith}
use Rattle.std.specs.Prelude.{nat_lt, is_some, ⊤}
use Rattle.std.proofs.lemmas.Bool.{cases_lt}
use Rattle.std.proofs.lemmas.Bool.Decides.{nat_tests}
use Rattle.range_base.specs.Rows.{Row, in_units, cover, IsSpaced}
use Rattle.range_base.proofs.UnitLaws.{cover-before}
use Rattle.discrete_set.specs.Runs.{has, count_below, IsItem, item}

pub count_below-empty : (n : ℕ) → count_below [] n ≡ 0
unfolding count_below
count_below-empty zero = refl
count_below-empty (suc n) = rw (count_below-empty n) refl

pub count_below-before : (c : ℕ) (rs : List (Row ⊤)) (n : ℕ) → IsSpaced 1 c rs → n ≤ c → count_below rs n ≡ 0
unfolding count_below
count_below-before c rs zero s h = refl
count_below-before c rs (suc n) s h =
    let none = cover-before 1 c n rs (omega arith) s in
    rw (count_below-before c rs n s (omega arith), none) refl

pub count_below-cons : (c : ℕ) (r : Row ⊤) (rs : List (Row ⊤)) → IsSpaced 1 c (r ∷ rs) → (n : ℕ) → count_below (r ∷ rs) n ≡ (min n r.1.end - r.0) + count_below rs n
unfolding count_below
count_below-cons c r rs s zero = omega arith
count_below-cons c r rs s (suc n) = rw (count_below-cons c r rs s n) (by (in_units r.0 r.1.end n) (cover rs n) refl (λ lt. cover-before 1 (r.1.end + 1) n rs (omega (arith, lt)) s.2))
  where
    by : (b : Bool) (o : Option ⊤) → in_units r.0 r.1.end n ≡ b → (n < r.1.end → o ≡ None) → ((min n r.1.end - r.0) + count_below rs n) + cond (is_some (cond b (Some r.1.value) o)) 1 0 ≡ (min (suc n) r.1.end - r.0) + (count_below rs n + cond (is_some o) 1 0)
    by true None e late = grind (arith, nat_tests)
    by true (Some x) e late = absurd (let lt : n < r.1.end = grind (arith, nat_tests) in let none = late lt in cc)
    by false None e late = grind (arith, nat_tests, s.1)
    by false (Some x) e late = elim (cases_lt n r.1.end) [
      | inl lt ↦ absurd (let none = late lt in cc)
      | inr le ↦ (let same : min n r.1.end ≡ min (suc n) r.1.end = omega arith in omega arith)
    ]

-- a member of the rows behind a row lies behind it
behind : (c n : ℕ) (rs : List (Row ⊤)) → IsSpaced 1 c rs → has rs n ≡ true → c ≤ n
behind c n rs s h = elim (cases_lt n c) [
  | inl lt ↦ absurd (let none = ap is_some (cover-before 1 c n rs lt s) in cc)
  | inr le ↦ le
]

pub item_is : (c : ℕ) (rs : List (Row ⊤)) → IsSpaced 1 c rs → (i n : ℕ) → item rs i ≡ Some n → IsItem rs i n
item_is c [] s i n e = cc
item_is c (r ∷ rs) s i n e = by (item_is (r.1.end + 1) rs s.2 (i - (r.1.end - r.0)) n) (nat_lt i (r.1.end - r.0)) refl e
  where
    by : (item rs (i - (r.1.end - r.0)) ≡ Some n → IsItem rs (i - (r.1.end - r.0)) n) → (b : Bool) → nat_lt i (r.1.end - r.0) ≡ b → cond b (Some (r.0 + i)) (item rs (i - (r.1.end - r.0))) ≡ Some n → IsItem (r ∷ rs) i n
    by later true t e =
        let at : r.0 + i ≡ n = grind arith in
        let inside : in_units r.0 r.1.end n ≡ true = grind (arith, nat_tests) in
        let none = count_below-before (r.1.end + 1) rs n s.2 (grind (arith, nat_tests)) in
        record {
          member = rw inside refl;
          below = count_below-cons c r rs s n ∙ (rw none (grind (arith, nat_tests)));
        }
    by later false t e =
        let rest = later e in
        let after = behind (r.1.end + 1) n rs s.2 rest.member in
        let outside : in_units r.0 r.1.end n ≡ false = grind (arith, nat_tests) in
        record {
          member = rw outside rest.member;
          below = count_below-cons c r rs s n ∙ (rw rest.below (grind (arith, nat_tests, s.1)));
        }
