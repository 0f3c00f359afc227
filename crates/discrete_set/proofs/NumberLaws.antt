-- Numbers, their ranks, and the places of their units.
use Rattle.std.proofs.Common.{◌≡◌, ℕ, ℤ, pos, negsuc, ◌-◌, ◌^◌, ◌<◌, ◌≤◌, FitsSigned, inl, inr, ap, ◌∙◌, refl, arith}
use Rattle.std.specs.Prelude.{nat_lt, nat_le}
use Rattle.std.specs.Int.{w64}
use Rattle.std.proofs.lemmas.Int.{ints}
use Rattle.std.proofs.lemmas.Bool.{cases_lt}
use Rattle.std.proofs.lemmas.Bool.Decides.{nat_tests}
use Rattle.elem.specs.Places.{place_below}
use Rattle.range_base.specs.Rows.{in_units}
use Rattle.discrete_set.specs.Numbers.{rank, number, unit_at, numbers_below}

pub rank_bound : (v : ℤ) → FitsSigned w64 v → rank v < 2 ^ 64
rank_bound (pos n) f = grind (arith, nat_tests)
rank_bound (negsuc n) f = grind (arith, nat_tests)

pub place_below-rank : (v : ℤ) → FitsSigned w64 v → place_below v ≡ unit_at (rank v)
place_below-rank (pos n) f = omega arith
place_below-rank (negsuc n) f = grind (arith, nat_tests)

pub rank-number : (n : ℕ) → rank (number n) ≡ n
rank-number n = elim (cases_lt n (2 ^ 63)) [
  | inl lt ↦ (let e : number n ≡ negsuc (2 ^ 63 - 1 - n) = omega (arith, ints) in ap rank e ∙ omega arith)
  | inr le ↦ (let e : number n ≡ pos (n - 2 ^ 63) = omega (arith, ints) in ap rank e ∙ omega arith)
]

pub number-rank : (v : ℤ) → FitsSigned w64 v → number (rank v) ≡ v
number-rank (pos n) f = omega (arith, ints)
number-rank (negsuc n) f = grind (arith, ints)

pub number_apart : (m n : ℕ) → number m ≡ number n → m ≡ n
number_apart m n e = omega (arith, ints)

-- a unit lies below a place where its rank is below that place's number of numbers
pub unit_below : (n p : ℕ) → n < 2 ^ 64 → nat_lt (unit_at n) p ≡ nat_lt n (numbers_below p)
unit_below n p h = grind (arith, nat_tests)

pub unit_from : (n p : ℕ) → n < 2 ^ 64 → nat_le p (unit_at n) ≡ nat_le (numbers_below p) n
unit_from n p h = grind (arith, nat_tests)

pub in_units-unit_at : (lo hi n : ℕ) → n < 2 ^ 64 → in_units lo hi (unit_at n) ≡ in_units (numbers_below lo) (numbers_below hi) n
in_units-unit_at lo hi n h = rw (unit_from n lo h, unit_below n hi h) refl

pub numbers_below_more : (p q : ℕ) → p ≤ q → numbers_below p ≤ numbers_below q
numbers_below_more p q h = grind (arith, nat_tests)

pub number_fits : (n : ℕ) → n < 2 ^ 64 → FitsSigned w64 (number n)
number_fits n h = elim (cases_lt n (2 ^ 63)) [
  | inl lt ↦ (let e : number n ≡ negsuc (2 ^ 63 - 1 - n) = omega (arith, ints) in rw e (grind (arith, nat_tests)))
  | inr le ↦ (let e : number n ≡ pos (n - 2 ^ 63) = omega (arith, ints) in rw e (grind (arith, nat_tests)))
]
