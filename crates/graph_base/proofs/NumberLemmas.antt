-- Two places have two numbers.
use Rattle.std.proofs.Common.{◌≡◌, ◌≢◌, ℕ, ◌-◌, Bool, true, false, cond, refl, ap, arith}
use Rattle.std.specs.Prelude.{pos, negsuc, ℤ, nat_lt}
use Rattle.elem.specs.declared.elements.Elem.{Elem}
use Rattle.elem.specs.declared.elements.Elem.TheVariants.{Int}
use Rattle.elem.specs.Elements.{same}
use Rattle.elem.specs.ElementLaws.{same-Decides}
use Rattle.graph_base.specs.Numbers.{number}

abbrev int_of : Elem → ℤ
int_of (Int n) = n
int_of _ = pos 0

abbrev natural_of : ℤ → ℕ
natural_of (pos n) = n
natural_of (negsuc n) = n

abbrev is_negative : ℤ → Bool
is_negative (pos n) = false
is_negative (negsuc n) = true

number_same : (p q : ℕ) → number p ≡ number q → p ≡ q
number_same p q e = by_case (nat_lt p 9223372036854775808) (nat_lt q 9223372036854775808) refl refl e
  where
    by_case : (s t : Bool) → nat_lt p 9223372036854775808 ≡ s → nat_lt q 9223372036854775808 ≡ t → cond s (Int (pos p)) (Int (negsuc (p - 9223372036854775808))) ≡ cond t (Int (pos q)) (Int (negsuc (q - 9223372036854775808))) → p ≡ q
    by_case true true f g h = ap (λ x. natural_of (int_of x)) h
    by_case true false f g h = let both = ap (λ x. is_negative (int_of x)) h in absurd (cc)
    by_case false true f g h = let both = ap (λ x. is_negative (int_of x)) h in absurd (cc)
    by_case false false f g h = let equal = ap (λ x. natural_of (int_of x)) h in grind (arith, f, g, equal)

pub number_differs : (p q : ℕ) → p ≢ q → same (number p) (number q) ≡ false
number_differs p q d = by_case (same (number p) (number q)) refl
  where
    by_case : (t : Bool) → same (number p) (number q) ≡ t → t ≡ false
    by_case true e = absurd (d (number_same p q ((same-Decides (number p) (number q)).0 e)))
    by_case false e = refl
