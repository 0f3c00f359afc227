-- The places of cuts between whole numbers keep the order of the cuts.
use Rattle.std.proofs.Common.{FitsSigned, ◌≡◌, ◌≢◌, ℕ, ℤ, pos, negsuc, ◌+◌, ◌^◌, ◌<◌, ◌≤◌, Bool, true, false, not, cond, refl, sym, ap, ◌∙◌, arith}
use Rattle.std.specs.Prelude.{int_lt, nat_lt, nat_le}
use Rattle.std.specs.Int.{w64}
use Rattle.std.specs.Ordering.{is_lt, ordering_then}
use Rattle.std.specs.declared.cmp.Ordering.TheVariants.{Less, Equal, Greater}
use Rattle.std.proofs.lemmas.Bool.Decides.{nat_tests}
use Rattle.elem.specs.declared.elements.Elem.TheVariants.{Int, Text}
use Rattle.elem.specs.declared.cuts.Cut.{Cut}
use Rattle.elem.specs.declared.cuts.Cut.TheVariants.{Start, Below, Above, End}
use Rattle.elem.specs.Elements.{natural_order}
use Rattle.elem.specs.Orders.{natural_before}
use Rattle.elem.specs.Cuts.{cut_before, IsCut, IsWholeCut}
use Rattle.elem.specs.Spans.{upto}
use Rattle.elem.specs.Places.{place, place_below, IsPlace}

first_less : (a b : Bool) → is_lt (ordering_then (cond a Less (cond b Greater Equal)) Equal) ≡ a
first_less true b = refl
first_less false true = refl
first_less false false = refl

natural_before_numbers : (m n : ℤ) → natural_before (Int m) (Int n) ≡ int_lt m n
unfolding natural_order
natural_before_numbers m n = first_less (int_lt m n) (int_lt n m)

-- the cut below the greater of two numbers lies at least two places further
less_places : (m n : ℤ) → FitsSigned w64 m → FitsSigned w64 n → int_lt m n ≡ true → place_below m + 2 ≤ place_below n
less_places (pos a) (pos b) f g h = grind (arith, nat_tests)
less_places (pos a) (negsuc b) f g h = grind (arith, nat_tests)
less_places (negsuc a) (pos b) f g h = grind (arith, nat_tests)
less_places (negsuc a) (negsuc b) f g h = grind (arith, nat_tests)

upto_places : (m n : ℤ) → FitsSigned w64 m → FitsSigned w64 n → int_lt m n ≡ false → place_below n ≤ place_below m
upto_places (pos a) (pos b) f g h = grind (arith, nat_tests)
upto_places (pos a) (negsuc b) f g h = grind (arith, nat_tests)
upto_places (negsuc a) (pos b) f g h = grind (arith, nat_tests)
upto_places (negsuc a) (negsuc b) f g h = grind (arith, nat_tests)

inside : (n : ℤ) → FitsSigned w64 n → (0 < place_below n) × (place_below n + 1 < 2 ^ 67)
inside (pos n) f = (grind (arith, nat_tests), grind (arith, nat_tests))
inside (negsuc n) f = (grind (arith, nat_tests), grind (arith, nat_tests))

is_less_test : (t : Bool) (x y : ℕ) → (t ≡ true → x < y) → (t ≡ false → y ≤ x) → t ≡ nat_lt x y
is_less_test true x y h k = let less = h refl in grind (arith, nat_tests, less)
is_less_test false x y h k = let most = k refl in grind (arith, nat_tests, most)

flipped : (a b : Bool) → not a ≡ not b → a ≡ b
flipped true true h = refl
flipped true false h = cc
flipped false true h = cc
flipped false false h = refl

pub cut_before-places : (c d : Cut) → IsWholeCut c → IsWholeCut d → IsCut c → IsCut d → cut_before natural_before c d ≡ nat_lt (place c) (place d)
cut_before-places Start Start u v f g = refl
cut_before-places Start (Below (Int n)) u v f g = let most = inside n g in grind (arith, nat_tests, most)
cut_before-places Start (Above (Int n)) u v f g = let most = inside n g in grind (arith, nat_tests, most)
cut_before-places Start End u v f g = refl
cut_before-places (Below (Int m)) Start u v f g = let most = inside m f in grind (arith, nat_tests, most)
cut_before-places (Below (Int m)) (Below (Int n)) u v f g =
    natural_before_numbers m n ∙ is_less_test (int_lt m n) (place_below m) (place_below n) (λ e. (let p = less_places m n f g e in omega (arith, p))) (λ e. (let p = upto_places m n f g e in omega (arith, p)))
cut_before-places (Below (Int m)) (Above (Int n)) u v f g =
    ap not (natural_before_numbers n m) ∙ is_less_test (not (int_lt n m)) (place_below m) (place_below n + 1) (λ e. (let p = upto_places n m g f (flipped (int_lt n m) false e) in omega (arith, p))) (λ e. (let p = less_places n m g f (flipped (int_lt n m) true e) in omega (arith, p)))
cut_before-places (Below (Int m)) End u v f g = let most = inside m f in grind (arith, nat_tests, most)
cut_before-places (Above (Int m)) Start u v f g = let most = inside m f in grind (arith, nat_tests, most)
cut_before-places (Above (Int m)) (Below (Int n)) u v f g =
    natural_before_numbers m n ∙ is_less_test (int_lt m n) (place_below m + 1) (place_below n) (λ e. (let p = less_places m n f g e in omega (arith, p))) (λ e. (let p = upto_places m n f g e in omega (arith, p)))
cut_before-places (Above (Int m)) (Above (Int n)) u v f g =
    natural_before_numbers m n ∙ is_less_test (int_lt m n) (place_below m + 1) (place_below n + 1) (λ e. (let p = less_places m n f g e in omega (arith, p))) (λ e. (let p = upto_places m n f g e in omega (arith, p)))
cut_before-places (Above (Int m)) End u v f g = let most = inside m f in grind (arith, nat_tests, most)
cut_before-places End Start u v f g = refl
cut_before-places End (Below (Int n)) u v f g = let most = inside n g in grind (arith, nat_tests, most)
cut_before-places End (Above (Int n)) u v f g = let most = inside n g in grind (arith, nat_tests, most)
cut_before-places End End u v f g = refl
cut_before-places (Below (Text w)) d u v f g = absurd u
cut_before-places (Above (Text w)) d u v f g = absurd u
cut_before-places c (Below (Text w)) u v f g = absurd v
cut_before-places c (Above (Text w)) u v f g = absurd v

-- a cut is at or before another where its place is
pub upto-places : (c d : Cut) → IsWholeCut c → IsWholeCut d → IsCut c → IsCut d → upto c d ≡ nat_le (place c) (place d)
upto-places c d u v f g = rw (cut_before-places d c v u g f) (by (place c) (place d))
  where
    by : (x y : ℕ) → not (nat_lt y x) ≡ nat_le x y
    by x y = grind (arith, nat_tests)

pub places_in_order : (c d : Cut) → IsWholeCut c → IsWholeCut d → IsCut c → IsCut d → upto c d ≡ true → place c ≤ place d
places_in_order c d u v f g h = let test : nat_le (place c) (place d) ≡ true = sym (upto-places c d u v f g) ∙ h in grind (arith, nat_tests, test)

pub cuts_in_order : (c d : Cut) → IsWholeCut c → IsWholeCut d → IsCut c → IsCut d → place c ≤ place d → upto c d ≡ true
cuts_in_order c d u v f g h = upto-places c d u v f g ∙ (let test : nat_le (place c) (place d) ≡ true = grind (arith, nat_tests) in test)

-- a cut whose place is before another stands before the end, and one whose place is after another behind the start
pub not_end : (c : Cut) (x y : ℕ) → place c ≡ x → x < y → IsPlace y → c ≢ End
not_end c x y e h p q = let t : place c ≡ 2 ^ 67 = ap place q in grind (arith, p)

pub not_start : (c : Cut) (x y : ℕ) → place c ≡ y → x < y → c ≢ Start
not_start c x y e h q = let t : place c ≡ 0 = ap place q in omega arith
