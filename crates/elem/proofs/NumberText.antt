-- Laws of decimal spellings.
use Rattle.std.proofs.Common.{◌++◌, ◌≡◌, ℕ, ℤ, pos, negsuc, suc, ◌+◌, ◌%◌, ◌^◌, ◌<◌, Bool, true, false, List, [], ◌∷◌, length, Some, refl, sym, ap, ◌∙◌, arith}
use Rattle.std.specs.Prelude.{FitsSigned, ◌&&◌, ◌||◌, ◌==◌}
use Rattle.std.specs.Int.{w64}
use Rattle.std.specs.Int.Signed.{mag}
use Rattle.std.specs.List.{list_all}
use Rattle.std.specs.Fmt.{decimal, signed_decimal}
use Rattle.std.proofs.lemmas.Fmt.{decimal_by_steps, decimal_nonempty}
use Rattle.std.proofs.lemmas.List.Folds.{list_all-append}
use Rattle.std.proofs.lemmas.Bool.Decides.{nat_tests}
use Rattle.elem.specs.Tokens.{begins_infinity}
use Rattle.elem.specs.Spelling.{number_of}
use Rattle.elem.proofs.Numbers.{one_number, one_spelled}
use Rattle.std.specs.Str.Parse.{signed_digits_value, digits_value}
use Rattle.std.proofs.lemmas.Fmt.{decimal_is_IsNumeral}
use lib.IntN.{neg_ℤ}
use Rattle.elem.specs.Words.{is_digit, starts_word, is_word}

pub mag_fits : (n : ℤ) → FitsSigned w64 n → mag n < 2 ^ 63
mag_fits (pos n) h = omega arith
mag_fits (negsuc n) h = omega arith

digit_of : (n : ℕ) → n < 10 → is_digit (48 + n) ≡ true
unfolding is_digit
digit_of n h = grind (arith, nat_tests)

digit_starts_no_word : (b : ℕ) → is_digit b ≡ true → starts_word b ≡ false
unfolding is_digit starts_word
digit_starts_no_word b h = grind (arith, nat_tests)

pub decimal_digits : (n : ℕ) → n < 2 ^ 64 → list_all is_digit (decimal n) ≡ true
decimal_digits n h =
    decimal_by_steps (λ n ds. list_all is_digit ds ≡ true)
    (λ n lt. rw (digit_of n lt) refl)
    (λ n ds le so_far. rw (list_all-append is_digit ds ((48 + n % 10) ∷ []), so_far, digit_of (n % 10) (omega arith)) refl)
    n h

-- a spelling is a first byte, a digit or a minus, and digits
pub record IsNumberText (bytes : List ℕ) : Type 0 where
  pub first : ℕ
  pub rest : List ℕ
  pub is : bytes ≡ first ∷ rest
  pub starts : is_digit first || first == 45 ≡ true
  pub digits : list_all is_digit rest ≡ true
  pub finite : (more : List ℕ) → (first == 45 && begins_infinity (rest ++ more)) ≡ false

pub and_parts : (a b : Bool) → (a && b) ≡ true → (a ≡ true) × (b ≡ true)
and_parts true b h = (refl, h)
and_parts false b h = absurd cc

digit_is_no_minus : (d : ℕ) → is_digit d ≡ true → (d == 45) ≡ false
unfolding is_digit
digit_is_no_minus d h = grind (arith, nat_tests)

digit_begins_no_infinity : (d : ℕ) (bs : List ℕ) → is_digit d ≡ true → begins_infinity (d ∷ bs) ≡ false
unfolding begins_infinity is_digit
digit_begins_no_infinity d [] h = refl
digit_begins_no_infinity d (a ∷ []) h = refl
digit_begins_no_infinity d (a ∷ b ∷ bs) h = let e : (d == 226) ≡ false = grind (arith, nat_tests) in rw e refl

digits_begin_no_infinity : (ds more : List ℕ) → 0 < length ds → list_all is_digit ds ≡ true → begins_infinity (ds ++ more) ≡ false
digits_begin_no_infinity [] more some h = absurd (omega arith)
digits_begin_no_infinity (d ∷ ds) more some h = digit_begins_no_infinity d (ds ++ more) (and_parts (is_digit d) (list_all is_digit ds) h).0

digits_number : (ds : List ℕ) → 0 < length ds → list_all is_digit ds ≡ true → IsNumberText ds
digits_number [] some h = absurd (omega arith)
digits_number (d ∷ ds) some h =
    let p = and_parts (is_digit d) (list_all is_digit ds) h in
    record { first = d; rest = ds; is = refl; starts = rw (p.0) refl; digits = p.1; finite = λ more. rw (digit_is_no_minus d p.0) refl }

pub number_text : (n : ℤ) → FitsSigned w64 n → IsNumberText (signed_decimal n)
unfolding is_digit
number_text (pos n) h = digits_number (decimal n) (decimal_nonempty n (omega arith)) (decimal_digits n (omega arith))
number_text (negsuc n) h = record { first = 45; rest = decimal (suc n); is = refl; starts = refl; digits = decimal_digits (suc n) (omega arith); finite = λ more. digits_begin_no_infinity (decimal (suc n)) more (decimal_nonempty (suc n) (omega arith)) (decimal_digits (suc n) (omega arith)) }

pub starts_no_word : (b : ℕ) → (is_digit b || b == 45) ≡ true → starts_word b ≡ false
unfolding is_digit starts_word
starts_no_word b h = grind (arith, nat_tests)

-- no number is spelled as a word
pub number_no_word : (n : ℤ) → FitsSigned w64 n → is_word (signed_decimal n) ≡ false
unfolding is_word
number_no_word n h =
    let p = number_text n h in
    rw (p.is, starts_no_word p.first p.starts) refl

-- ---- the number of a spelling

digit_no_sign : (b : ℕ) → is_digit b ≡ true → ((b == 45) ≡ false) × ((b == 43) ≡ false)
unfolding is_digit
digit_no_sign b h = (grind (arith, nat_tests), grind (arith, nat_tests))

first_is_digit : (ds : List ℕ) → 0 < length ds → list_all is_digit ds ≡ true → (d : ℕ) × (rest : List ℕ) × (ds ≡ d ∷ rest) × (is_digit d ≡ true)
first_is_digit [] some h = absurd (omega arith)
first_is_digit (d ∷ ds) some h = (d, ds, refl, (and_parts (is_digit d) (list_all is_digit ds) h).0)

digits_value_is : (ds : List ℕ) → 0 < length ds → list_all is_digit ds ≡ true → signed_digits_value 10 ds ≡ pos (digits_value 10 ds)
digits_value_is ds some h =
    let f = first_is_digit ds some h in
    let n = digit_no_sign f.0 f.3 in
    rw (f.2, n.0, n.1) refl

value_spelled : (n : ℤ) → FitsSigned w64 n → signed_digits_value 10 (signed_decimal n) ≡ n
value_spelled (pos n) h = digits_value_is (decimal n) (decimal_nonempty n (omega arith)) (decimal_digits n (omega arith)) ∙ ap pos (decimal_is_IsNumeral n (omega arith)).1
value_spelled (negsuc n) h = ap (λ m. neg_ℤ (pos m)) (decimal_is_IsNumeral (suc n) (omega arith)).1

pub number_again : (n : ℤ) → FitsSigned w64 n → number_of (signed_decimal n) ≡ Some n
number_again n h = one_number (signed_decimal n) n (sym (value_spelled n h)) h refl

pub number_read : (text : List ℕ) (n : ℤ) → number_of text ≡ Some n → FitsSigned w64 n × (text ≡ signed_decimal n)
number_read text n h = one_spelled text n h
