-- Which texts spell a number.
use Rattle.std.proofs.Common.{FitsSigned, ◌≡◌, ◌<◌, ℕ, ℤ, pos, negsuc, ◌^◌, Bool, true, false, ◌&&◌, nat_eq, List, Option, Some, None, cond, Result, Ok, Err, refl, sym, ◌∙◌, ap, subst, arith}
use Rattle.std.specs.Cmp.Lexicographic.{pointwise}
use Rattle.std.specs.Fmt.{signed_decimal}
use Rattle.std.specs.Int.{w64}
use Rattle.std.specs.Str.Parse.{ParsesSigned, signed_digits_value, without_leading_sign, IsNumeral}
use Rattle.std.specs.Result.{result_ok, MatchResult, OkIff}
use Rattle.std.specs.Str.{IsUtf8}
use Rattle.std.proofs.lemmas.Result.{OkIff-at_ok}
use Rattle.std.proofs.lemmas.Bool.Decides.{nat_tests}
use Rattle.std.proofs.lemmas.Slice.Eq.{bytes_eq-Decides}
use Rattle.std.proofs.lemmas.Str.{IsUtf8-from_ascii}
use Rattle.std.proofs.lemmas.Int.{to_z-of_z}
use Rattle.std.proofs.lemmas.Fmt.{parse-signed_decimal, IsAscii-signed}
use lib.Signed.{mag}
use mir.Val.{to_z, of_z}
use Rattle.elem.specs.Spelling.{number_of, fits_64_bits}

chosen : (b : Bool) (x y : Option ℤ) → b ≡ true → cond b x y ≡ x
chosen true x y h = refl
chosen false x y h = cc

passed : (b : Bool) (x y : Option ℤ) → (b ≡ true → ⊥) → cond b x y ≡ y
passed true x y h = absurd (h refl)
passed false x y h = refl

both : (a b : Bool) → a && b ≡ true → (a ≡ true) × (b ≡ true)
both true true h = (refl, refl)
both true false h = cc
both false b h = cc

same_text : (a b : List ℕ) → pointwise nat_eq a b ≡ true → a ≡ b
same_text a b h = (bytes_eq-Decides a b).0 h

text_same : (a b : List ℕ) → a ≡ b → pointwise nat_eq a b ≡ true
text_same a b h = (bytes_eq-Decides a b).1 h

fits_from : (n : ℤ) → fits_64_bits n ≡ true → FitsSigned w64 n
fits_from (pos n) h = grind (arith, nat_tests)
fits_from (negsuc n) h = grind (arith, nat_tests)

fits_to : (n : ℤ) → FitsSigned w64 n → fits_64_bits n ≡ true
fits_to (pos n) h = grind (arith, nat_tests)
fits_to (negsuc n) h = grind (arith, nat_tests)

pub no_number : (text : List ℕ) → ((n : ℤ) → FitsSigned w64 n → text ≡ signed_decimal n → ⊥) → number_of text ≡ None
unfolding number_of
no_number text h = passed _ _ _ (λ t.
    let parts : (fits_64_bits (signed_digits_value 10 text) ≡ true) × (pointwise nat_eq (signed_decimal (signed_digits_value 10 text)) text ≡ true) = both _ _ t in
    h (signed_digits_value 10 text) (fits_from _ parts.0) (sym (same_text _ _ parts.1)))

pub one_number : (text : List ℕ) (n : ℤ) → n ≡ signed_digits_value 10 text → FitsSigned w64 n → text ≡ signed_decimal n → number_of text ≡ Some n
unfolding number_of
one_number text n v f e =
    let fits : fits_64_bits (signed_digits_value 10 text) ≡ true = subst (λ (m : ℤ). fits_64_bits m ≡ true) v (fits_to n f) in
    let same : pointwise nat_eq (signed_decimal (signed_digits_value 10 text)) text ≡ true = text_same _ _ (ap signed_decimal (sym v) ∙ sym e) in
    chosen _ _ _ (ap (λ (b : Bool). b && pointwise nat_eq (signed_decimal (signed_digits_value 10 text)) text) fits ∙ same) ∙ ap Some (sym v)

small : (n : ℤ) → FitsSigned w64 n → mag n < 2 ^ 63
small (pos n) f = grind (arith, nat_tests)
small (negsuc n) f = grind (arith, nat_tests)

-- what spells a number is ASCII, so it is text, and parses to that number
pub spelled_parses : {E : Type 0} (text : List ℕ) (r : Result ℤ E) → ParsesSigned w64 10 text r → (n : ℤ) → FitsSigned w64 n → text ≡ signed_decimal n → r ≡ Ok n
spelled_parses text r p n f e = parse-signed_decimal w64 n text r f (small n f) e p

pub spelled_utf8 : (text : List ℕ) (n : ℤ) → FitsSigned w64 n → text ≡ signed_decimal n → IsUtf8 text
spelled_utf8 text n f e = subst IsUtf8 (sym e) (IsUtf8-from_ascii (signed_decimal n) (IsAscii-signed n (small n f)))

-- what a failed reading as text tells, and what a good one does
pub not_text : {S E : Type 0} (r : Result S E) (P : S → Type 0) (U : Type 0) (Q : E → Type 0) → None ≡ result_ok r → MatchResult r P (λ e. ¬ U × Q e) → U → ⊥
not_text (Ok s) P U Q h m u = cc
not_text (Err e) P U Q h m u = m.0 u

pub was_text : {S E : Type 0} (r : Result S E) (s : S) (P : S → Type 0) (Q : E → Type 0) → Some s ≡ result_ok r → MatchResult r P Q → P s
was_text (Ok t) s P Q h m = let e : s ≡ t = cc in subst P (sym e) m
was_text (Err e) s P Q h m = cc

pub was_ok : {S E : Type 0} (r : Result S E) (s : S) → Some s ≡ result_ok r → r ≡ Ok s
was_ok (Ok t) s h = cc
was_ok (Err e) s h = cc

pub not_ok : {S E : Type 0} (r : Result S E) (s : S) → None ≡ result_ok r → r ≡ Ok s → ⊥
not_ok (Ok t) s h e = cc
not_ok (Err e) s h q = cc

is_value : {E : Type 0} (text : List ℕ) (r : Result ℤ E) (n : ℤ) → ParsesSigned w64 10 text r → r ≡ Ok n → (n ≡ signed_digits_value 10 text) × FitsSigned w64 n
is_value text r n p e = let q : OkIff r (IsNumeral 10 (without_leading_sign text) × FitsSigned w64 (signed_digits_value 10 text)) (signed_digits_value 10 text) = p in
    let t = OkIff-at_ok r _ _ n q e in (t.1, subst (λ (m : ℤ). FitsSigned w64 m) (sym t.1) t.0.1)

-- a text that a parse read as n, and that n prints as, is that of n; and one that n prints otherwise is that of no number
pub prints_back : {E : Type 0} (text read shown : List ℕ) (r : Result ℤ E) (n : ℤ) → read ≡ text → ParsesSigned w64 10 read r → r ≡ Ok n → shown ≡ signed_decimal (to_z w64 (of_z w64 n)) → pointwise nat_eq shown text ≡ true → number_of text ≡ Some (to_z w64 (of_z w64 n))
prints_back text read shown r n e p q d h =
    let v = is_value read r n p q in
    let back : to_z w64 (of_z w64 n) ≡ n = to_z-of_z w64 n v.1 in
    one_number text n (subst (λ (t : List ℕ). n ≡ signed_digits_value 10 t) e v.0) v.1 (sym (same_text shown text h) ∙ d ∙ ap signed_decimal back) ∙ ap Some (sym back)

pub prints_other : {E : Type 0} (text read shown : List ℕ) (r : Result ℤ E) (n : ℤ) → read ≡ text → ParsesSigned w64 10 read r → r ≡ Ok n → shown ≡ signed_decimal (to_z w64 (of_z w64 n)) → pointwise nat_eq shown text ≡ false → (m : ℤ) → FitsSigned w64 m → text ≡ signed_decimal m → ⊥
prints_other text read shown r n e p q d h m f t =
    let v = is_value read r n p q in
    let back : to_z w64 (of_z w64 n) ≡ n = to_z-of_z w64 n v.1 in
    let again : r ≡ Ok m = spelled_parses read r p m f (e ∙ t) in
    let one : n ≡ m = cc in
    let s : pointwise nat_eq shown text ≡ true = text_same shown text (d ∙ ap signed_decimal (back ∙ one) ∙ sym t) in
    cc

number_some : (m n : ℤ) → Some m ≡ Some n → m ≡ n
number_some m n h = cc

spelled_by_test : (b : Bool) (m n : ℤ) → cond b (Some m) None ≡ Some n → (b ≡ true) × (m ≡ n)
spelled_by_test true m n h = (refl, number_some m n h)
spelled_by_test false m n h = absurd cc

-- a text that is read as a number is its spelling
pub one_spelled : (text : List ℕ) (n : ℤ) → number_of text ≡ Some n → FitsSigned w64 n × (text ≡ signed_decimal n)
unfolding number_of
one_spelled text n h =
    let t = spelled_by_test (fits_64_bits (signed_digits_value 10 text) && pointwise nat_eq (signed_decimal (signed_digits_value 10 text)) text) _ n h in
    let parts = both (fits_64_bits (signed_digits_value 10 text)) _ t.0 in
    (subst (λ (m : ℤ). FitsSigned w64 m) t.1 (fits_from _ parts.0), sym (same_text _ _ parts.1) ∙ ap signed_decimal t.1)
