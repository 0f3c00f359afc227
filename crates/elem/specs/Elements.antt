-- Elements: when two are the same, their natural order, and what one feeds a hasher.
use Rattle.std.specs.Prelude.{◌≡◌, ℕ, Bool, true, false, List, [], nat_eq, ℤ, pos, FitsSigned}
use Rattle.std.specs.Int.{w64}
use Rattle.std.specs.Hash as fed
use Rattle.std.specs.Ordering.{int_eq, int_cmp, nat_cmp, on, then_cmp}
use Rattle.std.specs.declared.cmp.Ordering.{Ordering}
use Rattle.std.specs.Cmp.Lexicographic.{pointwise, slice_cmp}
use Rattle.elem.specs.declared.elements.Elem.{Elem}
use Rattle.elem.specs.declared.elements.Elem.TheVariants.{Int, Text}
use Rattle.elem.specs.Words.{is_word}

-- the values of the type: a number of 64 bits, or a word
abbrev pub IsElem : Elem → Type 0
IsElem (Int n) = FitsSigned w64 n
IsElem (Text w) = is_word w ≡ true

-- whether two elements are the same
unfoldable pub same : Elem → Elem → Bool
same (Int m) (Int n) = int_eq m n
same (Int m) (Text w) = false
same (Text v) (Int n) = false
same (Text v) (Text w) = pointwise nat_eq v w

-- numbers before words, by its class, its number and its bytes
abbrev pub class_of : Elem → ℕ
class_of (Int n) = 0
class_of (Text w) = 1

abbrev pub number_part : Elem → ℤ
number_part (Int n) = n
number_part (Text w) = pos 0

abbrev pub text_part : Elem → List ℕ
text_part (Int n) = []
text_part (Text w) = w

-- the natural order: numbers before words, numbers by value, words by their bytes
unfoldable pub natural_order : Elem → Elem → Ordering
natural_order = then_cmp (on class_of nat_cmp) (then_cmp (on number_part int_cmp) (on text_part (slice_cmp nat_cmp)))

-- what an element feeds a hasher
abbrev pub hashed : Elem → List (List ℕ)
hashed (Int n) = fed.i64 n
hashed (Text w) = fed.slice fed.u8 w
