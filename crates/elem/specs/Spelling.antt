-- The one spelling of each element.
use Rattle.std.specs.Prelude.{ℕ, ◌^◌, Bool, ◌&&◌, List, Option, None, Some, nat_eq, nat_lt, ℤ, pos, negsuc, if◌then◌else◌}
use Rattle.std.specs.Option.{option_map}
use Rattle.std.specs.Str.Parse.{signed_digits_value}
use Rattle.std.specs.Cmp.Lexicographic.{pointwise}
use Rattle.std.specs.Fmt.{signed_decimal}
use Rattle.elem.specs.declared.elements.Elem.{Elem}
use Rattle.elem.specs.declared.elements.Elem.TheVariants.{Int, Text}
use Rattle.elem.specs.Words.{is_word}

-- a number in decimal, a word as it is
abbrev pub spelling : Elem → List ℕ
spelling (Int n) = signed_decimal n
spelling (Text w) = w

abbrev pub fits_64_bits : ℤ → Bool
fits_64_bits (pos n) = nat_lt n (2 ^ 63)
fits_64_bits (negsuc n) = nat_lt n (2 ^ 63)

-- the number that a text spells: its digits give a number of 64 bits, and that number is spelled so
unfoldable pub number_of : List ℕ → Option ℤ
number_of text =
    let n = signed_digits_value 10 text in
    if fits_64_bits n && pointwise nat_eq (signed_decimal n) text then Some n else None

-- the element that a text spells
abbrev pub elem_of : List ℕ → Option Elem
elem_of text = if is_word text then Some (Text text) else option_map Int (number_of text)
