-- The spelling of a word: a letter or `_`, then letters, digits, `_` and `-`, at most 24 bytes in all.
use Rattle.std.specs.Prelude.{◌≡◌, ℕ, ◌-◌, ◌≤◌, Bool, true, false, ◌||◌, ◌&&◌, ◌==◌, nat_le, nat_lt, List, [], ◌∷◌, ◌++◌, length, take, replicate, Option, Some, None, if◌then◌else◌}
use Rattle.std.specs.List.{list_all}

-- a letter or `_`
unfoldable pub starts_word : ℕ → Bool
starts_word b = (nat_le 97 b && nat_le b 122) || (nat_le 65 b && nat_le b 90) || b == 95

-- a decimal digit
unfoldable pub is_digit : ℕ → Bool
is_digit b = nat_le 48 b && nat_le b 57

-- a letter, a digit, `_` or `-`
unfoldable pub continues_word : ℕ → Bool
continues_word b = starts_word b || is_digit b || b == 45

unfoldable pub is_word : List ℕ → Bool
is_word [] = false
is_word (b ∷ bs) = starts_word b && nat_lt (length bs) 24 && list_all continues_word bs

-- the word that a text is
abbrev pub word_of : List ℕ → Option (List ℕ)
word_of text = if is_word text then Some text else None

-- the text with zeros behind it, 24 bytes in all
abbrev pub packed : List ℕ → List ℕ
packed text = text ++ replicate (24 - length text) 0

-- an array that holds a word in this form
pub record IsPacked (bytes : List ℕ) (len : ℕ) : Type 0 where
  pub fits : len ≤ 24
  pub word : is_word (take len bytes) ≡ true
  pub rest : bytes ≡ packed (take len bytes)
