-- The tokens of a line, each as long as possible.
use Rattle.std.specs.Prelude.{◌≡◌, ℕ, ◌+◌, Bool, true, false, not, ◌||◌, ◌&&◌, ◌==◌, if◌then◌else◌, List, [], ◌∷◌, ◌++◌, length, take, drop, Option, Some, None, FitsSigned}
use Rattle.std.specs.Int.{w64}
use Rattle.std.specs.List.{prefix_len}
use Rattle.std.specs.Option.{option_map}
use Rattle.std.specs.Fmt.{signed_decimal}
use Rattle.elem.specs.Words.{is_digit, starts_word, continues_word, is_word, word_of}
use Rattle.elem.specs.Spelling.{number_of}
use Rattle.elem.specs.declared.tokens.Sign.{Sign}
use Rattle.elem.specs.declared.tokens.Sign.TheVariants.{Lowest, Highest, Dots, Dot, Comma, Open, Close, OpenSquare, CloseSquare, Equals}
use Rattle.elem.specs.declared.tokens.Token.{Token}
use Rattle.elem.specs.declared.tokens.Token.TheVariants as tokens
use Rattle.elem.specs.declared.tokens.Kind.{Kind}
use Rattle.elem.specs.declared.tokens.Kind.TheVariants as kinds

-- ---- what a token is

-- the sign ∞ is the bytes 226, 136 and 158
abbrev pub sign_text : Sign → List ℕ
sign_text Lowest = 45 ∷ 226 ∷ 136 ∷ 158 ∷ []
sign_text Highest = 43 ∷ 226 ∷ 136 ∷ 158 ∷ []
sign_text Dots = 46 ∷ 46 ∷ []
sign_text Dot = 46 ∷ []
sign_text Comma = 44 ∷ []
sign_text Open = 40 ∷ []
sign_text Close = 41 ∷ []
sign_text OpenSquare = 91 ∷ []
sign_text CloseSquare = 93 ∷ []
sign_text Equals = 61 ∷ []

-- the bytes of a token
abbrev pub token_text : Token → List ℕ
token_text (tokens.Word w) = w
token_text (tokens.Number n) = signed_decimal n
token_text (tokens.Sign s) = sign_text s

-- the values of the type
abbrev pub IsToken : Token → Type 0
IsToken (tokens.Word w) = is_word w ≡ true
IsToken (tokens.Number n) = FitsSigned w64 n
IsToken (tokens.Sign s) = Unit {0}

-- whether the token with this byte behind it would begin a longer one
abbrev pub goes_on : Token → ℕ → Bool
goes_on (tokens.Word w) b = continues_word b
goes_on (tokens.Number n) b = is_digit b
goes_on (tokens.Sign Dot) b = b == 46
goes_on (tokens.Sign s) b = false

-- the token is as long as possible
abbrev pub is_ended : Token → List ℕ → Bool
is_ended t [] = true
is_ended t (b ∷ bs) = not (goes_on t b)

-- a token of this length stands at the front of the text, as long as possible
pub record IsTokenAt (text : List ℕ) (t : Token) (len : ℕ) : Type 0 where
  pub token : IsToken t
  pub is : text ≡ token_text t ++ drop len text
  pub len_is : len ≡ length (token_text t)
  pub ended : is_ended t (drop len text) ≡ true

-- ---- how one is found

unfoldable pub begins_infinity : List ℕ → Bool
begins_infinity (a ∷ b ∷ c ∷ bs) = a == 226 && b == 136 && c == 158
begins_infinity bs = false

unfoldable pub begins_dot : List ℕ → Bool
begins_dot (b ∷ bs) = b == 46
begins_dot [] = false

-- the sign that one byte spells
unfoldable pub sign_of : ℕ → Option Sign
sign_of b =
    if b == 46 then Some Dot
    else if b == 44 then Some Comma
    else if b == 40 then Some Open
    else if b == 41 then Some Close
    else if b == 91 then Some OpenSquare
    else if b == 93 then Some CloseSquare
    else if b == 61 then Some Equals
    else None

-- the kind of the token at the front of a text by its first bytes, and its length
unfoldable pub kind_at : List ℕ → Option (Kind × ℕ)
kind_at [] = None
kind_at (b ∷ bs) =
    if starts_word b then Some (kinds.Word, prefix_len continues_word bs + 1)
    else if b == 45 && begins_infinity bs then Some (kinds.Sign Lowest, 4)
    else if b == 45 || is_digit b then Some (kinds.Number, prefix_len is_digit bs + 1)
    else if b == 43 && begins_infinity bs then Some (kinds.Sign Highest, 4)
    else if b == 46 && begins_dot bs then Some (kinds.Sign Dots, 2)
    else option_map (λ s. (kinds.Sign s, 1)) (sign_of b)

-- the token of a kind that the bytes spell
abbrev pub token_of : Kind → List ℕ → Option Token
token_of kinds.Word bytes = option_map tokens.Word (word_of bytes)
token_of kinds.Number bytes = option_map tokens.Number (number_of bytes)
token_of (kinds.Sign s) bytes = Some (tokens.Sign s)

abbrev pub token_at_kind : Option (Kind × ℕ) → List ℕ → Option (Token × ℕ)
token_at_kind None text = None
token_at_kind (Some x) text = option_map (λ t. (t, x.1)) (token_of x.0 (take x.1 text))

-- the token at the front of a text, and its length
abbrev pub token_at : List ℕ → Option (Token × ℕ)
token_at text = token_at_kind (kind_at text) text
