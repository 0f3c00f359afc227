-- Ranges as texts: the grammar, and the one printed spelling.
use Rattle.std.specs.Prelude.{◌≡◌, ◌≢◌, ◌⊎◌, ℕ, true, ◌&&◌, ◌==◌, if◌then◌else◌, List, [], ◌∷◌, ◌++◌, length, Option, Some, None, Result, Ok, Err}
use Rattle.std.specs.Option.{option_map}
use Rattle.elem.specs.declared.elements.Elem.{Elem}
use Rattle.elem.specs.declared.elements.Elem.TheVariants.{Int, Text}
use Rattle.elem.specs.declared.cuts.Cut.{Cut}
use Rattle.elem.specs.declared.cuts.Cut.TheVariants.{Start, Below, Above, End}
use Rattle.elem.specs.declared.spans.Span.{Span}
use Rattle.elem.specs.declared.span_texts.SpanFault.{SpanFault}
use Rattle.elem.specs.declared.span_texts.SpanFault.TheVariants.{NotGrammar, Invalid}
use Rattle.elem.specs.declared.tokens.Sign.TheVariants.{Lowest, Highest, Dots, Open, Close, OpenSquare, CloseSquare}
use Rattle.elem.specs.declared.tokens.Token.{Token}
use Rattle.elem.specs.declared.tokens.Token.TheVariants as tokens
use Rattle.elem.specs.declared.lexing.Lexeme.{Lexeme}
use Rattle.elem.specs.Lexing.{Spells, kinds_of, lexed}
use Rattle.elem.specs.Orders.{natural_before}
use Rattle.elem.specs.Spans.{upto}
use Rattle.elem.specs.Spelling.{spelling}

-- ---- the grammar

abbrev pub element_token : Elem → Token
element_token (Int n) = tokens.Number n
element_token (Text w) = tokens.Word w

-- a cut as the lower end of a range
abbrev pub low_tokens : Cut → List Token
low_tokens Start = tokens.Sign Open ∷ tokens.Sign Lowest ∷ []
low_tokens (Below e) = tokens.Sign OpenSquare ∷ element_token e ∷ []
low_tokens (Above e) = tokens.Sign Open ∷ element_token e ∷ []
low_tokens End = []

-- a cut as the upper end of a range
abbrev pub high_tokens : Cut → List Token
high_tokens Start = []
high_tokens (Below e) = element_token e ∷ tokens.Sign Close ∷ []
high_tokens (Above e) = element_token e ∷ tokens.Sign CloseSquare ∷ []
high_tokens End = tokens.Sign Highest ∷ tokens.Sign Close ∷ []

abbrev pub span_tokens : Span → List Token
span_tokens s = low_tokens s.lo ++ (tokens.Sign Dots ∷ high_tokens s.hi)

-- it has a lower and an upper end, in whatever order
abbrev pub HasEnds : Span → Type 0
HasEnds s = (s.lo ≢ End) × (s.hi ≢ Start)

-- the place of tokens that follow each other: from the start of the first to the end of the last
abbrev pub last_end : Lexeme → List Lexeme → ℕ
last_end x [] = x.end
last_end x (y ∷ ys) = last_end y ys

unfoldable pub extent : List Lexeme → ℕ × ℕ
extent [] = (0, 0)
extent (x ∷ xs) = (x.start, last_end x xs)

-- the text is the range, with any spaces between its tokens and none at its two ends
pub record IsSpanText (text : List ℕ) (s : Span) : Type 0 where
  pub ends : HasEnds s
  pub lexemes : List Lexeme
  pub spelled : Spells 0 lexemes text
  pub tokens : kinds_of lexemes ≡ span_tokens s
  pub fills : extent lexemes ≡ (0, length text)

-- the element of an end
abbrev pub end_of : Cut → Option Elem
end_of Start = None
end_of (Below e) = Some e
end_of (Above e) = Some e
end_of End = None

-- the lower end is greater than the upper, or the form is `(v..v)`
abbrev pub IsInvalid : Span → Type 0
IsInvalid s = (v w : Elem) × (end_of s.lo ≡ Some v) × (end_of s.hi ≡ Some w) × ((natural_before w v ≡ true) ⊎ ((v ≡ w) × (s.lo ≡ Above v) × (s.hi ≡ Below v)))

-- ---- how one is read

abbrev pub element_of : Token → Option Elem
element_of (tokens.Word w) = Some (Text w)
element_of (tokens.Number n) = Some (Int n)
element_of (tokens.Sign s) = None

-- the lower cut that a bracket and an end are
abbrev pub low_of : Token → Token → Option Cut
low_of (tokens.Sign Open) (tokens.Sign Lowest) = Some Start
low_of (tokens.Sign Open) t = option_map Above (element_of t)
low_of (tokens.Sign OpenSquare) t = option_map Below (element_of t)
low_of b t = None

-- the upper cut that a bracket and an end are
abbrev pub high_of : Token → Token → Option Cut
high_of (tokens.Sign Close) (tokens.Sign Highest) = Some End
high_of (tokens.Sign Close) t = option_map Below (element_of t)
high_of (tokens.Sign CloseSquare) t = option_map Above (element_of t)
high_of b t = None

abbrev pub span_between : Option Cut → Option Cut → Option Span
span_between (Some a) (Some b) = Some (record { lo = a; hi = b })
span_between a b = None

abbrev pub span_at : Token → Token → Token → Token → Token → Option Span
span_at a b (tokens.Sign Dots) d e = span_between (low_of a b) (high_of e d)
span_at a b c d e = None

-- the range that the tokens are
unfoldable pub span_of : List Lexeme → Option Span
span_of (a ∷ b ∷ c ∷ d ∷ e ∷ []) = span_at a.token b.token c.token d.token e.token
span_of xs = None

-- the range that tokens of a text are, where nothing stands before and behind them
abbrev pub span_within : ℕ → Option (List Lexeme) → Option Span
span_within len None = None
span_within len (Some xs) = if (extent xs).0 == 0 && (extent xs).1 == len then span_of xs else None

-- the range that a text is
unfoldable pub span_text : List ℕ → Option Span
span_text text = span_within (length text) (lexed text)

-- its ends are in order, or it is refused
abbrev pub checked : Option Span → Result Span SpanFault
checked None = Err NotGrammar
checked (Some s) = if upto s.lo s.hi then Ok s else Err Invalid

-- ---- how one is written

abbrev pub low_text : Cut → List ℕ
low_text Start = 40 ∷ 45 ∷ 226 ∷ 136 ∷ 158 ∷ []
low_text (Below e) = 91 ∷ spelling e
low_text (Above e) = 40 ∷ spelling e
low_text End = []

abbrev pub high_text : Cut → List ℕ
high_text Start = []
high_text (Below e) = spelling e ++ (41 ∷ [])
high_text (Above e) = spelling e ++ (93 ∷ [])
high_text End = 43 ∷ 226 ∷ 136 ∷ 158 ∷ 41 ∷ []

-- the one spelling of a range, without spaces
abbrev pub span_spelling : Span → List ℕ
span_spelling s = low_text s.lo ++ (46 ∷ 46 ∷ high_text s.hi)
