-- The printed spelling of a range is read as that range.
use Rattle.std.proofs.Common.{◌≡◌, ◌≢◌, ℕ, ◌+◌, true, List, [], ◌∷◌, ◌++◌, length, Some, Ok, refl, ap, ◌∙◌, arith, length-append}
use Rattle.elem.specs.declared.elements.Elem.{Elem}
use Rattle.elem.specs.declared.elements.Elem.TheVariants.{Int, Text}
use Rattle.elem.specs.declared.cuts.Cut.{Cut}
use Rattle.elem.specs.declared.cuts.Cut.TheVariants.{Start, Below, Above, End}
use Rattle.elem.specs.declared.spans.Span.{Span}
use Rattle.elem.specs.declared.tokens.Sign.TheVariants.{Lowest, Dots, Open, OpenSquare}
use Rattle.elem.specs.declared.tokens.Token.{Token}
use Rattle.elem.specs.declared.tokens.Token.TheVariants as tokens
use Rattle.elem.specs.declared.lexing.Lexeme.{Lexeme}
use Rattle.elem.specs.Words.{is_digit, starts_word, continues_word}
use Rattle.elem.specs.Elements.{IsElem}
use Rattle.elem.specs.Cuts.{IsCut}
use Rattle.elem.specs.Spans.{IsSpan}
use Rattle.elem.specs.Spelling.{spelling}
use Rattle.elem.specs.Tokens.{token_text, IsToken, is_ended}
use Rattle.elem.specs.Lexing.{Spells, kinds_of, lexeme}
use Rattle.elem.specs.SpanTexts.{element_token, low_tokens, high_tokens, span_tokens, extent, last_end, low_text, high_text, span_spelling, span_text, checked}
use Rattle.elem.proofs.TokenLaws.{never_goes_on}
use Rattle.elem.proofs.SpanLaws.{text_again}

-- ---- tokens one after the other, without spaces

abbrev texts : List Token → List ℕ
texts [] = []
texts (t ∷ ts) = token_text t ++ texts ts

-- each token is as long as possible
abbrev AreEnded : List Token → Type 0
AreEnded [] = Unit {0}
AreEnded (t ∷ ts) = IsToken t × (is_ended t (texts ts) ≡ true) × AreEnded ts

abbrev placed : ℕ → List Token → List Lexeme
placed at [] = []
placed at (t ∷ ts) = lexeme t at (at + length (token_text t)) ∷ placed (at + length (token_text t)) ts

placed_spells : (at : ℕ) (ts : List Token) → AreEnded ts → Spells at (placed at ts) (texts ts)
placed_spells at [] h = (0, refl)
placed_spells at (t ∷ ts) h = (0, texts ts, record { is = refl; token = h.0; ended = h.1; start = omega arith; end = refl }, placed_spells (at + length (token_text t)) ts h.2)

kinds-placed : (at : ℕ) (ts : List Token) → kinds_of (placed at ts) ≡ ts
kinds-placed at [] = refl
kinds-placed at (t ∷ ts) = ap (λ (us : List Token). t ∷ us) (kinds-placed (at + length (token_text t)) ts)

last-placed : (x : Lexeme) (ts : List Token) → last_end x (placed x.end ts) ≡ x.end + length (texts ts)
last-placed x [] = omega arith
last-placed x (t ∷ ts) = omega (arith, last-placed (lexeme t x.end (x.end + length (token_text t))) ts, length-append (token_text t) (texts ts))

extent-placed : (t : Token) (ts : List Token) → extent (placed 0 (t ∷ ts)) ≡ (0, length (texts (t ∷ ts)))
unfolding extent
extent-placed t ts =
    let e : last_end (lexeme t 0 (0 + length (token_text t))) (placed (0 + length (token_text t)) ts) ≡ length (token_text t ++ texts ts) = omega (arith, last-placed (lexeme t 0 (0 + length (token_text t))) ts, length-append (token_text t) (texts ts)) in
    rw e refl

-- ---- the tokens of a range

ended_by_dot : (e : Elem) (rest : List ℕ) → is_ended (element_token e) (46 ∷ rest) ≡ true
unfolding is_digit starts_word continues_word
ended_by_dot (Int n) rest = refl
ended_by_dot (Text w) rest = refl

ended_by_close : (e : Elem) (rest : List ℕ) → is_ended (element_token e) (41 ∷ rest) ≡ true
unfolding is_digit starts_word continues_word
ended_by_close (Int n) rest = refl
ended_by_close (Text w) rest = refl

ended_by_square : (e : Elem) (rest : List ℕ) → is_ended (element_token e) (93 ∷ rest) ≡ true
unfolding is_digit starts_word continues_word
ended_by_square (Int n) rest = refl
ended_by_square (Text w) rest = refl

element_text : (e : Elem) → token_text (element_token e) ≡ spelling e
element_text (Int n) = refl
element_text (Text w) = refl

element_is : (e : Elem) → IsElem e → IsToken (element_token e)
element_is (Int n) h = h
element_is (Text w) h = h

-- a part of a range's tokens with what stands behind it
record IsPiece (ts rest : List Token) (text : List ℕ) : Type 0 where
  ended : AreEnded (ts ++ rest)
  is : texts (ts ++ rest) ≡ text ++ texts rest

low_piece : (c : Cut) → c ≢ End → IsCut c → (rest : List Token) → AreEnded (tokens.Sign Dots ∷ rest) → IsPiece (low_tokens c) (tokens.Sign Dots ∷ rest) (low_text c)
low_piece Start ne is rest h = record { ended = (tt, refl, (tt, refl, h)); is = refl }
low_piece (Below e) ne is rest h = record {
  ended = (tt, never_goes_on OpenSquare (token_text (element_token e) ++ texts (tokens.Sign Dots ∷ rest)) (λ b. refl), (element_is e is, ended_by_dot e (46 ∷ texts rest), h));
  is = ap (λ (w : List ℕ). 91 ∷ (w ++ texts (tokens.Sign Dots ∷ rest))) (element_text e);
}
low_piece (Above e) ne is rest h = record {
  ended = (tt, never_goes_on Open (token_text (element_token e) ++ texts (tokens.Sign Dots ∷ rest)) (λ b. refl), (element_is e is, ended_by_dot e (46 ∷ texts rest), h));
  is = ap (λ (w : List ℕ). 40 ∷ (w ++ texts (tokens.Sign Dots ∷ rest))) (element_text e);
}
low_piece End ne is rest h = absurd (ne refl)

record IsHighPiece (ts : List Token) (text : List ℕ) : Type 0 where
  ended : AreEnded ts
  is : texts ts ≡ text

high_piece : (c : Cut) → c ≢ Start → IsCut c → IsHighPiece (high_tokens c) (high_text c)
high_piece End ne is = record { ended = (tt, refl, (tt, refl, tt)); is = refl }
high_piece (Below e) ne is = record { ended = (element_is e is, ended_by_close e [], (tt, refl, tt)); is = ap (λ (w : List ℕ). w ++ (41 ∷ [])) (element_text e) }
high_piece (Above e) ne is = record { ended = (element_is e is, ended_by_square e [], (tt, refl, tt)); is = ap (λ (w : List ℕ). w ++ (93 ∷ [])) (element_text e) }
high_piece Start ne is = absurd (ne refl)

first_low : (c : Cut) (rest : List Token) → c ≢ End → (t : Token) × (ts : List Token) × (low_tokens c ++ rest ≡ t ∷ ts)
first_low Start rest ne = (tokens.Sign Open, tokens.Sign Lowest ∷ rest, refl)
first_low (Below e) rest ne = (tokens.Sign OpenSquare, element_token e ∷ rest, refl)
first_low (Above e) rest ne = (tokens.Sign Open, element_token e ∷ rest, refl)
first_low End rest ne = absurd (ne refl)

span_extent : (ts : List Token) → (t : Token) × (us : List Token) × (ts ≡ t ∷ us) → extent (placed 0 ts) ≡ (0, length (texts ts))
span_extent ts f = rw f.2 (extent-placed f.0 f.1)

span_again : (s : Span) → IsSpan s → IsCut s.lo → IsCut s.hi → span_text (span_spelling s) ≡ Some s
span_again s is lo hi =
    let high = high_piece s.hi is.hi hi in
    let low = low_piece s.lo is.lo lo (high_tokens s.hi) (tt, never_goes_on Dots (texts (high_tokens s.hi)) (λ b. refl), high.ended) in
    let text : texts (span_tokens s) ≡ span_spelling s = low.is ∙ ap (λ (w : List ℕ). low_text s.lo ++ (46 ∷ 46 ∷ w)) high.is in
    text_again (span_spelling s) s (record {
      ends = (is.lo, is.hi);
      lexemes = placed 0 (span_tokens s);
      spelled = rw (← text) (placed_spells 0 (span_tokens s) low.ended);
      tokens = kinds-placed 0 (span_tokens s);
      fills = rw (← text) (span_extent (span_tokens s) (first_low s.lo (tokens.Sign Dots ∷ high_tokens s.hi) is.lo));
    })

pub spelled_again : (s : Span) (text : List ℕ) → text ≡ span_spelling s → IsCut s.lo → IsCut s.hi → IsSpan s → checked (span_text text) ≡ Ok s
spelled_again s text e lo hi is = rw (e, span_again s is lo hi, is.in_order) refl
