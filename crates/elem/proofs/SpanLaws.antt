-- What a range is as tokens, and what is read, are one thing.
use Rattle.std.proofs.Common.{◌≡◌, ℕ, Bool, true, false, cond, ◌≢◌, ◌⊎◌, inl, inr, List, [], ◌∷◌, length, get_or, ◌-◌, ◌<◌, ◌≤◌, Option, Some, None, refl, sym, ap, ◌∙◌, arith}
use Rattle.elem.specs.declared.elements.Elem.TheVariants.{Int, Text}
use Rattle.elem.specs.declared.cuts.Cut.{Cut}
use Rattle.elem.specs.declared.cuts.Cut.TheVariants.{Start, Below, Above, End}
use Rattle.elem.specs.declared.spans.Span.{Span}
use Rattle.elem.specs.declared.tokens.Sign.TheVariants.{Lowest, Highest, Dots, Open, Close, OpenSquare, CloseSquare}
use Rattle.elem.specs.declared.tokens.Token.{Token}
use Rattle.elem.specs.declared.tokens.Token.TheVariants as tokens
use Rattle.elem.specs.declared.lexing.Lexeme.{Lexeme}
use Rattle.elem.specs.SpanTexts.{low_tokens, high_tokens, span_tokens, HasEnds, low_of, high_of, span_between, span_at, span_of, span_within, span_text, extent, last_end, IsSpanText}
use Rattle.elem.specs.Lexing.{kinds_of, lexed}
use Rattle.elem.proofs.LexingLaws.{lexed_spells, spells_lexed}
use Rattle.std.specs.Prelude.{◌&&◌, ◌==◌}
use Rattle.std.proofs.lemmas.Bool.{eqb-true, cases_lt}
use Rattle.std.proofs.lemmas.Bool.Decides.{nat_tests}
use Rattle.elem.proofs.NumberText.{and_parts}

abbrev some_cut : Cut → Option Cut
some_cut c = Some c

abbrev pub some_range : Span → Option (Span)
some_range r = Some r

-- an end of a range as its two tokens
record IsLow (b t : Token) (c : Cut) : Type 0 where
  tokens : low_tokens c ≡ b ∷ t ∷ []
  low : c ≢ End

record IsHigh (t b : Token) (c : Cut) : Type 0 where
  tokens : high_tokens c ≡ t ∷ b ∷ []
  high : c ≢ Start

low_found : (b t : Token) (c : Cut) → low_of b t ≡ some_cut c → IsLow b t c
low_found (tokens.Sign Open) (tokens.Sign Lowest) c h = let e : Start ≡ c = cc in rw (← e) (record { tokens = refl; low = λ n. absurd cc })
low_found (tokens.Sign Open) (tokens.Word w) c h = let e : Above (Text w) ≡ c = cc in rw (← e) (record { tokens = refl; low = λ n. absurd cc })
low_found (tokens.Sign Open) (tokens.Number k) c h = let e : Above (Int k) ≡ c = cc in rw (← e) (record { tokens = refl; low = λ n. absurd cc })
low_found (tokens.Sign OpenSquare) (tokens.Word w) c h = let e : Below (Text w) ≡ c = cc in rw (← e) (record { tokens = refl; low = λ n. absurd cc })
low_found (tokens.Sign OpenSquare) (tokens.Number k) c h = let e : Below (Int k) ≡ c = cc in rw (← e) (record { tokens = refl; low = λ n. absurd cc })
low_found b t c h = absurd cc

high_found : (b t : Token) (c : Cut) → high_of b t ≡ some_cut c → IsHigh t b c
high_found (tokens.Sign Close) (tokens.Sign Highest) c h = let e : End ≡ c = cc in rw (← e) (record { tokens = refl; high = λ n. absurd cc })
high_found (tokens.Sign Close) (tokens.Word w) c h = let e : Below (Text w) ≡ c = cc in rw (← e) (record { tokens = refl; high = λ n. absurd cc })
high_found (tokens.Sign Close) (tokens.Number k) c h = let e : Below (Int k) ≡ c = cc in rw (← e) (record { tokens = refl; high = λ n. absurd cc })
high_found (tokens.Sign CloseSquare) (tokens.Word w) c h = let e : Above (Text w) ≡ c = cc in rw (← e) (record { tokens = refl; high = λ n. absurd cc })
high_found (tokens.Sign CloseSquare) (tokens.Number k) c h = let e : Above (Int k) ≡ c = cc in rw (← e) (record { tokens = refl; high = λ n. absurd cc })
high_found b t c h = absurd cc

record LowAgain (c : Cut) : Type 0 where
  b : Token
  t : Token
  tokens : low_tokens c ≡ b ∷ t ∷ []
  again : low_of b t ≡ Some c

record HighAgain (c : Cut) : Type 0 where
  t : Token
  b : Token
  tokens : high_tokens c ≡ t ∷ b ∷ []
  again : high_of b t ≡ Some c

low_again : (c : Cut) → c ≢ End → LowAgain c
low_again Start ne = record { b = tokens.Sign Open; t = tokens.Sign Lowest; tokens = refl; again = refl }
low_again (Below (Int k)) ne = record { b = tokens.Sign OpenSquare; t = tokens.Number k; tokens = refl; again = refl }
low_again (Below (Text w)) ne = record { b = tokens.Sign OpenSquare; t = tokens.Word w; tokens = refl; again = refl }
low_again (Above (Int k)) ne = record { b = tokens.Sign Open; t = tokens.Number k; tokens = refl; again = refl }
low_again (Above (Text w)) ne = record { b = tokens.Sign Open; t = tokens.Word w; tokens = refl; again = refl }
low_again End ne = absurd (ne refl)

high_again : (c : Cut) → c ≢ Start → HighAgain c
high_again End ne = record { t = tokens.Sign Highest; b = tokens.Sign Close; tokens = refl; again = refl }
high_again (Below (Int k)) ne = record { t = tokens.Number k; b = tokens.Sign Close; tokens = refl; again = refl }
high_again (Below (Text w)) ne = record { t = tokens.Word w; b = tokens.Sign Close; tokens = refl; again = refl }
high_again (Above (Int k)) ne = record { t = tokens.Number k; b = tokens.Sign CloseSquare; tokens = refl; again = refl }
high_again (Above (Text w)) ne = record { t = tokens.Word w; b = tokens.Sign CloseSquare; tokens = refl; again = refl }
high_again Start ne = absurd (ne refl)

-- five tokens
five : (xs : List Lexeme) (a b c d e : Token) → kinds_of xs ≡ a ∷ b ∷ c ∷ d ∷ e ∷ [] → span_of xs ≡ span_at a b c d e
unfolding span_of
five (v ∷ w ∷ x ∷ y ∷ z ∷ []) a b c d e h =
    let h0 : v.token ≡ a = cc in
    let h1 : w.token ≡ b = cc in
    let h2 : x.token ≡ c = cc in
    let h3 : y.token ≡ d = cc in
    let h4 : z.token ≡ e = cc in
    rw (h0, h1, h2, h3, h4) refl
five [] a b c d e h = absurd cc
five (v ∷ []) a b c d e h = absurd cc
five (v ∷ w ∷ []) a b c d e h = absurd cc
five (v ∷ w ∷ x ∷ []) a b c d e h = absurd cc
five (v ∷ w ∷ x ∷ y ∷ []) a b c d e h = absurd cc
five (v ∷ w ∷ x ∷ y ∷ z ∷ u ∷ us) a b c d e h = absurd cc

pub range_again : (xs : List Lexeme) (r : Span) → HasEnds r → kinds_of xs ≡ span_tokens r → span_of xs ≡ Some r
range_again xs r range h =
    let lo = low_again r.lo range.0 in
    let hi = high_again r.hi range.1 in
    let shape : kinds_of xs ≡ lo.b ∷ lo.t ∷ tokens.Sign Dots ∷ hi.t ∷ hi.b ∷ [] = h ∙ rw (lo.tokens, hi.tokens) refl in
    five xs lo.b lo.t (tokens.Sign Dots) hi.t hi.b shape ∙ rw (lo.again, hi.again) refl

range_is : (x y : Span) → some_range x ≡ some_range y → x ≡ y
range_is x y h = cc

-- both ends were read
both_found : (lo hi : Option Cut) (r : Span) → span_between lo hi ≡ some_range r → (lo ≡ Some r.lo) × (hi ≡ Some r.hi)
both_found (Some a) (Some b) r h = let e = range_is (record { lo = a; hi = b }) r h in (ap (λ (p : Span). Some p.lo) e, ap (λ (p : Span). Some p.hi) e)
both_found (Some a) None r h = absurd cc
both_found None hi r h = absurd cc

at_found : (a b c d e : Token) (r : Span) → span_at a b c d e ≡ some_range r → HasEnds r × (span_tokens r ≡ a ∷ b ∷ c ∷ d ∷ e ∷ [])
at_found a b (tokens.Sign Dots) d e r h =
    let p = both_found (low_of a b) (high_of e d) r h in
    let lo = low_found a b r.lo p.0 in
    let hi = high_found e d r.hi p.1 in
    ((lo.low, hi.high), rw (lo.tokens, hi.tokens) refl)
at_found a b c d e r h = absurd cc

pub range_found : (xs : List Lexeme) (r : Span) → span_of xs ≡ some_range r → HasEnds r × (kinds_of xs ≡ span_tokens r)
unfolding span_of
range_found (v ∷ w ∷ x ∷ y ∷ z ∷ []) r h = let f = at_found v.token w.token x.token y.token z.token r h in (f.0, sym f.1)
range_found [] r h = absurd cc
range_found (v ∷ []) r h = absurd cc
range_found (v ∷ w ∷ []) r h = absurd cc
range_found (v ∷ w ∷ x ∷ []) r h = absurd cc
range_found (v ∷ w ∷ x ∷ y ∷ []) r h = absurd cc
range_found (v ∷ w ∷ x ∷ y ∷ z ∷ u ∷ us) r h = absurd cc

-- ---- places

last_at : (x d : Lexeme) (xs : List Lexeme) → (get_or (x ∷ xs) (length xs) d).end ≡ last_end x xs
last_at x d [] = refl
last_at x d (y ∷ ys) = last_at y d ys

pub place_is : (xs : List Lexeme) (f l : Lexeme) → 1 ≤ length xs → f ≡ get_or xs 0 f → l ≡ get_or xs (length xs - 1) l → (f.start, l.end) ≡ extent xs
unfolding extent
place_is [] f l le first last = absurd (omega arith)
place_is (x ∷ xs) f l le first last =
    let n : length (x ∷ xs) - 1 ≡ length xs = omega arith in
    let e : l ≡ get_or (x ∷ xs) (length xs) l = rw n at last in
    rw (first, ap (λ (y : Lexeme). y.end) e ∙ last_at x l xs) refl

-- ---- a text and its range

le_or : (xs : List Lexeme) → (length xs ≤ 5) ⊎ (5 < length xs)
le_or xs = elim (cases_lt 5 (length xs)) [ inl lt ↦ inr lt | inr le ↦ inl le ]

passes : (b : Bool) (o : Option Span) (s : Span) → cond b o None ≡ some_range s → (b ≡ true) × (o ≡ some_range s)
passes true o s h = (refl, h)
passes false o s h = absurd cc

cond_same : {A : Type 0} (b : Bool) (x : A) → cond b x x ≡ x
cond_same true x = refl
cond_same false x = refl

many_tokens : (xs : List Lexeme) → 5 < length xs → span_of xs ≡ None
unfolding span_of
many_tokens [] h = refl
many_tokens (v ∷ []) h = refl
many_tokens (v ∷ w ∷ []) h = refl
many_tokens (v ∷ w ∷ x ∷ []) h = refl
many_tokens (v ∷ w ∷ x ∷ y ∷ []) h = refl
many_tokens (v ∷ w ∷ x ∷ y ∷ z ∷ []) h = absurd (omega arith)
many_tokens (v ∷ w ∷ x ∷ y ∷ z ∷ u ∷ us) h = refl

within_long : (len : ℕ) (o : Option (List Lexeme)) → ((xs : List Lexeme) → o ≡ Some xs → length xs ≤ 5 → ⊥) → span_within len o ≡ None
within_long len None h = refl
within_long len (Some xs) h = rw (many_tokens xs (elim (le_or xs) [ inl le ↦ absurd (h xs refl le) | inr lt ↦ lt ])) (cond_same ((extent xs).0 == 0 && (extent xs).1 == len) None)

pub long_text : (text : List ℕ) → ((xs : List Lexeme) → lexed text ≡ Some xs → length xs ≤ 5 → ⊥) → span_text text ≡ None
unfolding span_text
long_text text h = within_long (length text) (lexed text) h

pub filled_text : (text : List ℕ) (xs : List Lexeme) (p : ℕ × ℕ) → lexed text ≡ Some xs → p ≡ extent xs → (p.0 == 0 && p.1 == length text) ≡ true → span_text text ≡ span_of xs
unfolding span_text
filled_text text xs p is e h = rw (is, ← e, h) refl

pub open_text : (text : List ℕ) (xs : List Lexeme) (p : ℕ × ℕ) → lexed text ≡ Some xs → p ≡ extent xs → (p.0 == 0 && p.1 == length text) ≡ false → span_text text ≡ None
unfolding span_text
open_text text xs p is e h = rw (is, ← e, h) refl

pair_is : (p : ℕ × ℕ) (a b : ℕ) → (p.0 == a && p.1 == b) ≡ true → p ≡ (a, b)
pair_is p a b h =
    let g = and_parts (p.0 == a) (p.1 == b) h in
    rw (← eqb-true p.0 a g.0, ← eqb-true p.1 b g.1) refl

eqb_refl : (n : ℕ) → (n == n) ≡ true
eqb_refl n = grind (arith, nat_tests)

is_pair : (p : ℕ × ℕ) (a b : ℕ) → p ≡ (a, b) → (p.0 == a && p.1 == b) ≡ true
is_pair p a b h = rw (h, eqb_refl a, eqb_refl b) refl

within_found : (text : List ℕ) (o : Option (List Lexeme)) (s : Span) → lexed text ≡ o → span_within (length text) o ≡ some_range s → IsSpanText text s
within_found text None s is h = absurd cc
within_found text (Some xs) s is h =
    let g = passes ((extent xs).0 == 0 && (extent xs).1 == length text) (span_of xs) s h in
    let f = range_found xs s g.1 in
    record { ends = f.0; lexemes = xs; spelled = lexed_spells 0 0 text xs is; tokens = f.1; fills = pair_is (extent xs) 0 (length text) g.0 }

pub text_found : (text : List ℕ) (s : Span) → span_text text ≡ some_range s → IsSpanText text s
unfolding span_text
text_found text s h = within_found text (lexed text) s refl h

pub text_again : (text : List ℕ) (s : Span) → IsSpanText text s → span_text text ≡ some_range s
text_again text s t =
    filled_text text t.lexemes (extent t.lexemes) (spells_lexed 0 0 text t.lexemes t.spelled) refl (is_pair (extent t.lexemes) 0 (length text) t.fills)
    ∙ range_again t.lexemes s t.ends t.tokens
