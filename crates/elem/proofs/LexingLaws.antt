-- The tokens of a text, one after the other.
use Rattle.std.proofs.Common.{◌≡◌, ℕ, zero, suc, ◌+◌, ◌-◌, ◌<◌, ◌≤◌, ◌≢◌, ◌↔◌, true, false, List, [], ◌∷◌, ◌++◌, length, take, drop, Option, Some, None, Bool, ◌⊎◌, inl, inr, refl, sym, ap, ◌∙◌, arith, add-zero, length-append, length-drop, get_or}
use Rattle.std.specs.Prelude.{◌&&◌, ◌||◌, ◌==◌}
use Rattle.std.proofs.lemmas.List.{drop_at, drop_more, drop-drop, take_all}
use Rattle.std.proofs.Math.ListN.{drop_of_length-le}
use Rattle.elem.specs.declared.lexing.Lexeme.{Lexeme}
use Rattle.elem.specs.declared.tokens.Token.{Token}
use Rattle.elem.specs.declared.tokens.Token.TheVariants as tokens
use Rattle.std.proofs.lemmas.Bool.Decides.{nat_tests}
use Rattle.std.proofs.lemmas.Bool.{eqb-true}
use Rattle.elem.specs.declared.tokens.Sign.{Sign}
use Rattle.elem.specs.declared.tokens.Sign.TheVariants.{Lowest, Highest, Dots, Dot, Comma, Open, Close, OpenSquare, CloseSquare, Equals}
use Rattle.elem.specs.Words.{is_word, starts_word, is_digit}
use Rattle.elem.specs.Tokens.{sign_text, token_text, IsToken, IsTokenAt, token_at}
use Rattle.elem.specs.Lexing.{spaces, Begins, Spells, lexeme, with_first, with_token, lexed_past, lexed_from, lexed}
use Rattle.elem.proofs.TokenLaws.{token_found, token_again}
use Rattle.elem.proofs.NumberText.{number_text, and_parts}

-- ---- a space

pub blank_back : (at : ℕ) (xs : List Lexeme) (bs : List ℕ) → Spells (at + 1) xs bs → Spells at xs (32 ∷ bs)
blank_back at [] bs s = (suc s.0, ap (λ (r : List ℕ). 32 ∷ r) s.1)
blank_back at (x ∷ xs) bs s = (suc s.0, s.1, record { is = ap (λ (r : List ℕ). 32 ∷ r) s.2.is; token = s.2.token; ended = s.2.ended; start = omega (arith, s.2.start); end = s.2.end }, s.3)

starts_no_blank : (b : ℕ) → starts_word b ≡ true → (b == 32) ≡ false
unfolding starts_word
starts_no_blank b h = grind (arith, nat_tests)

number_no_blank : (b : ℕ) → (is_digit b || b == 45) ≡ true → (b == 32) ≡ false
unfolding is_digit
number_no_blank b h = grind (arith, nat_tests)

-- the first byte is no space
record HasFirst (bytes : List ℕ) : Type 0 where
  first : ℕ
  rest : List ℕ
  is : bytes ≡ first ∷ rest
  none : (first == 32) ≡ false

word_first : (w : List ℕ) → is_word w ≡ true → HasFirst w
unfolding is_word
word_first [] h = absurd cc
word_first (b ∷ w) h = record { first = b; rest = w; is = refl; none = starts_no_blank b (and_parts (starts_word b) _ (and_parts (starts_word b && _) _ h).0).0 }

sign_first : (s : Sign) → HasFirst (sign_text s)
sign_first Lowest = record { first = 45; rest = 226 ∷ 136 ∷ 158 ∷ []; is = refl; none = refl }
sign_first Highest = record { first = 43; rest = 226 ∷ 136 ∷ 158 ∷ []; is = refl; none = refl }
sign_first Dots = record { first = 46; rest = 46 ∷ []; is = refl; none = refl }
sign_first Dot = record { first = 46; rest = []; is = refl; none = refl }
sign_first Comma = record { first = 44; rest = []; is = refl; none = refl }
sign_first Open = record { first = 40; rest = []; is = refl; none = refl }
sign_first Close = record { first = 41; rest = []; is = refl; none = refl }
sign_first OpenSquare = record { first = 91; rest = []; is = refl; none = refl }
sign_first CloseSquare = record { first = 93; rest = []; is = refl; none = refl }
sign_first Equals = record { first = 61; rest = []; is = refl; none = refl }

token_first : (t : Token) → IsToken t → HasFirst (token_text t)
token_first (tokens.Word w) is = word_first w is
token_first (tokens.Number n) is = let p = number_text n is in record { first = p.first; rest = p.rest; is = p.is; none = number_no_blank p.first p.starts }
token_first (tokens.Sign s) is = sign_first s

-- the first byte of a token is no space
no_blank : (t : Token) (rest bs : List ℕ) → IsToken t → token_text t ++ rest ≡ 32 ∷ bs → ⊥
no_blank t rest bs is e =
    let f = token_first t is in
    let g : f.first ∷ (f.rest ++ rest) ≡ 32 ∷ bs = ap (λ (r : List ℕ). r ++ rest) (sym f.is) ∙ e in
    let b_is : f.first ≡ 32 = cc in
    let none : (32 == 32) ≡ false = rw b_is at f.none in
    absurd cc

blank_nil : (n : ℕ) (bs : List ℕ) → 32 ∷ bs ≡ spaces n → (m : ℕ) × (bs ≡ spaces m)
blank_nil zero bs e = absurd cc
blank_nil (suc n) bs e = (n, cc)

blank_begins : (at n : ℕ) (x : Lexeme) (bs rest : List ℕ) → Begins at (32 ∷ bs) n x rest → (m : ℕ) × Begins (at + 1) bs m x rest
blank_begins at zero x bs rest b = absurd (no_blank x.token rest bs b.token (sym b.is))
blank_begins at (suc n) x bs rest b = (n, record { is = cc (b.is); token = b.token; ended = b.ended; start = omega (arith, b.start); end = b.end })

pub blank_forth : (at : ℕ) (xs : List Lexeme) (bs : List ℕ) → Spells at xs (32 ∷ bs) → Spells (at + 1) xs bs
blank_forth at [] bs s = blank_nil s.0 bs s.1
blank_forth at (x ∷ xs) bs s = let b = blank_begins at s.0 x bs s.1 s.2 in (b.0, s.1, b.1, s.3)

-- ---- a token

pub token_back : (at : ℕ) (t : Token) (len : ℕ) (text : List ℕ) (xs : List Lexeme) → IsTokenAt text t len → Spells (at + len) xs (drop len text) → Spells at (lexeme t at (at + len) ∷ xs) text
token_back at t len text xs at_front s =
    (0, drop len text, record { is = at_front.is; token = at_front.token; ended = at_front.ended; start = omega arith; end = omega (arith, at_front.len_is) }, s)

-- no spaces stand before a byte that is none
no_gap : (b : ℕ) (bs more : List ℕ) (n : ℕ) → b ≢ 32 → b ∷ bs ≡ spaces n ++ more → (n ≡ 0) × (b ∷ bs ≡ more)
no_gap b bs more zero ne e = (refl, e)
no_gap b bs more (suc n) ne e = absurd (ne cc)

-- a token that stands behind no spaces stands at the front
at_front : (at : ℕ) (b : ℕ) (bs : List ℕ) (n : ℕ) (x : Lexeme) (rest : List ℕ) → b ≢ 32 → Begins at (b ∷ bs) n x rest
    → IsTokenAt (b ∷ bs) x.token (length (token_text x.token)) × (drop (length (token_text x.token)) (b ∷ bs) ≡ rest) × (x.start ≡ at)
at_front at b bs n x rest ne h =
    let g = no_gap b bs (token_text x.token ++ rest) n ne h.is in
    let d : drop (length (token_text x.token)) (b ∷ bs) ≡ rest = rw g.1 (drop_at (token_text x.token) rest (length (token_text x.token)) refl) in
    (record { token = h.token; is = rw d g.1; len_is = refl; ended = rw d h.ended }, d, omega (arith, h.start, g.0))

abbrev pub some_found : Token × ℕ → Option (Token × ℕ)
some_found x = Some x

some_is : (x y : Token × ℕ) → some_found x ≡ some_found y → x ≡ y
some_is x y h = cc

no_blanks : (b : ℕ) (bs : List ℕ) (n : ℕ) → b ≢ 32 → b ∷ bs ≡ spaces n → ⊥
no_blanks b bs zero ne e = absurd cc
no_blanks b bs (suc n) ne e = ne cc

nil_append : (xs ys : List ℕ) → [] ≡ xs ++ ys → ys ≡ []
nil_append [] ys e = sym e
nil_append (x ∷ xs) ys e = absurd cc

-- a token has a byte
pub token_length : (t : Token) → IsToken t → 0 < length (token_text t)
token_length t is = let f = token_first t is in rw f.is (omega arith)

token_some : (t : Token) (rest : List ℕ) → IsToken t → token_text t ++ rest ≡ [] → ⊥
token_some t rest is e = absurd (omega (arith, token_length t is, ap length e, length-append (token_text t) rest))

x_is : (x : Lexeme) (t : Token) (start end : ℕ) → x.token ≡ t → x.start ≡ start → x.end ≡ end → x ≡ lexeme t start end
x_is x t start end a b c = rw (← a, ← b, ← c) refl

-- what is found at the front is the first token
token_begins : (at : ℕ) (t : Token) (len : ℕ) (b : ℕ) (bs : List ℕ) (n : ℕ) (x : Lexeme) (rest : List ℕ) → b ≢ 32
    → ((u : Token) (k : ℕ) → IsTokenAt (b ∷ bs) u k → some_found (t, len) ≡ some_found (u, k)) → Begins at (b ∷ bs) n x rest
    → (x ≡ lexeme t at (at + len)) × (drop len (b ∷ bs) ≡ rest)
token_begins at t len b bs n x rest ne only h =
    let f = at_front at b bs n x rest ne h in
    let e : (t, len) ≡ (x.token, length (token_text x.token)) = some_is _ _ (only x.token (length (token_text x.token)) f.0) in
    let t_is : x.token ≡ t = ap (λ (p : Token × ℕ). p.0) (sym e) in
    let len_is : length (token_text x.token) ≡ len = ap (λ (p : Token × ℕ). p.1) (sym e) in
    let end_is : x.end ≡ at + len = omega (arith, h.end, f.2) in
    (x_is x t at (at + len) t_is f.2 end_is, rw (← len_is) f.1)

pub token_forth : (at : ℕ) (t : Token) (len : ℕ) (b : ℕ) (bs : List ℕ) (ys : List Lexeme) → b ≢ 32
    → ((u : Token) (k : ℕ) → IsTokenAt (b ∷ bs) u k → some_found (t, len) ≡ some_found (u, k)) → Spells at ys (b ∷ bs)
    → (xs : List Lexeme) × (ys ≡ lexeme t at (at + len) ∷ xs) × Spells (at + len) xs (drop len (b ∷ bs))
token_forth at t len b bs [] ne only s = absurd (no_blanks b bs s.0 ne s.1)
token_forth at t len b bs (x ∷ xs) ne only s =
    let f = token_begins at t len b bs s.0 x s.1 ne only s.2 in
    let end_is : x.end ≡ at + len = ap (λ (y : Lexeme). y.end) f.0 in
    (xs, ap (λ (y : Lexeme). y ∷ xs) f.0, rw (f.1, ← end_is) s.3)

-- where no token stands, the bytes are no tokens
pub none_forth : (at : ℕ) (b : ℕ) (bs : List ℕ) (ys : List Lexeme) → b ≢ 32 → ((u : Token) (k : ℕ) → IsTokenAt (b ∷ bs) u k → ⊥) → Spells at ys (b ∷ bs) → ⊥
none_forth at b bs [] ne none s = no_blanks b bs s.0 ne s.1
none_forth at b bs (x ∷ xs) ne none s = none x.token _ (at_front at b bs s.0 x s.1 ne s.2).0

pub end_forth : (at : ℕ) (ys : List Lexeme) → Spells at ys [] → ys ≡ []
end_forth at [] s = refl
end_forth at (x ∷ xs) s = absurd (token_some x.token s.1 s.2.token (nil_append (spaces s.0) (token_text x.token ++ s.1) s.2.is))

-- ---- the function and the relation

some_tokens : (xs ys : List Lexeme) → Some xs ≡ Some ys → xs ≡ ys
some_tokens xs ys h = cc

-- what belongs to the token before is passed
pub lexed_past-passed : (k at : ℕ) (bs : List ℕ) → lexed_past k at bs ≡ lexed_past 0 (at + k) (drop k bs)
unfolding lexed_past
lexed_past-passed zero at bs = rw add-zero refl
lexed_past-passed (suc k) at [] = refl
lexed_past-passed (suc k) at (b ∷ bs) = lexed_past-passed k (at + 1) bs ∙ ap (λ (n : ℕ). lexed_past 0 n (drop k bs)) (omega arith)

pub lexed-space : (at : ℕ) (b : ℕ) (bs : List ℕ) → (b == 32) ≡ true → lexed_past 0 at (b ∷ bs) ≡ lexed_past 0 (at + 1) bs
unfolding lexed_past
lexed-space at b bs h = rw h refl

pub lexed-token : (at : ℕ) (b : ℕ) (bs : List ℕ) → (b == 32) ≡ false → lexed_past 0 at (b ∷ bs) ≡ with_token at (token_at (b ∷ bs)) (λ k. lexed_past k (at + 1) bs)
unfolding lexed_past
lexed-token at b bs h = rw h refl

-- a list of tokens that was found with a first one
with_first_is : (x : Lexeme) (o : Option (List Lexeme)) (xs : List Lexeme) → with_first x o ≡ Some xs → (ys : List Lexeme) × (o ≡ Some ys) × (xs ≡ x ∷ ys)
with_first_is x None xs h = absurd cc
with_first_is x (Some ys) xs h = (ys, refl, sym (some_tokens _ _ h))

pub token_is_at : (at b : ℕ) (bs : List ℕ) (t : Token) (len : ℕ) → (b == 32) ≡ false → token_at (b ∷ bs) ≡ some_found (t, len) → lexed_past 0 at (b ∷ bs) ≡ with_first (lexeme t at (at + len)) (lexed_past 0 (at + len) (drop len (b ∷ bs)))
token_is_at at b bs t len other h =
    let is = token_found (b ∷ bs) t len h in
    let some : 0 < len = omega (arith, is.len_is, token_length t is.token) in
    let d : drop len (b ∷ bs) ≡ drop (len - 1) bs = ap (λ (n : ℕ). drop n (b ∷ bs)) (let e : len ≡ suc (len - 1) = omega arith in e) in
    lexed-token at b bs other ∙ rw h (ap (λ (o : Option (List Lexeme)). with_first (lexeme t at (at + len)) o) (lexed_past-passed (len - 1) (at + 1) bs ∙ rw d (ap (λ (n : ℕ). lexed_past 0 n (drop (len - 1) bs)) (let e : at + 1 + (len - 1) ≡ at + len = omega arith in e))))

-- ---- the steps of next_lexeme

pub from_space : (text : List ℕ) (at : ℕ) → at < length text → get_or text at 0 ≡ 32 → lexed_from text (at + 1) ≡ lexed_from text at
from_space text at lt blank =
    let e : drop at text ≡ get_or text at 0 ∷ drop (at + 1) text = drop_more text at 0 lt in
    rw e (sym (lexed-space at (get_or text at 0) (drop (at + 1) text) (rw blank refl)))

no_byte : (b : ℕ) → b ≢ 32 → (b == 32) ≡ false
no_byte b ne = grind (arith, nat_tests)

pub from_end : (text : List ℕ) (at : ℕ) → at ≡ length text → lexed_from text at ≡ Some []
unfolding lexed_past
from_end text at e = let le : length text ≤ at = omega arith in rw (drop_of_length-le text le) refl

pub from_token : (text : List ℕ) (at : ℕ) (t : Token) (len : ℕ) → at < length text → get_or text at 0 ≢ 32 → token_at (drop at text) ≡ some_found (t, len) → lexed_from text at ≡ with_first (lexeme t at (at + len)) (lexed_from text (at + len))
from_token text at t len lt ne h =
    let e : drop at text ≡ get_or text at 0 ∷ drop (at + 1) text = drop_more text at 0 lt in
    let d : drop len (drop at text) ≡ drop (at + len) text = drop-drop len at text in
    let g = token_is_at at (get_or text at 0) (drop (at + 1) text) t len (no_byte _ ne) (rw e at h) in
    rw (← d, e) g

pub from_fault : (text : List ℕ) (at : ℕ) → at < length text → get_or text at 0 ≢ 32 → token_at (drop at text) ≡ None → lexed_from text at ≡ None
from_fault text at lt ne h =
    let e : drop at text ≡ get_or text at 0 ∷ drop (at + 1) text = drop_more text at 0 lt in
    rw e (lexed-token at (get_or text at 0) (drop (at + 1) text) (no_byte _ ne) ∙ rw (rw e at h) refl)

-- `&text[at..]`
pub rest_is : (text : List ℕ) (at : ℕ) → take (length text - at) (drop at text) ≡ drop at text
rest_is text at = take_all (length text - at) (drop at text) (omega (arith, length-drop at text))

-- ---- the function finds the tokens of the relation, and no others

test_of : (b : Bool) → (b ≡ true) ⊎ (b ≡ false)
test_of true = inl refl
test_of false = inr refl

byte_is : (b : ℕ) → (b == 32) ≡ false → b ≢ 32
byte_is b h e = let f : (32 == 32) ≡ false = rw e at h in absurd cc

token_spells : (at b : ℕ) (bs : List ℕ) (xs : List Lexeme) (o : Option (Token × ℕ)) → (b == 32) ≡ false → token_at (b ∷ bs) ≡ o → with_token at o (λ k. lexed_past k (at + 1) bs) ≡ Some xs
    → ((k : ℕ) (ys : List Lexeme) → lexed_past k (at + 1) bs ≡ Some ys → Spells (at + 1 + k) ys (drop k bs)) → Spells at xs (b ∷ bs)
token_spells at b bs xs None other is h more = absurd cc
token_spells at b bs xs (Some x) other is h more =
    let f = with_first_is (lexeme x.0 at (at + x.1)) (lexed_past (x.1 - 1) (at + 1) bs) xs h in
    let t = token_found (b ∷ bs) x.0 x.1 is in
    let some : 0 < x.1 = omega (arith, t.len_is, token_length x.0 t.token) in
    let d : drop (x.1 - 1) bs ≡ drop x.1 (b ∷ bs) = ap (λ (n : ℕ). drop n (b ∷ bs)) (let e : suc (x.1 - 1) ≡ x.1 = omega arith in e) in
    let place : at + 1 + (x.1 - 1) ≡ at + x.1 = omega arith in
    rw f.2 (token_back at x.0 x.1 (b ∷ bs) f.0 t (rw (place, d) at (more (x.1 - 1) f.0 f.1)))

pub lexed_spells : (k at : ℕ) (bs : List ℕ) (xs : List Lexeme) → lexed_past k at bs ≡ Some xs → Spells (at + k) xs (drop k bs)
unfolding lexed_past
lexed_spells zero at [] xs h = rw (← some_tokens [] xs h) (0, refl)
lexed_spells (suc k) at [] xs h = rw (← some_tokens [] xs h) (0, refl)
lexed_spells (suc k) at (b ∷ bs) xs h = let e : at + suc k ≡ at + 1 + k = omega arith in rw e (lexed_spells k (at + 1) bs xs h)
lexed_spells zero at (b ∷ bs) xs h = elim (test_of (b == 32)) [
  | inl is ↦ rw (eqb-true b 32 is, add-zero) (blank_back at xs bs (rw add-zero at (lexed_spells 0 (at + 1) bs xs (sym (lexed-space at b bs is) ∙ h))))
  | inr other ↦ rw add-zero (token_spells at b bs xs (token_at (b ∷ bs)) other refl (sym (lexed-token at b bs other) ∙ h) (λ k ys e. lexed_spells k (at + 1) bs ys e))
]

-- a token of the relation is the one that is found
spelled_token : (at b : ℕ) (bs : List ℕ) (n : ℕ) (x : Lexeme) (rest : List ℕ) → (b == 32) ≡ false → Begins at (b ∷ bs) n x rest
    → (token_at (b ∷ bs) ≡ some_found (x.token, length (token_text x.token))) × (drop (length (token_text x.token)) (b ∷ bs) ≡ rest) × (x ≡ lexeme x.token at (at + length (token_text x.token)))
spelled_token at b bs n x rest other h =
    let f = at_front at b bs n x rest (byte_is b other) h in
    (token_again (b ∷ bs) x.token (length (token_text x.token)) f.0, f.1, x_is x x.token at (at + length (token_text x.token)) refl f.2 (omega (arith, h.end, f.2)))

begun_again : (at b : ℕ) (bs : List ℕ) (n : ℕ) (x : Lexeme) (xs : List Lexeme) (rest : List ℕ) → (b == 32) ≡ false → Begins at (b ∷ bs) n x rest
    → ((k : ℕ) → Spells (at + 1 + k) xs (drop k bs) → lexed_past k (at + 1) bs ≡ Some xs) → Spells x.end xs rest → lexed_past 0 at (b ∷ bs) ≡ Some (x ∷ xs)
begun_again at b bs n x xs rest other h more s =
    let len : ℕ = length (token_text x.token) in
    let f = spelled_token at b bs n x rest other h in
    let some : 0 < length (token_text x.token) = token_length x.token h.token in
    let d : drop (len - 1) bs ≡ drop len (b ∷ bs) = ap (λ (n : ℕ). drop n (b ∷ bs)) (let e : suc (len - 1) ≡ len = omega arith in e) in
    let place : x.end ≡ at + 1 + (len - 1) = omega (arith, ap (λ (y : Lexeme). y.end) f.2) in
    let tail : lexed_past (len - 1) (at + 1) bs ≡ Some xs = more (len - 1) (rw (d, f.1, ← place) s) in
    lexed-token at b bs other ∙ rw (f.0, tail) (ap (λ (y : Lexeme). with_first y (Some xs)) (sym f.2))

front_again : (at b : ℕ) (bs : List ℕ) (xs : List Lexeme) → (b == 32) ≡ false → ((k : ℕ) (ys : List Lexeme) → Spells (at + 1 + k) ys (drop k bs) → lexed_past k (at + 1) bs ≡ Some ys) → Spells at xs (b ∷ bs) → lexed_past 0 at (b ∷ bs) ≡ Some xs
front_again at b bs [] other more s = absurd (no_blanks b bs s.0 (byte_is b other) s.1)
front_again at b bs (x ∷ xs) other more s = begun_again at b bs s.0 x xs s.1 other s.2 (λ k t. more k xs t) s.3

pub spells_lexed : (k at : ℕ) (bs : List ℕ) (xs : List Lexeme) → Spells (at + k) xs (drop k bs) → lexed_past k at bs ≡ Some xs
unfolding lexed_past
spells_lexed zero at [] xs s = ap Some (sym (end_forth (at + 0) xs s))
spells_lexed (suc k) at [] xs s = ap Some (sym (end_forth (at + suc k) xs s))
spells_lexed (suc k) at (b ∷ bs) xs s = let e : at + 1 + k ≡ at + suc k = omega arith in spells_lexed k (at + 1) bs xs (rw e s)
spells_lexed zero at (b ∷ bs) xs s = elim (test_of (b == 32)) [
  | inl is ↦ lexed-space at b bs is ∙ spells_lexed 0 (at + 1) bs xs (rw add-zero (blank_forth at xs bs (rw (add-zero, eqb-true b 32 is) at s)))
  | inr other ↦ front_again at b bs xs other (λ k ys t. spells_lexed k (at + 1) bs ys t) (rw add-zero at s)
]

-- a text is lexed as these tokens exactly where it is spelled by them
pub lexed_iff : (text : List ℕ) (xs : List Lexeme) → (lexed text ≡ Some xs) ↔ Spells 0 xs text
lexed_iff text xs = (λ h. lexed_spells 0 0 text xs h, λ s. spells_lexed 0 0 text xs s)
