-- What a token is, and what is found at the front of a text, are one thing.
use Rattle.std.proofs.Common.{◌≡◌, ℕ, ℤ, suc, ◌+◌, ◌≤◌, Bool, true, false, cond, ltb, List, [], ◌∷◌, ◌++◌, length, take, drop, Option, Some, None, refl, sym, ap, ◌∙◌, subst, arith, inl, inr, ◌⊎◌}
use Rattle.std.specs.Prelude.{FitsSigned, ◌&&◌, ◌||◌, ◌==◌, not}
use Rattle.std.specs.Int.{w64}
use Rattle.std.specs.List.{list_all, prefix_len}
use Rattle.std.specs.Option.{option_map}
use Rattle.std.specs.Fmt.{signed_decimal}
use Rattle.std.proofs.lemmas.Bool.{eqb-true}
use Rattle.std.proofs.lemmas.List.{take_at, take-append-drop, length-append, length-take}
use Rattle.std.proofs.lemmas.List.Sums.{prefix_len-le-length}
use Rattle.elem.specs.declared.tokens.Sign.{Sign}
use Rattle.elem.specs.declared.tokens.Sign.TheVariants.{Lowest, Highest, Dots, Dot, Comma, Open, Close, OpenSquare, CloseSquare, Equals}
use Rattle.elem.specs.declared.tokens.Token.{Token}
use Rattle.elem.specs.declared.tokens.Token.TheVariants as tokens
use Rattle.elem.specs.declared.tokens.Kind.{Kind}
use Rattle.elem.specs.declared.tokens.Kind.TheVariants as kinds
use Rattle.elem.specs.Words.{is_digit, starts_word, continues_word, is_word}
use Rattle.elem.specs.Tokens.{sign_text, token_text, IsToken, goes_on, is_ended, IsTokenAt, begins_infinity, begins_dot, sign_of, kind_at, token_of, token_at_kind, token_at}
use Rattle.elem.specs.Spelling.{number_of}
use Rattle.elem.proofs.NumberText.{number_read, number_again as spelled_again}
use Rattle.elem.proofs.NumberText.{number_text, starts_no_word, and_parts}

-- the bytes of a token of this kind are those of the token
abbrev pub Reads : Kind → List ℕ → Token → Type 0
Reads kinds.Word bytes t = (is_word bytes ≡ true) × (t ≡ tokens.Word bytes)
Reads kinds.Number bytes t = (n : ℤ) × FitsSigned w64 n × (bytes ≡ signed_decimal n) × (t ≡ tokens.Number n)
Reads (kinds.Sign s) bytes t = t ≡ tokens.Sign s

-- ---- runs of bytes

abbrev pub stops : (ℕ → Bool) → List ℕ → Bool
stops p [] = true
stops p (b ∷ bs) = not (p b)

not_true : (b : Bool) → not b ≡ true → b ≡ false
not_true true h = absurd cc
not_true false h = refl

pub run_of_all : (p : ℕ → Bool) (bs rest : List ℕ) → list_all p bs ≡ true → stops p rest ≡ true → prefix_len p (bs ++ rest) ≡ length bs
run_of_all p [] [] all stop = refl
run_of_all p [] (r ∷ rest) all stop = rw (not_true (p r) stop) refl
run_of_all p (b ∷ bs) rest all stop =
    let h = and_parts (p b) (list_all p bs) all in
    rw (h.0, run_of_all p bs rest h.1 stop) (omega arith)

-- what is known of a run of bytes that pass the test, at the front of bs
pub record IsRun (p : ℕ → Bool) (bs : List ℕ) (n : ℕ) : Type 0 where
  pub all : list_all p (take n bs) ≡ true
  pub stop : stops p (drop n bs) ≡ true

run_step : (p : ℕ → Bool) (b : ℕ) (bs : List ℕ) (test : Bool) → p b ≡ test → IsRun p bs (prefix_len p bs) → IsRun p (b ∷ bs) (cond test (1 + prefix_len p bs) 0)
run_step p b bs true passes run =
    let e : 1 + prefix_len p bs ≡ suc (prefix_len p bs) = omega arith in
    rw e (record { all = rw (passes, run.all) refl; stop = run.stop })
run_step p b bs false passes run = record { all = refl; stop = rw passes refl }

pub run : (p : ℕ → Bool) (bs : List ℕ) → IsRun p bs (prefix_len p bs)
run p [] = record { all = refl; stop = refl }
run p (b ∷ bs) = run_step p b bs (p b) refl (run p bs)

-- ---- a token that stands at the front is found

pub kind_of : Token → Kind
kind_of (tokens.Word w) = kinds.Word
kind_of (tokens.Number n) = kinds.Number
kind_of (tokens.Sign s) = kinds.Sign s

sign_again : (s : Sign) (rest : List ℕ) → is_ended (tokens.Sign s) rest ≡ true → kind_at (sign_text s ++ rest) ≡ Some (kinds.Sign s, length (sign_text s))
unfolding kind_at begins_infinity begins_dot sign_of starts_word is_digit
sign_again Lowest rest h = refl
sign_again Highest rest h = refl
sign_again Dots rest h = refl
sign_again Dot [] h = refl
sign_again Dot (b ∷ rest) h = rw (not_true (b == 46) h) refl
sign_again Comma rest h = refl
sign_again Open rest h = refl
sign_again Close rest h = refl
sign_again OpenSquare rest h = refl
sign_again CloseSquare rest h = refl
sign_again Equals rest h = refl

or_swap : (a b : Bool) → (a || b) ≡ true → (b || a) ≡ true
or_swap true true h = refl
or_swap true false h = refl
or_swap false b h = rw h refl

word_stops : (rest : List ℕ) (w : List ℕ) → is_ended (tokens.Word w) rest ≡ true → stops continues_word rest ≡ true
word_stops [] w h = refl
word_stops (b ∷ rest) w h = h

number_stops : (rest : List ℕ) (n : ℤ) → is_ended (tokens.Number n) rest ≡ true → stops is_digit rest ≡ true
number_stops [] n h = refl
number_stops (b ∷ rest) n h = h

-- the bytes at the front are those of the token
front : (text : List ℕ) (t : Token) (len : ℕ) → IsTokenAt text t len → take len text ≡ token_text t
front text t len at = ap (take len) at.is ∙ take_at (token_text t) (drop len text) len (sym at.len_is)

word_again : (w rest : List ℕ) → is_word w ≡ true → is_ended (tokens.Word w) rest ≡ true → kind_at (w ++ rest) ≡ Some (kinds.Word, length w)
unfolding kind_at is_word
word_again [] rest word ended = absurd cc
word_again (b ∷ bs) rest word ended =
    let h = and_parts (starts_word b && ltb (length bs) 24) (list_all continues_word bs) word in
    let g = and_parts (starts_word b) (ltb (length bs) 24) h.0 in
    let e : prefix_len continues_word (bs ++ rest) + 1 ≡ suc (length bs) = omega (arith, run_of_all continues_word bs rest h.1 (word_stops rest (b ∷ bs) ended)) in
    rw (g.0, e) refl

number_again : (n : ℤ) (rest : List ℕ) → FitsSigned w64 n → is_ended (tokens.Number n) rest ≡ true → kind_at (signed_decimal n ++ rest) ≡ Some (kinds.Number, length (signed_decimal n))
unfolding kind_at
number_again n rest fits ended =
    let p = number_text n fits in
    let e : prefix_len is_digit (p.rest ++ rest) + 1 ≡ suc (length p.rest) = omega (arith, run_of_all is_digit p.rest rest p.digits (number_stops rest n ended)) in
    rw (p.is, starts_no_word p.first p.starts, p.finite rest, or_swap (is_digit p.first) (p.first == 45) p.starts, e) refl

pub kind_again : (t : Token) (rest : List ℕ) → IsToken t → is_ended t rest ≡ true → kind_at (token_text t ++ rest) ≡ Some (kind_of t, length (token_text t))
unfolding kind_of
kind_again (tokens.Word w) rest is ended = word_again w rest is ended
kind_again (tokens.Number n) rest is ended = number_again n rest is ended
kind_again (tokens.Sign s) rest is ended = sign_again s rest ended

pub kind_found : (text : List ℕ) (t : Token) (len : ℕ) → IsTokenAt text t len → kind_at text ≡ Some (kind_of t, len)
kind_found text t len at = ap kind_at at.is ∙ kind_again t (drop len text) at.token at.ended ∙ ap (λ (n : ℕ). Some (kind_of t, n)) (sym at.len_is)

pub reads_again : (text : List ℕ) (t : Token) (len : ℕ) → IsTokenAt text t len → Reads (kind_of t) (take len text) t
unfolding kind_of
reads_again text (tokens.Word w) len at = let e = front text (tokens.Word w) len at in (rw e at.token, rw e refl)
reads_again text (tokens.Number n) len at = (n, at.token, front text (tokens.Number n) len at, refl)
reads_again text (tokens.Sign s) len at = refl

abbrev some : Kind × ℕ → Option (Kind × ℕ)
some x = Some x

some_is : (x y : Kind × ℕ) → some x ≡ some y → x ≡ y
some_is x y h = cc

stops_word : (rest w : List ℕ) → stops continues_word rest ≡ true → is_ended (tokens.Word w) rest ≡ true
stops_word [] w h = refl
stops_word (b ∷ rest) w h = h

stops_number : (rest : List ℕ) (n : ℤ) → stops is_digit rest ≡ true → is_ended (tokens.Number n) rest ≡ true
stops_number [] n h = refl
stops_number (b ∷ rest) n h = h

pub never_goes_on : (s : Sign) (rest : List ℕ) → ((b : ℕ) → goes_on (tokens.Sign s) b ≡ false) → is_ended (tokens.Sign s) rest ≡ true
never_goes_on s [] h = refl
never_goes_on s (b ∷ rest) h = rw (h b) refl

none_is_some : (x : Kind × ℕ) → None ≡ some x → ⊥
none_is_some x h = cc

abbrev pub some_token : Token → Option Token
some_token t = Some t

abbrev pub some_found : Token × ℕ → Option (Token × ℕ)
some_found x = Some x

found_is : (x y : Token × ℕ) → some_found x ≡ some_found y → x ≡ y
found_is x y h = cc

abbrev pub none_token : Option Token
none_token = None

-- ---- what is found at the front is a token

-- any token that these first bytes are is as long as possible
pub record IsKindAt (text : List ℕ) (found : Kind × ℕ) : Type 0 where
  pub within : found.1 ≤ length text
  pub token : (t : Token) → Reads found.0 (take found.1 text) t → IsTokenAt text t found.1

chosen : {A : Type 0} (b : Bool) (x y z : A) → cond b x y ≡ z → ((b ≡ true) × (x ≡ z)) ⊎ ((b ≡ false) × (y ≡ z))
chosen true x y z h = inl (refl, h)
chosen false x y z h = inr (refl, h)

word_takes : (b : ℕ) (bs : List ℕ) → IsKindAt (b ∷ bs) (kinds.Word, prefix_len continues_word bs + 1)
word_takes b bs =
    let n = prefix_len continues_word bs in
    let more : n + 1 ≡ suc n = omega arith in
    let le : n ≤ length bs = prefix_len-le-length continues_word bs in
    rw more (record {
      within = omega arith;
      token = λ t r. rw r.1 (record {
        token = r.0;
        is = sym (take-append-drop (suc n) (b ∷ bs));
        len_is = omega (arith, length-take (suc n) (b ∷ bs));
        ended = stops_word (drop n bs) (take (suc n) (b ∷ bs)) (run continues_word bs).stop;
      });
    })

number_takes : (b : ℕ) (bs : List ℕ) → IsKindAt (b ∷ bs) (kinds.Number, prefix_len is_digit bs + 1)
number_takes b bs =
    let n = prefix_len is_digit bs in
    let more : n + 1 ≡ suc n = omega arith in
    let le : n ≤ length bs = prefix_len-le-length is_digit bs in
    rw more (record {
      within = omega arith;
      token = λ t r. rw r.3 (record {
        token = r.1;
        is = rw (← r.2) (sym (take-append-drop (suc n) (b ∷ bs)));
        len_is = rw (← r.2) (omega (arith, length-take (suc n) (b ∷ bs)));
        ended = stops_number (drop n bs) r.0 (run is_digit bs).stop;
      });
    })

sign_takes : (text : List ℕ) (s : Sign) → text ≡ sign_text s ++ drop (length (sign_text s)) text → is_ended (tokens.Sign s) (drop (length (sign_text s)) text) ≡ true → IsKindAt text (kinds.Sign s, length (sign_text s))
sign_takes text s is ended = record {
  within = omega (arith, ap length is, length-append (sign_text s) (drop (length (sign_text s)) text));
  token = λ t r. rw r (record { token = tt; is = is; len_is = refl; ended = ended });
}

infinity_is : (bs : List ℕ) → begins_infinity bs ≡ true → bs ≡ 226 ∷ 136 ∷ 158 ∷ drop 3 bs
unfolding begins_infinity
infinity_is [] h = absurd cc
infinity_is (a ∷ []) h = absurd cc
infinity_is (a ∷ b ∷ []) h = absurd cc
infinity_is (a ∷ b ∷ c ∷ bs) h =
    let p = and_parts (a == 226 && b == 136) (c == 158) h in
    let q = and_parts (a == 226) (b == 136) p.0 in
    rw (eqb-true a 226 q.0, eqb-true b 136 q.1, eqb-true c 158 p.1) refl

dot_is : (bs : List ℕ) → begins_dot bs ≡ true → bs ≡ 46 ∷ drop 1 bs
unfolding begins_dot
dot_is [] h = absurd cc
dot_is (b ∷ bs) h = rw (eqb-true b 46 h) refl

lowest_takes : (b : ℕ) (bs : List ℕ) → (b == 45 && begins_infinity bs) ≡ true → IsKindAt (b ∷ bs) (kinds.Sign Lowest, 4)
lowest_takes b bs h =
    let p = and_parts (b == 45) (begins_infinity bs) h in
    sign_takes (b ∷ bs) Lowest (rw (eqb-true b 45 p.0) (ap (λ (x : List ℕ). 45 ∷ x) (infinity_is bs p.1))) (never_goes_on Lowest (drop 3 bs) (λ b. refl))

highest_takes : (b : ℕ) (bs : List ℕ) → (b == 43 && begins_infinity bs) ≡ true → IsKindAt (b ∷ bs) (kinds.Sign Highest, 4)
highest_takes b bs h =
    let p = and_parts (b == 43) (begins_infinity bs) h in
    sign_takes (b ∷ bs) Highest (rw (eqb-true b 43 p.0) (ap (λ (x : List ℕ). 43 ∷ x) (infinity_is bs p.1))) (never_goes_on Highest (drop 3 bs) (λ b. refl))

dots_takes : (b : ℕ) (bs : List ℕ) → (b == 46 && begins_dot bs) ≡ true → IsKindAt (b ∷ bs) (kinds.Sign Dots, 2)
dots_takes b bs h =
    let p = and_parts (b == 46) (begins_dot bs) h in
    sign_takes (b ∷ bs) Dots (rw (eqb-true b 46 p.0) (ap (λ (x : List ℕ). 46 ∷ x) (dot_is bs p.1))) (never_goes_on Dots (drop 1 bs) (λ b. refl))

-- the signs of one byte
abbrev some_sign : Sign → Option Sign
some_sign s = Some s

sign_some : (s t : Sign) → some_sign s ≡ some_sign t → s ≡ t
sign_some s t h = cc

none_is : (s : Sign) → None ≡ some_sign s → ⊥
none_is s h = cc

sign_is : (b : ℕ) (s : Sign) → sign_of b ≡ Some s → sign_text s ≡ b ∷ []
unfolding sign_of
sign_is b s h =
    elim (chosen (b == 46) _ _ _ h) [ inl p ↦ subst (λ t. sign_text t ≡ b ∷ []) (sign_some _ _ p.1) (rw (eqb-true b 46 p.0) refl) | inr q0 ↦ elim (chosen (b == 44) _ _ _ q0.1) [ inl p ↦ subst (λ t. sign_text t ≡ b ∷ []) (sign_some _ _ p.1) (rw (eqb-true b 44 p.0) refl) | inr q1 ↦ elim (chosen (b == 40) _ _ _ q1.1) [ inl p ↦ subst (λ t. sign_text t ≡ b ∷ []) (sign_some _ _ p.1) (rw (eqb-true b 40 p.0) refl) | inr q2 ↦ elim (chosen (b == 41) _ _ _ q2.1) [ inl p ↦ subst (λ t. sign_text t ≡ b ∷ []) (sign_some _ _ p.1) (rw (eqb-true b 41 p.0) refl) | inr q3 ↦ elim (chosen (b == 91) _ _ _ q3.1) [ inl p ↦ subst (λ t. sign_text t ≡ b ∷ []) (sign_some _ _ p.1) (rw (eqb-true b 91 p.0) refl) | inr q4 ↦ elim (chosen (b == 93) _ _ _ q4.1) [ inl p ↦ subst (λ t. sign_text t ≡ b ∷ []) (sign_some _ _ p.1) (rw (eqb-true b 93 p.0) refl) | inr q5 ↦ elim (chosen (b == 61) _ _ _ q5.1) [ inl p ↦ subst (λ t. sign_text t ≡ b ∷ []) (sign_some _ _ p.1) (rw (eqb-true b 61 p.0) refl) | inr q6 ↦ absurd (none_is s q6.1) ] ] ] ] ] ] ]

mapped : (o : Option Sign) (x : Kind × ℕ) → option_map (λ s. (kinds.Sign s, 1)) o ≡ Some x → (s : Sign) × (o ≡ Some s) × (some (kinds.Sign s, 1) ≡ some x)
mapped None x h = absurd cc
mapped (Some s) x h = (s, refl, h)

sign_ends : (s : Sign) (b : ℕ) (bs : List ℕ) → sign_text s ≡ b ∷ [] → (b == 46 && begins_dot bs) ≡ false → is_ended (tokens.Sign s) bs ≡ true
unfolding begins_dot
sign_ends s b [] is h = refl
sign_ends Dot b (r ∷ bs) is h = let e : b ≡ 46 = cc in let g : (r == 46) ≡ false = rw e at h in rw g refl
sign_ends s b (r ∷ bs) is h = refl

one_byte : (b : ℕ) (bs : List ℕ) (x : Kind × ℕ) → (b == 46 && begins_dot bs) ≡ false → option_map (λ s. (kinds.Sign s, 1)) (sign_of b) ≡ Some x → IsKindAt (b ∷ bs) x
one_byte b bs x no_dots h =
    let m = mapped (sign_of b) x h in
    let is = sign_is b m.0 m.1 in
    let len : length (sign_text m.0) ≡ 1 = ap length is in
    let one : IsKindAt (b ∷ bs) (kinds.Sign m.0, length (sign_text m.0)) = sign_takes (b ∷ bs) m.0 (rw (len, is) refl) (rw len (sign_ends m.0 b bs is no_dots)) in
    subst (λ y. IsKindAt (b ∷ bs) y) (some_is _ _ m.2) (rw len at one)

pub kind_takes : (text : List ℕ) (x : Kind × ℕ) → kind_at text ≡ Some x → IsKindAt text x
unfolding kind_at
kind_takes [] x h = absurd cc
kind_takes (b ∷ bs) x h =
    elim (chosen (starts_word b) _ _ _ h) [
      | inl p ↦ subst (λ y. IsKindAt (b ∷ bs) y) (some_is _ _ p.1) (word_takes b bs)
      | inr q ↦ elim (chosen (b == 45 && begins_infinity bs) _ _ _ q.1) [
        | inl p ↦ subst (λ y. IsKindAt (b ∷ bs) y) (some_is _ _ p.1) (lowest_takes b bs p.0)
        | inr q ↦ elim (chosen (b == 45 || is_digit b) _ _ _ q.1) [
          | inl p ↦ subst (λ y. IsKindAt (b ∷ bs) y) (some_is _ _ p.1) (number_takes b bs)
          | inr q ↦ elim (chosen (b == 43 && begins_infinity bs) _ _ _ q.1) [
            | inl p ↦ subst (λ y. IsKindAt (b ∷ bs) y) (some_is _ _ p.1) (highest_takes b bs p.0)
            | inr q ↦ elim (chosen (b == 46 && begins_dot bs) _ _ _ q.1) [
              | inl p ↦ subst (λ y. IsKindAt (b ∷ bs) y) (some_is _ _ p.1) (dots_takes b bs p.0)
              | inr q ↦ one_byte b bs x q.0 q.1
            ]
          ]
        ]
      ]
    ]

-- ---- the token that a kind and its bytes are

some_token_is : (t u : Token) → some_token t ≡ some_token u → t ≡ u
some_token_is t u h = cc

word_read : (w : List ℕ) (b : Bool) (t : Token) → is_word w ≡ b → option_map tokens.Word (cond b (Some w) None) ≡ Some t → (is_word w ≡ true) × (t ≡ tokens.Word w)
word_read w true t is h = (is, sym (some_token_is _ _ h))
word_read w false t is h = absurd cc

number_reads : (o : Option ℤ) (t : Token) → option_map tokens.Number o ≡ Some t → (n : ℤ) × (o ≡ Some n) × (t ≡ tokens.Number n)
number_reads None t h = absurd cc
number_reads (Some n) t h = (n, refl, sym (some_token_is _ _ h))

token_reads : (k : Kind) (bytes : List ℕ) (t : Token) → token_of k bytes ≡ Some t → Reads k bytes t
token_reads kinds.Word bytes t h = word_read bytes (is_word bytes) t refl h
token_reads kinds.Number bytes t h =
    let r = number_reads (number_of bytes) t h in
    let n = number_read bytes r.0 r.1 in
    (r.0, n.0, n.1, r.2)
token_reads (kinds.Sign s) bytes t h = sym (some_token_is _ _ h)

reads_token : (k : Kind) (bytes : List ℕ) (t : Token) → Reads k bytes t → token_of k bytes ≡ Some t
reads_token kinds.Word bytes t r = rw (r.0, r.1) refl
reads_token kinds.Number bytes t r = rw (r.2, r.3, spelled_again r.0 r.1) refl
reads_token (kinds.Sign s) bytes t r = rw r refl

-- ---- what is found and what stands there are one thing

found_with : (n : ℕ) (o : Option Token) (t : Token) (len : ℕ) → option_map (λ t. (t, n)) o ≡ some_found (t, len) → (o ≡ Some t) × (n ≡ len)
found_with n None t len h = absurd cc
found_with n (Some u) t len h =
    let e : (u, n) ≡ (t, len) = found_is (u, n) (t, len) h in
    (ap (λ (p : Token × ℕ). Some p.0) e, ap (λ (p : Token × ℕ). p.1) e)

at_kind_found : (text : List ℕ) (o : Option (Kind × ℕ)) (t : Token) (len : ℕ) → kind_at text ≡ o → token_at_kind o text ≡ some_found (t, len) → IsTokenAt text t len
at_kind_found text None t len is h = absurd cc
at_kind_found text (Some x) t len is h =
    let f = found_with x.1 (token_of x.0 (take x.1 text)) t len h in
    rw (← f.1) ((kind_takes text x is).token t (token_reads x.0 (take x.1 text) t f.0))

pub token_found : (text : List ℕ) (t : Token) (len : ℕ) → token_at text ≡ some_found (t, len) → IsTokenAt text t len
token_found text t len h = at_kind_found text (kind_at text) t len refl h

pub token_again : (text : List ℕ) (t : Token) (len : ℕ) → IsTokenAt text t len → token_at text ≡ some_found (t, len)
token_again text t len at = rw (kind_found text t len at, reads_token (kind_of t) (take len text) t (reads_again text t len at)) refl

pub kind_within : (text : List ℕ) (x : Kind × ℕ) → kind_at text ≡ Some x → x.1 ≤ length text
kind_within text x h = (kind_takes text x h).within

pub found_none : (x : Token × ℕ) → None ≡ some_found x → ⊥
found_none x h = cc

-- ---- the exits of next_token

pub at_no_kind : (text : List ℕ) → None ≡ kind_at text → token_at text ≡ None
at_no_kind text h = rw (sym h) refl

pub at_no_token : (text : List ℕ) (k : Kind) (n : ℕ) → Some (k, n) ≡ kind_at text → None ≡ token_of k (take n text) → token_at text ≡ None
at_no_token text k n h e = rw (sym h, sym e) refl

pub at_token : (text : List ℕ) (k : Kind) (n : ℕ) (t : Token) → Some (k, n) ≡ kind_at text → Some t ≡ token_of k (take n text) → token_at text ≡ some_found (t, n)
at_token text k n t h e = rw (sym h, sym e) refl
