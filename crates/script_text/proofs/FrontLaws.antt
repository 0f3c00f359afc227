-- Comments, and lines that make a base.
use Rattle.std.proofs.Common.{◌≡◌, ◌⊎◌, inl, inr, ℕ, zero, suc, ◌+◌, ◌<◌, Bool, true, false, cond, List, [], ◌∷◌, ◌++◌, length, drop, Option, Some, None, refl, sym, ap, ◌∙◌, arith}
use Rattle.std.specs.Prelude.{codes, not, ◌&&◌, ◌||◌, ◌==◌}
use Rattle.std.specs.List.{list_all, prefix_len}
use Rattle.std.proofs.lemmas.Bool.{eqb-true}
use Rattle.std.proofs.lemmas.Bool.Decides.{nat_tests}
use Rattle.std.proofs.lemmas.List.{take-append-drop, take_at, drop_at}
use Rattle.std.proofs.lemmas.Slice.Eq.{bytes_eq-Decides}
use Rattle.elem.specs.Words.{is_word, starts_word, continues_word, is_digit}
use Rattle.elem.specs.Lexing.{spaces, lexed_past, lexed, with_first, lexeme}
use Rattle.elem.specs.Tokens.{token_at, kind_at, sign_of}
use Rattle.elem.specs.declared.lexing.Lexeme.{Lexeme}
use Rattle.elem.specs.declared.tokens.Token.TheVariants as tokens
use Rattle.elem.proofs.TokenLaws.{stops, run_of_all, run, token_again}
use Rattle.elem.proofs.LexingLaws.{lexed-space, lexed-token, token_is_at}
use Rattle.elem.proofs.NumberText.{and_parts}
use Rattle.script_text.specs.Names.{same_codes, is_name, is_kind, is_long_kind, long_text}
use Rattle.script_text.specs.declared.kinds.LongKind.TheVariants.{UndirectedValueGraphLoops, ImmutableSetMultimapBuilder, ImmutableListMultimapBuilder}
use Rattle.script_text.specs.Lines.{IsComment, IsNew, is_comment, no_space, space, behind_spaces, first_piece, behind_piece, is_new}

test_of : (b : Bool) → (b ≡ true) ⊎ (b ≡ false)
test_of true = inl refl
test_of false = inr refl

-- ---- comments

comment_at : (b : ℕ) (bs : List ℕ) (t : Bool) → (b == 32) ≡ t → (is_comment bs ≡ true → IsComment bs) → cond t (is_comment bs) (b == 35) ≡ true → IsComment (b ∷ bs)
comment_at b bs true e more h = let k = more h in (suc k.0, k.1, rw (eqb-true b 32 e) (ap (λ (r : List ℕ). 32 ∷ r) k.2))
comment_at b bs false e more h = (0, bs, rw (eqb-true b 35 h) refl)

pub comment_found : (text : List ℕ) → is_comment text ≡ true → IsComment text
unfolding is_comment
comment_found [] h = absurd cc
comment_found (b ∷ bs) h = comment_at b bs (b == 32) refl (comment_found bs) h

comment_spaces : (n : ℕ) (rest : List ℕ) → is_comment (spaces n ++ (35 ∷ rest)) ≡ true
unfolding is_comment
comment_spaces zero rest = refl
comment_spaces (suc n) rest = comment_spaces n rest

pub comment_again : (text : List ℕ) → IsComment text → is_comment text ≡ true
comment_again text c = rw c.2 (comment_spaces c.0 c.1)

-- no comment begins with a letter
no_comment : (n : ℕ) (b : ℕ) (rest : List ℕ) → (b == 32) ≡ false → (b == 35) ≡ false → is_comment (spaces n ++ (b ∷ rest)) ≡ false
unfolding is_comment
no_comment zero b rest e f = rw (e, f) refl
no_comment (suc n) b rest e f = no_comment n b rest e f

-- ---- the tokens behind spaces

lexed-spaces : (n at : ℕ) (bs : List ℕ) → lexed_past 0 at (spaces n ++ bs) ≡ lexed_past 0 (at + n) bs
lexed-spaces zero at bs = ap (λ (k : ℕ). lexed_past 0 k bs) (omega arith)
lexed-spaces (suc n) at bs = lexed-space at 32 (spaces n ++ bs) refl ∙ lexed-spaces n (at + 1) bs ∙ ap (λ (k : ℕ). lexed_past 0 k bs) (omega arith)

no_token : (rest : List ℕ) → token_at (35 ∷ rest) ≡ None
unfolding kind_at starts_word is_digit sign_of
no_token rest = refl

-- a comment has no tokens
pub comment_lexed : (text : List ℕ) → IsComment text → lexed text ≡ None
comment_lexed text c = ap (lexed_past 0 0) c.2 ∙ lexed-spaces c.0 0 (35 ∷ c.1) ∙ lexed-token (0 + c.0) 35 c.1 refl ∙ rw (no_token c.1) refl

new_token : (rest : List ℕ) → token_at (110 ∷ 101 ∷ 119 ∷ 32 ∷ rest) ≡ Some (tokens.Word (110 ∷ 101 ∷ 119 ∷ []), 3)
unfolding is_word starts_word continues_word is_digit
new_token rest = token_again (110 ∷ 101 ∷ 119 ∷ 32 ∷ rest) (tokens.Word (110 ∷ 101 ∷ 119 ∷ [])) 3 (record { token = refl; is = refl; len_is = refl; ended = refl })

-- ---- pieces between spaces

spaces_at : (b : ℕ) (bs : List ℕ) (t : Bool) (k : ℕ) → (b == 32) ≡ t → ((n : ℕ) × (bs ≡ spaces n ++ drop k bs)) → (n : ℕ) × (b ∷ bs ≡ spaces n ++ drop (cond t (1 + k) 0) (b ∷ bs))
spaces_at b bs true k e more = let s : 1 + k ≡ suc k = omega arith in (suc more.0, rw (s, eqb-true b 32 e) (ap (λ (r : List ℕ). 32 ∷ r) more.1))
spaces_at b bs false k e more = (0, refl)

spaces_front : (text : List ℕ) → (n : ℕ) × (text ≡ spaces n ++ behind_spaces text)
spaces_front [] = (0, refl)
spaces_front (b ∷ bs) = spaces_at b bs (b == 32) (prefix_len space bs) refl (spaces_front bs)

piece_cut : (text : List ℕ) → behind_spaces text ≡ first_piece text ++ behind_piece text
piece_cut text = sym (take-append-drop (prefix_len no_space (behind_spaces text)) (behind_spaces text))

-- a piece that is not empty, with the spaces before it and what is behind it
record IsPiece (text p rest : List ℕ) (n : ℕ) : Type 0 where
  is : text ≡ spaces n ++ (p ++ rest)
  all : list_all no_space p ≡ true
  stop : stops no_space rest ≡ true

piece_of : (text : List ℕ) → (n : ℕ) × IsPiece text (first_piece text) (behind_piece text) n
piece_of text =
    let s = spaces_front text in
    let r = run no_space (behind_spaces text) in
    (s.0, record { is = s.1 ∙ ap (λ (t : List ℕ). spaces s.0 ++ t) (piece_cut text); all = r.all; stop = r.stop })

-- behind a piece, another one stands behind at least one space
apart : (rest p more : List ℕ) (n : ℕ) → stops no_space rest ≡ true → 0 < length p → IsPiece rest p more n → (m : ℕ) × (n ≡ suc m)
apart rest [] more n stop some h = absurd (omega arith)
apart rest (b ∷ p) more zero stop some h =
    let front : no_space b ≡ true = (and_parts (no_space b) (list_all no_space p) h.all).0 in
    let s : not (no_space b) ≡ true = rw h.is at stop in
    let t : not true ≡ true = rw front at s in
    absurd cc
apart rest (b ∷ p) more (suc m) stop some h = (m, refl)

one_space : (b : ℕ) (bs : List ℕ) (n : ℕ) → (b == 32) ≡ true → bs ≡ spaces n → b ∷ bs ≡ spaces (suc n)
one_space b bs n e f = rw (eqb-true b 32 e) (ap (λ (r : List ℕ). 32 ∷ r) f)

all_spaces : (text : List ℕ) → list_all space text ≡ true → (n : ℕ) × (text ≡ spaces n)
all_spaces [] h = (0, refl)
all_spaces (b ∷ bs) h =
    let p = and_parts (space b) (list_all space bs) h in
    let k = all_spaces bs p.1 in
    (suc k.0, one_space b bs k.0 p.0 k.1)

spaces_all : (n : ℕ) → list_all space (spaces n) ≡ true
spaces_all zero = refl
spaces_all (suc n) = spaces_all n

text_is : (v w : List ℕ) → same_codes v w ≡ true → v ≡ w
text_is v w h = (bytes_eq-Decides v w).0 h

word_some : (w : List ℕ) → is_word w ≡ true → 0 < length w
unfolding is_word
word_some [] h = absurd cc
word_some (b ∷ w) h = omega arith

name_word : (w : List ℕ) → is_name w ≡ true → is_word w ≡ true
unfolding is_name
name_word w h = (and_parts (is_word w) _ h).0

or_cases : (a b : Bool) → (a || b) ≡ true → (a ≡ true) ⊎ (b ≡ true)
or_cases true b h = inl refl
or_cases false b h = inr h

-- a word, or one of the long names, has a byte and no space
record IsSolid (w : List ℕ) : Type 0 where
  some : 0 < length w
  all : list_all no_space w ≡ true

continues_solid : (b : ℕ) → continues_word b ≡ true → no_space b ≡ true
unfolding continues_word starts_word is_digit
continues_solid b h = grind (arith, nat_tests)

starts_solid : (b : ℕ) → starts_word b ≡ true → no_space b ≡ true
unfolding starts_word
starts_solid b h = grind (arith, nat_tests)

all_solid : (w : List ℕ) → list_all continues_word w ≡ true → list_all no_space w ≡ true
all_solid [] h = refl
all_solid (b ∷ w) h = let p = and_parts (continues_word b) (list_all continues_word w) h in rw (continues_solid b p.0, all_solid w p.1) refl

word_all : (w : List ℕ) → is_word w ≡ true → list_all no_space w ≡ true
unfolding is_word
word_all [] h = absurd cc
word_all (b ∷ w) h =
    let p = and_parts (starts_word b && _) (list_all continues_word w) h in
    let q = and_parts (starts_word b) _ p.0 in
    rw (starts_solid b q.0, all_solid w p.1) refl

word_solid : (w : List ℕ) → is_word w ≡ true → IsSolid w
word_solid w h = record { some = word_some w h; all = word_all w h }

long_solid : (k : List ℕ) → is_long_kind k ≡ true → IsSolid k
long_solid k h = elim (or_cases (same_codes k (long_text UndirectedValueGraphLoops) || same_codes k (long_text ImmutableSetMultimapBuilder)) (same_codes k (long_text ImmutableListMultimapBuilder)) h) [
  | inl e ↦ elim (or_cases (same_codes k (long_text UndirectedValueGraphLoops)) (same_codes k (long_text ImmutableSetMultimapBuilder)) e) [
    | inl f ↦ rw (text_is k (long_text UndirectedValueGraphLoops) f) (record { some = omega arith; all = refl })
    | inr f ↦ rw (text_is k (long_text ImmutableSetMultimapBuilder) f) (record { some = omega arith; all = refl })
  ]
  | inr e ↦ rw (text_is k (long_text ImmutableListMultimapBuilder) e) (record { some = omega arith; all = refl })
]

kind_solid : (k : List ℕ) → is_kind k ≡ true → IsSolid k
unfolding is_kind
kind_solid k h = elim (or_cases (is_word k) (is_long_kind k) h) [ inl e ↦ word_solid k e | inr e ↦ long_solid k e ]

-- ---- a line that makes a base

pub new_found : (text : List ℕ) → is_new text ≡ true → IsNew text (first_piece (behind_piece text)) (first_piece (behind_piece (behind_piece text)))
new_found text h =
    let r1 : List ℕ = behind_piece text in
    let r2 : List ℕ = behind_piece (behind_piece text) in
    let a = and_parts (same_codes (first_piece text) (codes "new") && is_name (first_piece r1) && is_kind (first_piece r2)) (list_all space (behind_piece r2)) h in
    let b = and_parts (same_codes (first_piece text) (codes "new") && is_name (first_piece r1)) (is_kind (first_piece r2)) a.0 in
    let c = and_parts (same_codes (first_piece text) (codes "new")) (is_name (first_piece r1)) b.0 in
    let p0 = piece_of text in
    let p1 = piece_of r1 in
    let p2 = piece_of r2 in
    let g1 = apart r1 (first_piece r1) r2 p1.0 p0.1.stop (word_some (first_piece r1) (name_word (first_piece r1) c.1)) p1.1 in
    let g2 = apart r2 (first_piece r2) (behind_piece r2) p2.0 p1.1.stop (kind_solid (first_piece r2) b.1).some p2.1 in
    let end = all_spaces (behind_piece r2) a.1 in
    let t2 : r2 ≡ spaces (suc g2.0) ++ (first_piece r2 ++ spaces end.0) = p2.1.is ∙ ap (λ (n : ℕ). spaces n ++ (first_piece r2 ++ behind_piece r2)) g2.1 ∙ ap (λ (t : List ℕ). spaces (suc g2.0) ++ (first_piece r2 ++ t)) end.1 in
    let t1 : r1 ≡ spaces (suc g1.0) ++ (first_piece r1 ++ (spaces (suc g2.0) ++ (first_piece r2 ++ spaces end.0))) = p1.1.is ∙ ap (λ (n : ℕ). spaces n ++ (first_piece r1 ++ r2)) g1.1 ∙ ap (λ (t : List ℕ). spaces (suc g1.0) ++ (first_piece r1 ++ t)) t2 in
    record {
      a = p0.0;
      b = g1.0;
      c = g2.0;
      d = end.0;
      is = p0.1.is ∙ ap (λ (t : List ℕ). spaces p0.0 ++ (t ++ r1)) (text_is (first_piece text) (codes "new") c.0) ∙ ap (λ (t : List ℕ). spaces p0.0 ++ (codes "new" ++ t)) t1;
      name_is = c.1;
      kind_is = b.1;
    }

not_space : (b : ℕ) → no_space b ≡ true → not (space b) ≡ true
not_space b h = h

front_stops : (p rest : List ℕ) → 0 < length p → list_all no_space p ≡ true → stops space (p ++ rest) ≡ true
front_stops [] rest some all = absurd (omega arith)
front_stops (b ∷ p) rest some all = (and_parts (no_space b) (list_all no_space p) all).0

-- a piece behind spaces is found
piece_again : (n : ℕ) (p rest : List ℕ) → IsSolid p → stops no_space rest ≡ true → (first_piece (spaces n ++ (p ++ rest)) ≡ p) × (behind_piece (spaces n ++ (p ++ rest)) ≡ rest)
piece_again n p rest solid stop =
    let len : prefix_len space (spaces n ++ (p ++ rest)) ≡ length (spaces n) = run_of_all space (spaces n) (p ++ rest) (spaces_all n) (front_stops p rest solid.some solid.all) in
    let cut : behind_spaces (spaces n ++ (p ++ rest)) ≡ p ++ rest = rw len (drop_at (spaces n) (p ++ rest) (length (spaces n)) refl) in
    let k : prefix_len no_space (p ++ rest) ≡ length p = run_of_all no_space p rest solid.all stop in
    (rw (cut, k) (take_at p rest (length p) refl), rw (cut, k) (drop_at p rest (length p) refl))

spaces_stop : (n : ℕ) → stops no_space (spaces n) ≡ true
spaces_stop zero = refl
spaces_stop (suc n) = refl

all_tests : (a b c d : Bool) → a ≡ true → b ≡ true → c ≡ true → d ≡ true → (a && b && c && d) ≡ true
all_tests a b c d e f g h = rw (e, f, g, h) refl

-- the pieces of such a line
pub record HasPieces (text name kind : List ℕ) : Type 0 where
  pub test : is_new text ≡ true
  pub name_is : first_piece (behind_piece text) ≡ name
  pub kind_is : first_piece (behind_piece (behind_piece text)) ≡ kind

pub new_again : (text name kind : List ℕ) → IsNew text name kind → HasPieces text name kind
new_again text name kind h =
    let new : IsSolid (codes "new") = record { some = omega arith; all = refl } in
    let t1 : List ℕ = spaces (suc h.b) ++ (name ++ (spaces (suc h.c) ++ (kind ++ spaces h.d))) in
    let t2 : List ℕ = spaces (suc h.c) ++ (kind ++ spaces h.d) in
    let q0 = piece_again h.a (codes "new") t1 new refl in
    let q1 = piece_again (suc h.b) name t2 (word_solid name (name_word name h.name_is)) refl in
    let q2 = piece_again (suc h.c) kind (spaces h.d) (kind_solid kind h.kind_is) (spaces_stop h.d) in
    let r0 : first_piece text ≡ codes "new" = ap first_piece h.is ∙ q0.0 in
    let r1 : behind_piece text ≡ t1 = ap behind_piece h.is ∙ q0.1 in
    let r2 : first_piece (behind_piece text) ≡ name = ap first_piece r1 ∙ q1.0 in
    let r3 : behind_piece (behind_piece text) ≡ t2 = ap behind_piece r1 ∙ q1.1 in
    let r4 : first_piece (behind_piece (behind_piece text)) ≡ kind = ap first_piece r3 ∙ q2.0 in
    let r5 : behind_piece (behind_piece (behind_piece text)) ≡ spaces h.d = ap behind_piece r3 ∙ q2.1 in
    record { test = all_tests _ _ _ _ (ap (λ (t : List ℕ). same_codes t (codes "new")) r0) (ap is_name r2 ∙ h.name_is) (ap is_kind r4 ∙ h.kind_is) (ap (list_all space) r5 ∙ spaces_all h.d); name_is = r2; kind_is = r4 }

-- it is no comment, and its first token is `new`
pub new_no_comment : (text name kind : List ℕ) → IsNew text name kind → is_comment text ≡ false
new_no_comment text name kind h = rw h.is (no_comment h.a 110 (101 ∷ 119 ∷ (spaces (suc h.b) ++ (name ++ (spaces (suc h.c) ++ (kind ++ spaces h.d))))) refl refl)

pub new_lexed : (text name kind : List ℕ) → IsNew text name kind → (at : ℕ) × (o : Option (List Lexeme)) × (lexed text ≡ with_first (lexeme (tokens.Word (codes "new")) at (at + 3)) o)
new_lexed text name kind h =
    let rest : List ℕ = spaces h.b ++ (name ++ (spaces (suc h.c) ++ (kind ++ spaces h.d))) in
    (0 + h.a, lexed_past 0 (0 + h.a + 3) (drop 3 (110 ∷ 101 ∷ 119 ∷ 32 ∷ rest)), ap (lexed_past 0 0) h.is ∙ lexed-spaces h.a 0 (110 ∷ 101 ∷ 119 ∷ 32 ∷ rest) ∙ token_is_at (0 + h.a) 110 (101 ∷ 119 ∷ 32 ∷ rest) (tokens.Word (110 ∷ 101 ∷ 119 ∷ [])) 3 refl (new_token rest))
