-- A word with a text behind it, cut after 24 bytes, is a word.
use Rattle.std.proofs.Common.{◌≡◌, ℕ, zero, suc, ◌<◌, true, List, [], ◌∷◌, ◌++◌, length, take, Option, Some, None, refl, ◌∙◌, arith}
use Rattle.std.specs.Prelude.{◌&&◌, ◌||◌, ◌==◌, nat_lt}
use Rattle.std.specs.List.{list_all}
use Rattle.std.proofs.lemmas.Bool.Decides.{nat_tests}
use Rattle.std.proofs.lemmas.List.{length-take}
use Rattle.std.proofs.lemmas.List.Folds.{list_all-append}
use Rattle.elem.specs.declared.elements.Elem.{Elem}
use Rattle.elem.specs.declared.elements.Elem.TheVariants.{Int, Text}
use Rattle.elem.specs.Elements.{IsElem}
use Rattle.elem.specs.Spelling.{spelling}
use Rattle.elem.specs.Words.{is_word, word_of, starts_word, continues_word, is_digit}
use Rattle.elem.proofs.NumberText.{number_text, and_parts}

digit_continues : (b : ℕ) → is_digit b ≡ true → continues_word b ≡ true
unfolding continues_word starts_word is_digit
digit_continues b h = grind (arith, nat_tests)

first_continues : (b : ℕ) → (is_digit b || b == 45) ≡ true → continues_word b ≡ true
unfolding continues_word starts_word is_digit
first_continues b h = grind (arith, nat_tests)

start_continues : (b : ℕ) → starts_word b ≡ true → continues_word b ≡ true
unfolding continues_word
start_continues b h = rw h refl

digits_continue : (ds : List ℕ) → list_all is_digit ds ≡ true → list_all continues_word ds ≡ true
digits_continue [] h = refl
digits_continue (d ∷ ds) h = let p = and_parts (is_digit d) (list_all is_digit ds) h in rw (digit_continues d p.0, digits_continue ds p.1) refl

word_continues : (w : List ℕ) → is_word w ≡ true → list_all continues_word w ≡ true
unfolding is_word
word_continues [] h = absurd cc
word_continues (b ∷ w) h =
    let p = and_parts (starts_word b && nat_lt (length w) 24) (list_all continues_word w) h in
    let q = and_parts (starts_word b) (nat_lt (length w) 24) p.0 in
    rw (start_continues b q.0, p.1) refl

spelling_continues : (y : Elem) → IsElem y → list_all continues_word (spelling y) ≡ true
spelling_continues (Int n) h = let p = number_text n h in rw (p.is, first_continues p.first p.starts, digits_continue p.rest p.digits) refl
spelling_continues (Text w) h = word_continues w h

all_take : (n : ℕ) (bs : List ℕ) → list_all continues_word bs ≡ true → list_all continues_word (take n bs) ≡ true
all_take zero bs h = refl
all_take (suc n) [] h = refl
all_take (suc n) (b ∷ bs) h = let p = and_parts (continues_word b) (list_all continues_word bs) h in rw (p.0, all_take n bs p.1) refl

short_front : (bs : List ℕ) → nat_lt (length (take 23 bs)) 24 ≡ true
short_front bs = let le : length (take 23 bs) < 24 = omega (arith, length-take 23 bs) in grind (arith, nat_tests)

pub cut_word : (t : List ℕ) (y : Elem) → is_word t ≡ true → IsElem y → is_word (take 24 (t ++ spelling y)) ≡ true
unfolding is_word
cut_word [] y h is = absurd cc
cut_word (b ∷ t) y h is =
    let p = and_parts (starts_word b && nat_lt (length t) 24) (list_all continues_word t) h in
    let q = and_parts (starts_word b) (nat_lt (length t) 24) p.0 in
    let all : list_all continues_word (t ++ spelling y) ≡ true = list_all-append continues_word t (spelling y) ∙ rw (p.1, spelling_continues y is) refl in
    rw (q.0, short_front (t ++ spelling y), all_take 23 (t ++ spelling y) all) refl

abbrev pub some_word : List ℕ → Option (List ℕ)
some_word w = Some w

abbrev pub no_word : Option (List ℕ)
no_word = None

word_is : (v w : List ℕ) → some_word v ≡ some_word w → v ≡ w
word_is v w h = cc

none_is : (w : List ℕ) → no_word ≡ some_word w → ⊥
none_is w h = cc

-- what Word::new answers for it
pub cut_found : (t : List ℕ) (y : Elem) (bytes w : List ℕ) → is_word t ≡ true → IsElem y → bytes ≡ take 24 (t ++ spelling y) → some_word w ≡ word_of bytes → w ≡ take 24 (t ++ spelling y)
cut_found t y bytes w h is e f = let k : word_of bytes ≡ some_word bytes = rw e (rw (cut_word t y h is) refl) in word_is w bytes (f ∙ k) ∙ e

pub cut_not_none : (t : List ℕ) (y : Elem) (bytes : List ℕ) → is_word t ≡ true → IsElem y → bytes ≡ take 24 (t ++ spelling y) → no_word ≡ word_of bytes → ⊥
cut_not_none t y bytes h is e f = let k : word_of bytes ≡ some_word bytes = rw e (rw (cut_word t y h is) refl) in none_is bytes (f ∙ k)
