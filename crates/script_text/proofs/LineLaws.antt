-- The line of a text is the one that the grammar gives it.
use Rattle.std.proofs.Common.{◌≡◌, ◌⊎◌, ◌↔◌, inl, inr, ℕ, ◌+◌, ◌<◌, ◌≤◌, Bool, true, false, cond, List, [], ◌∷◌, length, Option, Some, None, refl, sym, ap, subst, ◌∙◌, arith}
use Rattle.std.specs.Prelude.{codes, nat_lt}
use Rattle.std.proofs.lemmas.Bool.Decides.{nat_tests}
use Rattle.std.proofs.lemmas.Bool.{cases_lt}
use Rattle.elem.specs.declared.lexing.Lexeme.{Lexeme}
use Rattle.elem.specs.declared.tokens.Token.TheVariants as tokens
use Rattle.elem.specs.Lexing.{lexed, with_first, lexeme}
use Rattle.elem.proofs.LexingLaws.{lexed_spells, spells_lexed}
use Rattle.script_text.specs.declared.lines.Slice.{Slice}
use Rattle.script_text.specs.Names.{same_codes, is_name}
use Rattle.script_text.specs.Trees.{Call, Tree, Blank, New, Let, It, Eval, Syntax, Long, map_tree, in_pieces}
use Rattle.script_text.specs.Lines.{IsComment, IsNew, IsForm, HasForm, InGrammar, IsPlaced, IsLine, is_comment, is_new, new_of, tree_or_fault, form_of, placed_line, line_of}
use Rattle.script_text.proofs.FormLaws.{IsFormed, form_found, form_again, new_no_name}
use Rattle.script_text.proofs.FrontLaws.{comment_found, comment_again, comment_lexed, new_found, new_again, new_no_comment, new_lexed}

abbrev Line : Type 0
Line = Tree (Call Slice)

-- ---- a line that has tokens

abbrev some_lexemes : List Lexeme → Option (List Lexeme)
some_lexemes xs = Some xs

lexemes_are : (xs ys : List Lexeme) → some_lexemes xs ≡ some_lexemes ys → xs ≡ ys
lexemes_are xs ys h = cc

-- in the grammar, or a fault
abbrev Known : List ℕ → Line → Type 0
Known text t = InGrammar text t ⊎ (t ≡ Syntax)

formed_known : (text : List ℕ) (xs : List Lexeme) (t : Line) → lexed text ≡ some_lexemes xs → IsFormed t xs → Known text t
formed_known text xs Blank e h = inl (inr (xs, lexed_spells 0 0 text xs e, h))
formed_known text xs (New n k) e h = absurd h
formed_known text xs (Let n x) e h = inl (xs, lexed_spells 0 0 text xs e, h)
formed_known text xs (It n x) e h = inl (xs, lexed_spells 0 0 text xs e, h)
formed_known text xs (Eval x) e h = inl (xs, lexed_spells 0 0 text xs e, h)
formed_known text xs Syntax e h = inr refl
formed_known text xs Long e h = absurd h

statement_known : (text : List ℕ) (o : Option (List Lexeme)) → lexed text ≡ o → Known text (tree_or_fault form_of o)
statement_known text None e = inr refl
statement_known text (Some xs) e = formed_known text xs (form_of xs) e (form_found xs)

-- ---- the tests in their order

abbrev by_new : List ℕ → Bool → Line
by_new text b = cond b (new_of text) (tree_or_fault form_of (lexed text))

abbrev by_comment : List ℕ → Bool → Line
by_comment text b = cond b Blank (by_new text (is_new text))

new_known : (text : List ℕ) (b : Bool) → is_new text ≡ b → Known text (by_new text b)
new_known text true e = inl (new_found text e)
new_known text false e = statement_known text (lexed text) refl

comment_known : (text : List ℕ) (b : Bool) → is_comment text ≡ b → Known text (by_comment text b)
comment_known text true e = inl (inl (comment_found text e))
comment_known text false e = new_known text (is_new text) refl

short_line : (text : List ℕ) → length text ≤ 1024 → placed_line text ≡ by_comment text (is_comment text)
unfolding placed_line
short_line text le = let e : nat_lt 1024 (length text) ≡ false = grind (arith, nat_tests) in rw e refl

long_line : (text : List ℕ) → 1024 < length text → placed_line text ≡ Long
unfolding placed_line
long_line text lt = let e : nat_lt 1024 (length text) ≡ true = grind (arith, nat_tests) in rw e refl

-- ---- what is in the grammar is found

abbrev NotNew : List Lexeme → Type 0
NotNew [] = Unit {0}
NotNew (x ∷ xs) = x.token ≡ tokens.Word (codes "new") → ⊥

word_is : (v w : List ℕ) → tokens.Word v ≡ tokens.Word w → v ≡ w
word_is v w h = cc

head_not_new : (x : Lexeme) (w : List ℕ) → x.token ≡ tokens.Word w → is_name w ≡ true → x.token ≡ tokens.Word (codes "new") → ⊥
head_not_new x w e name h = let k : w ≡ codes "new" = word_is w (codes "new") (sym e ∙ h) in new_no_name (rw k at name)

false_true : false ≡ true → ⊥
false_true h = cc

let_not_new : (x : Lexeme) → x.token ≡ tokens.Word (codes "let") → x.token ≡ tokens.Word (codes "new") → ⊥
let_not_new x e h = false_true (ap (λ (w : List ℕ). same_codes w (codes "new")) (word_is (codes "let") (codes "new") (sym e ∙ h)))

it_not_new : (x : Lexeme) → x.token ≡ tokens.Word (codes "it") → x.token ≡ tokens.Word (codes "new") → ⊥
it_not_new x e h = false_true (ap (λ (w : List ℕ). same_codes w (codes "new")) (word_is (codes "it") (codes "new") (sym e ∙ h)))

form_not_new : (t : Line) (xs : List Lexeme) → IsForm t xs → NotNew xs
form_not_new Blank xs h = rw h tt
form_not_new (New n k) xs h = absurd h
form_not_new (Let n e) xs h = rw (h.is) (let_not_new h.first h.first_is)
form_not_new (It n e) xs h = rw (h.is) (it_not_new h.first h.first_is)
form_not_new (Eval e) xs h = rw (h.is) (head_not_new h.head e.head h.head_is h.name_is)
form_not_new Syntax xs h = absurd h
form_not_new Long xs h = absurd h

first_found : (x : Lexeme) (o : Option (List Lexeme)) (xs : List Lexeme) → with_first x o ≡ some_lexemes xs → x.token ≡ tokens.Word (codes "new") → NotNew xs → ⊥
first_found x None xs h e other = absurd cc
first_found x (Some ys) xs h e other = let f : NotNew (x ∷ ys) = subst NotNew (sym (lexemes_are (x ∷ ys) xs h)) other in f e

-- a line that has the tokens of another form makes no base
form_no_new : (text : List ℕ) (t : Line) → HasForm text t → (b : Bool) → is_new text ≡ b → b ≡ false
form_no_new text t h false e = refl
form_no_new text t h true e =
    let n = new_lexed text _ _ (new_found text e) in
    absurd (first_found (lexeme (tokens.Word (codes "new")) n.0 (n.0 + 3)) n.1 h.0 (sym n.2 ∙ spells_lexed 0 0 text h.0 h.1) refl (form_not_new t h.0 h.2))

form_no_comment : (text : List ℕ) (t : Line) → HasForm text t → (b : Bool) → is_comment text ≡ b → b ≡ false
form_no_comment text t h false e = refl
form_no_comment text t h true e = let n : None ≡ some_lexemes h.0 = sym (comment_lexed text (comment_found text e)) ∙ spells_lexed 0 0 text h.0 h.1 in absurd cc

form_line : (text : List ℕ) (t : Line) → length text ≤ 1024 → HasForm text t → placed_line text ≡ t
form_line text t le h =
    short_line text le
    ∙ ap (by_comment text) (form_no_comment text t h (is_comment text) refl)
    ∙ ap (by_new text) (form_no_new text t h (is_new text) refl)
    ∙ ap (tree_or_fault form_of) (spells_lexed 0 0 text h.0 h.1)
    ∙ form_again t h.0 h.2

comment_line : (text : List ℕ) → length text ≤ 1024 → IsComment text → placed_line text ≡ Blank
comment_line text le h = short_line text le ∙ ap (by_comment text) (comment_again text h)

new_line : (text name kind : List ℕ) → length text ≤ 1024 → IsNew text name kind → placed_line text ≡ New name kind
new_line text name kind le h =
    let p = new_again text name kind h in
    short_line text le
    ∙ ap (by_comment text) (new_no_comment text name kind h)
    ∙ ap (by_new text) p.test
    ∙ rw (p.name_is, p.kind_is) refl

blank_line : (text : List ℕ) → length text ≤ 1024 → InGrammar text Blank → placed_line text ≡ Blank
blank_line text le h = elim h [ inl c ↦ comment_line text le c | inr f ↦ form_line text Blank le f ]

grammar_line : (text : List ℕ) (t : Line) → length text ≤ 1024 → InGrammar text t → placed_line text ≡ t
grammar_line text Blank le h = blank_line text le h
grammar_line text (New n k) le h = new_line text n k le h
grammar_line text (Let n e) le h = form_line text (Let n e) le h
grammar_line text (It n e) le h = form_line text (It n e) le h
grammar_line text (Eval e) le h = form_line text (Eval e) le h
grammar_line text Syntax le h = absurd h.2
grammar_line text Long le h = absurd h.2

-- ---- both ways

no_fault : (text : List ℕ) (t : Line) → InGrammar text t → t ≡ Syntax → ⊥
no_fault text Blank h e = cc
no_fault text (New n k) h e = cc
no_fault text (Let n x) h e = cc
no_fault text (It n x) h e = cc
no_fault text (Eval x) h e = cc
no_fault text Syntax h e = h.2
no_fault text Long h e = h.2

placed : (text : List ℕ) (t : Line) → length text ≤ 1024 → InGrammar text t → IsPlaced text t
placed text Blank le h = (le, h)
placed text (New n k) le h = (le, h)
placed text (Let n e) le h = (le, h)
placed text (It n e) le h = (le, h)
placed text (Eval e) le h = (le, h)
placed text Syntax le h = absurd h.2
placed text Long le h = absurd h.2

known_placed : (text : List ℕ) (t : Line) → placed_line text ≡ t → length text ≤ 1024 → Known text t → IsPlaced text t
known_placed text t e le known = elim known [
  | inl h ↦ placed text t le h
  | inr fault ↦ rw fault (le, λ u h. no_fault text u h (sym (grammar_line text u le h) ∙ e ∙ fault))
]

short_or_long : (text : List ℕ) → (length text ≤ 1024) ⊎ (1024 < length text)
short_or_long text = elim (cases_lt 1024 (length text)) [ inl lt ↦ inr lt | inr le ↦ inl le ]

placed_found : (text : List ℕ) → IsPlaced text (placed_line text)
placed_found text = elim (short_or_long text) [
  | inl le ↦ known_placed text (placed_line text) refl le (rw (short_line text le) (comment_known text (is_comment text) refl))
  | inr lt ↦ rw (long_line text lt) lt
]

fault_line : (text : List ℕ) (t : Line) → placed_line text ≡ t → length text ≤ 1024 → Known text t → ((u : Line) → InGrammar text u → ⊥) → placed_line text ≡ Syntax
fault_line text t e le known none = elim known [ inl h ↦ absurd (none t h) | inr fault ↦ e ∙ fault ]

placed_only : (text : List ℕ) (t : Line) → IsPlaced text t → placed_line text ≡ t
placed_only text Blank h = grammar_line text Blank h.0 h.1
placed_only text (New n k) h = grammar_line text (New n k) h.0 h.1
placed_only text (Let n e) h = grammar_line text (Let n e) h.0 h.1
placed_only text (It n e) h = grammar_line text (It n e) h.0 h.1
placed_only text (Eval e) h = grammar_line text (Eval e) h.0 h.1
placed_only text Syntax h = fault_line text (placed_line text) refl h.0 (rw (short_line text h.0) (comment_known text (is_comment text) refl)) h.1
placed_only text Long h = long_line text h

pub line_iff : (text : List ℕ) (t : Tree (Call (List ℕ))) → IsLine text t ↔ (line_of text ≡ t)
line_iff text t = (λ (p, h, e). ap (map_tree (in_pieces text)) (placed_only text p h) ∙ sym e, λ e. (placed_line text, placed_found text, sym e))
