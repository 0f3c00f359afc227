-- What stands at the front of a line.
use Rattle.std.proofs.Common.{◌≡◌, ℕ, Bool, true, false, cond, List, [], ◌∷◌, Option, Some, None, refl, sym}
use Rattle.std.specs.Option.{option_map}
use Rattle.std.specs.Prelude.{codes, MatchOption}
use Rattle.elem.specs.declared.lexing.Lexeme.{Lexeme}
use Rattle.elem.specs.declared.tokens.Token.{Token}
use Rattle.elem.specs.declared.tokens.Token.TheVariants as tokens
use Rattle.elem.specs.declared.tokens.Sign.TheVariants.{Equals}
use Rattle.elem.specs.Lexing.{with_first}
use Rattle.script_text.specs.declared.lines.Slice.{Slice}
use Rattle.script_text.specs.Names.{same_codes, is_name}
use Rattle.script_text.specs.declared.lines.Part.{Part}
use Rattle.script_text.specs.Trees.{Call, Expression, Let, It, Eval, Syntax, expr_view, map_expression, part_of}
use Rattle.script_text.specs.Calls.{AreParts, and_then, calls_of}
use Rattle.script_text.specs.Lines.{Bound, expression_of, expression_at, bound_at, bound_of, tree_or_fault, line_with, line_at, form_of, NoWord, NoEquals}

-- an expression is read exactly where the calls behind its name are
pub expression_read : (r : Option (Unit {0})) (o : Option (List Lexeme)) (w : List ℕ) (parts : List Part) → is_name w ≡ true → MatchOption r (and_then o calls_of ≡ None) (λ u. (calls : List (Call Slice)) × (and_then o calls_of ≡ Some calls) × AreParts parts calls)
    → MatchOption r (and_then o (expression_of w) ≡ None) (λ u. (x : Expression (Call Slice)) × (and_then o (expression_of w) ≡ Some x) × (expr_view w parts ≡ map_expression part_of x))
expression_read None None w parts name h = refl
expression_read None (Some xs) w parts name h = rw (name, h) refl
expression_read (Some u) None w parts name h = absurd (let none : None ≡ Some h.0 = h.1 in cc)
expression_read (Some u) (Some xs) w parts name h = (record { head = w; calls = h.0 }, rw (name, h.1) refl, rw h.2 refl)

-- ---- a name, `=` and an expression

no_first : (t a b : Token) (xs : List Lexeme) → ((w : List ℕ) → t ≡ tokens.Word w → ⊥) → bound_at t a b xs ≡ None
no_first (tokens.Word w) a b xs h = absurd (h w refl)
no_first t a b xs h = refl

pub no_name : (o : Option (List Lexeme)) → ((xs : List Lexeme) → o ≡ Some xs → NoWord xs) → and_then o bound_of ≡ None
no_name None h = refl
no_name (Some []) h = refl
no_name (Some (x ∷ [])) h = refl
no_name (Some (x ∷ y ∷ [])) h = refl
no_name (Some (x ∷ y ∷ z ∷ xs)) h = no_first x.token y.token z.token xs (h (x ∷ y ∷ z ∷ xs) refl)

no_second : (t a b : Token) (xs : List Lexeme) → (a ≡ tokens.Sign Equals → ⊥) → bound_at t a b xs ≡ None
no_second (tokens.Word w) (tokens.Sign Equals) b xs h = absurd (h refl)
no_second t a b xs h = refl

no_equals_in : (x : Lexeme) (o : Option (List Lexeme)) → ((xs : List Lexeme) → o ≡ Some xs → NoEquals xs) → and_then (with_first x o) bound_of ≡ None
no_equals_in x None h = refl
no_equals_in x (Some []) h = refl
no_equals_in x (Some (y ∷ [])) h = refl
no_equals_in x (Some (y ∷ z ∷ xs)) h = no_second x.token y.token z.token xs (h (y ∷ z ∷ xs) refl)

pub no_equals : (x : Lexeme) (o p : Option (List Lexeme)) → o ≡ with_first x p → ((xs : List Lexeme) → p ≡ Some xs → NoEquals xs) → and_then o bound_of ≡ None
no_equals x o p e h = rw e (no_equals_in x p h)

abbrev no_bound : Option Bound
no_bound = None

cond_none : (b : Bool) → cond b no_bound no_bound ≡ no_bound
cond_none true = refl
cond_none false = refl

no_expression : (t : Token) (xs : List Lexeme) → ((w : List ℕ) → t ≡ tokens.Word w → ⊥) → expression_at t xs ≡ None
no_expression (tokens.Word w) xs h = absurd (h w refl)
no_expression t xs h = refl

no_third : (t a b : Token) (xs : List Lexeme) → ((w : List ℕ) → b ≡ tokens.Word w → ⊥) → bound_at t a b xs ≡ None
no_third (tokens.Word w) (tokens.Sign Equals) b xs h = rw (no_expression b xs h) (cond_none (is_name w))
no_third t a b xs h = refl

no_head_in : (x y : Lexeme) (o : Option (List Lexeme)) → ((xs : List Lexeme) → o ≡ Some xs → NoWord xs) → and_then (with_first x (with_first y o)) bound_of ≡ None
no_head_in x y None h = refl
no_head_in x y (Some []) h = refl
no_head_in x y (Some (z ∷ xs)) h = no_third x.token y.token z.token xs (h (z ∷ xs) refl)

pub no_head : (x y : Lexeme) (o p q : Option (List Lexeme)) → o ≡ with_first x p → p ≡ with_first y q → ((xs : List Lexeme) → q ≡ Some xs → NoWord xs) → and_then o bound_of ≡ None
no_head x y o p q e f h = rw (e, f) (no_head_in x y q h)

three_in : (n h : List ℕ) (x y z : Lexeme) (o : Option (List Lexeme)) → x.token ≡ tokens.Word n → y.token ≡ tokens.Sign Equals → z.token ≡ tokens.Word h
    → and_then (with_first x (with_first y (with_first z o))) bound_of ≡ cond (is_name n) (option_map (λ e. (n, e)) (and_then o (expression_of h))) None
three_in n h x y z None a b c = sym (cond_none (is_name n))
three_in n h x y z (Some xs) a b c = rw (a, b, c) refl

pub three : (n h : List ℕ) (x y z : Lexeme) (o p q r : Option (List Lexeme)) → o ≡ with_first x p → p ≡ with_first y q → q ≡ with_first z r → x.token ≡ tokens.Word n → y.token ≡ tokens.Sign Equals → z.token ≡ tokens.Word h
    → and_then o bound_of ≡ cond (is_name n) (option_map (λ e. (n, e)) (and_then r (expression_of h))) None
three n h x y z o p q r e f g a b c = rw (e, f, g) (three_in n h x y z r a b c)

-- ---- the line that begins with a word

pub with_let : (w : List ℕ) (o : Option (List Lexeme)) → same_codes w (codes "let") ≡ true → tree_or_fault (line_with w) o ≡ tree_or_fault (λ (b : Bound). Let b.0 b.1) (and_then o bound_of)
with_let w None e = refl
with_let w (Some xs) e = rw e refl

pub with_it : (w : List ℕ) (o : Option (List Lexeme)) → same_codes w (codes "let") ≡ false → same_codes w (codes "it") ≡ true → tree_or_fault (line_with w) o ≡ tree_or_fault (λ (b : Bound). It b.0 b.1) (and_then o bound_of)
with_it w None d e = refl
with_it w (Some xs) d e = rw (d, e) refl

pub with_none : (w : List ℕ) (o : Option (List Lexeme)) → same_codes w (codes "let") ≡ false → same_codes w (codes "it") ≡ false → tree_or_fault (line_with w) o ≡ tree_or_fault Eval (and_then o (expression_of w))
with_none w None d e = refl
with_none w (Some xs) d e = rw (d, e) refl

pub form_word : (x : Lexeme) (w : List ℕ) (o : Option (List Lexeme)) → x.token ≡ tokens.Word w → tree_or_fault form_of (with_first x o) ≡ tree_or_fault (line_with w) o
form_word x w None e = refl
form_word x w (Some xs) e = rw e refl

no_line : (t : Token) (xs : List Lexeme) → ((w : List ℕ) → t ≡ tokens.Word w → ⊥) → line_at t xs ≡ Syntax
no_line (tokens.Word w) xs h = absurd (h w refl)
no_line t xs h = refl

pub form_other : (x : Lexeme) (o : Option (List Lexeme)) → ((w : List ℕ) → x.token ≡ tokens.Word w → ⊥) → tree_or_fault form_of (with_first x o) ≡ Syntax
form_other x None h = refl
form_other x (Some xs) h = no_line x.token xs h
