-- The line that tokens are.
use Rattle.std.proofs.Common.{◌≡◌, ℕ, Bool, true, false, cond, List, [], ◌∷◌, Option, Some, None, refl, sym, ap}
use Rattle.std.specs.Option.{option_map}
use Rattle.std.specs.Prelude.{codes, ◌&&◌}
use Rattle.std.proofs.lemmas.Slice.Eq.{bytes_eq-Decides}
use Rattle.elem.specs.declared.lexing.Lexeme.{Lexeme}
use Rattle.elem.specs.declared.tokens.Token.{Token}
use Rattle.elem.specs.declared.tokens.Token.TheVariants as tokens
use Rattle.elem.specs.declared.tokens.Sign.TheVariants.{Equals}
use Rattle.script_text.specs.declared.lines.Slice.{Slice}
use Rattle.script_text.specs.declared.stages.Stage.TheVariants.{Ended}
use Rattle.elem.specs.Words.{is_word}
use Rattle.script_text.specs.Names.{same_codes, is_name}
use Rattle.script_text.specs.Trees.{Call, Expression, Tree, Blank, New, Let, It, Eval, Syntax, Long, no_slice}
use Rattle.script_text.specs.Stages.{Rest, reading}
use Rattle.script_text.specs.Calls.{CallsAre, calls_of}
use Rattle.script_text.specs.Lines.{IsExpression, Binds, IsForm, Bound, expression_of, expression_at, bound_at, bound_of, tree_or_fault, line_at, form_of}
use Rattle.script_text.proofs.SoundLaws.{calls_sound}
use Rattle.script_text.proofs.WholeLaws.{calls_again}

-- ---- calls

abbrev some_calls : List (Call Slice) → Option (List (Call Slice))
some_calls cs = Some cs

calls_are : (cs ds : List (Call Slice)) → some_calls cs ≡ some_calls ds → cs ≡ ds
calls_are cs ds h = cc

found_calls : (xs : List Lexeme) (o : Option Rest) (cs : List (Call Slice)) → reading Ended no_slice xs ≡ o → option_map (λ (r : Rest). r.1) o ≡ some_calls cs → CallsAre cs xs
found_calls xs None cs e h = absurd cc
found_calls xs (Some r) cs e h = rw (← calls_are r.1 cs h) (calls_sound xs no_slice r e)

calls_found : (xs : List Lexeme) (cs : List (Call Slice)) → calls_of xs ≡ some_calls cs → CallsAre cs xs
calls_found xs cs h = found_calls xs (reading Ended no_slice xs) cs refl h

calls_whole : (xs : List Lexeme) (cs : List (Call Slice)) → CallsAre cs xs → calls_of xs ≡ some_calls cs
calls_whole xs cs h = rw (calls_again cs xs no_slice h) refl

-- ---- expressions

abbrev some_expression : Expression (Call Slice) → Option (Expression (Call Slice))
some_expression e = Some e

expression_is : (e f : Expression (Call Slice)) → some_expression e ≡ some_expression f → e ≡ f
expression_is e f h = cc

abbrev expression_with : List ℕ → Option (List (Call Slice)) → Option (Expression (Call Slice))
expression_with w o = option_map (λ cs. record { head = w; calls = cs }) o

with_calls : (w : List ℕ) (o : Option (List (Call Slice))) (e : Expression (Call Slice)) → expression_with w o ≡ some_expression e → (e.head ≡ w) × (o ≡ some_calls e.calls)
with_calls w None e h = absurd cc
with_calls w (Some cs) e h =
    let k : record { head = w; calls = cs } ≡ e = expression_is _ e h in
    (ap (λ (e : Expression (Call Slice)). e.head) (sym k), ap (λ (e : Expression (Call Slice)). some_calls e.calls) k)

named : (w : List ℕ) (b : Bool) (o : Option (List (Call Slice))) (e : Expression (Call Slice)) → cond b (expression_with w o) None ≡ some_expression e → (b ≡ true) × (e.head ≡ w) × (o ≡ some_calls e.calls)
named w true o e h = let k = with_calls w o e h in (refl, k.0, k.1)
named w false o e h = absurd cc

expression_found : (x : Lexeme) (w : List ℕ) (xs : List Lexeme) (e : Expression (Call Slice)) → x.token ≡ tokens.Word w → expression_of w xs ≡ some_expression e → IsExpression e (x ∷ xs)
expression_found x w xs e t h =
    let k = named w (is_name w) (calls_of xs) e h in
    record { head = x; rest = xs; is = refl; head_is = rw k.1 t; name_is = rw k.1 k.0; calls = calls_found xs e.calls k.2 }

token_expression : (x : Lexeme) (t : Token) (xs : List Lexeme) (e : Expression (Call Slice)) → x.token ≡ t → expression_at t xs ≡ some_expression e → IsExpression e (x ∷ xs)
token_expression x (tokens.Word w) xs e t h = expression_found x w xs e t h
token_expression x t xs e is h = absurd cc

expression_whole : (e : Expression (Call Slice)) (rest : List Lexeme) → is_name e.head ≡ true → CallsAre e.calls rest → expression_of e.head rest ≡ some_expression e
expression_whole e rest name calls = rw (name, calls_whole rest e.calls calls) refl

-- ---- a name, `=` and an expression

abbrev some_bound : Bound → Option Bound
some_bound b = Some b

bound_is : (a b : Bound) → some_bound a ≡ some_bound b → a ≡ b
bound_is a b h = cc

-- what is known of a name, `=` and an expression
record IsBound (b : Bound) (xs : List Lexeme) : Type 0 where
  second : Lexeme
  third : Lexeme
  rest : List Lexeme
  is : xs ≡ second ∷ third ∷ rest
  second_is : second.token ≡ tokens.Word b.0
  third_is : third.token ≡ tokens.Sign Equals
  name_is : is_name b.0 ≡ true
  expression : IsExpression b.1 rest

bound_with : (n : List ℕ) (t : Bool) (o : Option (Expression (Call Slice))) (b : Bound) → cond t (option_map (λ e. (n, e)) o) None ≡ some_bound b → (t ≡ true) × (b.0 ≡ n) × (o ≡ some_expression b.1)
bound_with n true None b h = absurd cc
bound_with n true (Some e) b h = let k : (n, e) ≡ b = bound_is (n, e) b h in (refl, ap (λ (b : Bound). b.0) (sym k), ap (λ (b : Bound). some_expression b.1) k)
bound_with n false o b h = absurd cc

bound_found_at : (x y z : Lexeme) (s t : Token) (xs : List Lexeme) (b : Bound) → x.token ≡ s → y.token ≡ t → bound_at s t z.token xs ≡ some_bound b → IsBound b (x ∷ y ∷ z ∷ xs)
bound_found_at x y z (tokens.Word n) (tokens.Sign Equals) xs b first second h =
    let k = bound_with n (is_name n) (expression_at z.token xs) b h in
    record { second = x; third = y; rest = z ∷ xs; is = refl; second_is = rw k.1 first; third_is = second; name_is = rw k.1 k.0; expression = token_expression z z.token xs b.1 refl k.2 }
bound_found_at x y z s t xs b first second h = absurd cc

bound_found : (xs : List Lexeme) (b : Bound) → bound_of xs ≡ some_bound b → IsBound b xs
bound_found [] b h = absurd cc
bound_found (x ∷ []) b h = absurd cc
bound_found (x ∷ y ∷ []) b h = absurd cc
bound_found (x ∷ y ∷ z ∷ xs) b h = bound_found_at x y z x.token y.token xs b refl refl h

bound_whole : (k n : List ℕ) (e : Expression (Call Slice)) (xs : List Lexeme) (b : Binds k n e xs) → bound_of (b.second ∷ b.third ∷ b.rest) ≡ some_bound (n, e)
bound_whole k n e xs b =
    rw (b.expression.is, b.second_is, b.third_is, b.expression.head_is, b.name_is, expression_whole e b.expression.rest b.expression.name_is b.expression.calls) refl

-- ---- the line

text_is : (v w : List ℕ) → same_codes v w ≡ true → v ≡ w
text_is v w h = (bytes_eq-Decides v w).0 h

-- the tokens are the line, or the line is a fault
abbrev pub IsFormed : Tree (Call Slice) → List Lexeme → Type 0
IsFormed Blank xs = IsForm Blank xs
IsFormed (New n k) xs = ⊥
IsFormed (Let n e) xs = IsForm (Let n e) xs
IsFormed (It n e) xs = IsForm (It n e) xs
IsFormed (Eval e) xs = IsForm (Eval e) xs
IsFormed Syntax xs = Unit {0}
IsFormed Long xs = ⊥

let_formed : (x : Lexeme) (w : List ℕ) (xs : List Lexeme) (o : Option Bound) → x.token ≡ tokens.Word w → w ≡ codes "let" → bound_of xs ≡ o → IsFormed (tree_or_fault (λ (b : Bound). Let b.0 b.1) o) (x ∷ xs)
let_formed x w xs None t k e = tt
let_formed x w xs (Some b) t k e =
    let f = bound_found xs b e in
    record { first = x; second = f.second; third = f.third; rest = f.rest; is = ap (λ (l : List Lexeme). x ∷ l) f.is; first_is = rw (← k) t; second_is = f.second_is; third_is = f.third_is; name_is = f.name_is; expression = f.expression }

it_formed : (x : Lexeme) (w : List ℕ) (xs : List Lexeme) (o : Option Bound) → x.token ≡ tokens.Word w → w ≡ codes "it" → bound_of xs ≡ o → IsFormed (tree_or_fault (λ (b : Bound). It b.0 b.1) o) (x ∷ xs)
it_formed x w xs None t k e = tt
it_formed x w xs (Some b) t k e =
    let f = bound_found xs b e in
    record { first = x; second = f.second; third = f.third; rest = f.rest; is = ap (λ (l : List Lexeme). x ∷ l) f.is; first_is = rw (← k) t; second_is = f.second_is; third_is = f.third_is; name_is = f.name_is; expression = f.expression }

eval_formed : (x : Lexeme) (w : List ℕ) (xs : List Lexeme) (o : Option (Expression (Call Slice))) → x.token ≡ tokens.Word w → expression_of w xs ≡ o → IsFormed (tree_or_fault Eval o) (x ∷ xs)
eval_formed x w xs None t e = tt
eval_formed x w xs (Some f) t e = expression_found x w xs f t e

other_formed : (x : Lexeme) (w : List ℕ) (xs : List Lexeme) (b : Bool) → x.token ≡ tokens.Word w → same_codes w (codes "it") ≡ b → IsFormed (cond b (tree_or_fault (λ (b : Bound). It b.0 b.1) (bound_of xs)) (tree_or_fault Eval (expression_of w xs))) (x ∷ xs)
other_formed x w xs true t e = it_formed x w xs (bound_of xs) t (text_is w (codes "it") e) refl
other_formed x w xs false t e = eval_formed x w xs (expression_of w xs) t refl

word_formed : (x : Lexeme) (w : List ℕ) (xs : List Lexeme) (b : Bool) → x.token ≡ tokens.Word w → same_codes w (codes "let") ≡ b
    → IsFormed (cond b (tree_or_fault (λ (b : Bound). Let b.0 b.1) (bound_of xs)) (cond (same_codes w (codes "it")) (tree_or_fault (λ (b : Bound). It b.0 b.1) (bound_of xs)) (tree_or_fault Eval (expression_of w xs)))) (x ∷ xs)
word_formed x w xs true t e = let_formed x w xs (bound_of xs) t (text_is w (codes "let") e) refl
word_formed x w xs false t e = other_formed x w xs (same_codes w (codes "it")) t refl

token_formed : (x : Lexeme) (t : Token) (xs : List Lexeme) → x.token ≡ t → IsFormed (line_at t xs) (x ∷ xs)
token_formed x (tokens.Word w) xs e = word_formed x w xs (same_codes w (codes "let")) e refl
token_formed x t xs e = tt

pub form_found : (xs : List Lexeme) → IsFormed (form_of xs) xs
form_found [] = refl
form_found (x ∷ xs) = token_formed x x.token xs refl

by_test : {A : Type 0} (b : Bool) → (b ≡ true → A) → (b ≡ false → A) → A
by_test true f g = f refl
by_test false f g = g refl

and_false : (a : Bool) → (a && (true && false)) ≡ true → ⊥
and_false true h = cc
and_false false h = cc

pub let_no_name : is_name (codes "let") ≡ true → ⊥
unfolding is_name
let_no_name h = and_false (is_word (codes "let")) h

pub it_no_name : is_name (codes "it") ≡ true → ⊥
unfolding is_name
it_no_name h = and_false (is_word (codes "it")) h

pub new_no_name : is_name (codes "new") ≡ true → ⊥
unfolding is_name
new_no_name h = and_false (is_word (codes "new")) h

no_let : (w : List ℕ) → is_name w ≡ true → same_codes w (codes "let") ≡ false
no_let w h = by_test (same_codes w (codes "let")) (λ e. let k = text_is w (codes "let") e in let f : is_name (codes "let") ≡ true = rw k at h in absurd (let_no_name f)) (λ e. e)

no_it : (w : List ℕ) → is_name w ≡ true → same_codes w (codes "it") ≡ false
no_it w h = by_test (same_codes w (codes "it")) (λ e. let k = text_is w (codes "it") e in let f : is_name (codes "it") ≡ true = rw k at h in absurd (it_no_name f)) (λ e. e)

let_again : (n : List ℕ) (e : Expression (Call Slice)) (xs : List Lexeme) → Binds (codes "let") n e xs → form_of xs ≡ Let n e
let_again n e xs b = rw (b.is, b.first_is, bound_whole (codes "let") n e xs b) refl

it_again : (n : List ℕ) (e : Expression (Call Slice)) (xs : List Lexeme) → Binds (codes "it") n e xs → form_of xs ≡ It n e
it_again n e xs b = rw (b.is, b.first_is, bound_whole (codes "it") n e xs b) refl

eval_again : (e : Expression (Call Slice)) (xs : List Lexeme) → IsExpression e xs → form_of xs ≡ Eval e
eval_again e xs x = rw (x.is, x.head_is, no_let e.head x.name_is, no_it e.head x.name_is, expression_whole e x.rest x.name_is x.calls) refl

pub form_again : (t : Tree (Call Slice)) (xs : List Lexeme) → IsForm t xs → form_of xs ≡ t
form_again Blank xs h = rw h refl
form_again (New n k) xs h = absurd h
form_again (Let n e) xs h = let_again n e xs h
form_again (It n e) xs h = it_again n e xs h
form_again (Eval e) xs h = eval_again e xs h
form_again Syntax xs h = absurd h
form_again Long xs h = absurd h
