-- Which line a text is: the grammar as a relation between texts and trees, and the one tree of each text.
use Rattle.std.specs.Prelude.{◌≡◌, ◌⊎◌, ℕ, suc, ◌<◌, ◌≤◌, Bool, true, false, not, ◌&&◌, ◌==◌, nat_lt, if◌then◌else◌, List, [], ◌∷◌, ◌++◌, length, take, drop, codes, Option, Some, None}
use Rattle.std.specs.List.{list_all, prefix_len}
use Rattle.std.specs.Option.{option_map}
use Rattle.elem.specs.declared.tokens.Sign.TheVariants.{Equals}
use Rattle.elem.specs.declared.tokens.Token.{Token}
use Rattle.elem.specs.declared.tokens.Token.TheVariants as tokens
use Rattle.elem.specs.declared.lexing.Lexeme.{Lexeme}
use Rattle.elem.specs.Lexing.{spaces, Spells, lexed}
use Rattle.script_text.specs.declared.lines.Slice.{Slice}
use Rattle.script_text.specs.Names.{same_codes, is_name, is_kind}
use Rattle.script_text.specs.Trees.{Call, Expression, Tree, Blank, New, Let, It, Eval, Syntax, Long, map_tree, in_pieces}
use Rattle.script_text.specs.Calls.{CallsAre, calls_of, and_then}
use Rattle.elem.specs.Lexing.{lexed_from, with_first}

-- ---- the grammar

-- `#` behind any spaces, and any bytes
abbrev pub IsComment : List ℕ → Type 0
IsComment text = (n : ℕ) × (rest : List ℕ) × (text ≡ spaces n ++ (35 ∷ rest))

-- `new`, a name and the word of a kind, with at least one space between them
pub record IsNew (text name kind : List ℕ) : Type 0 where
  pub a : ℕ
  pub b : ℕ
  pub c : ℕ
  pub d : ℕ
  pub is : text ≡ spaces a ++ (codes "new" ++ (spaces (suc b) ++ (name ++ (spaces (suc c) ++ (kind ++ spaces d)))))
  pub name_is : is_name name ≡ true
  pub kind_is : is_kind kind ≡ true

-- a name and calls
pub record IsExpression (e : Expression (Call Slice)) (xs : List Lexeme) : Type 0 where
  pub head : Lexeme
  pub rest : List Lexeme
  pub is : xs ≡ head ∷ rest
  pub head_is : head.token ≡ tokens.Word e.head
  pub name_is : is_name e.head ≡ true
  pub calls : CallsAre e.calls rest

-- a keyword, a name, `=` and an expression
pub record Binds (keyword name : List ℕ) (e : Expression (Call Slice)) (xs : List Lexeme) : Type 0 where
  pub first : Lexeme
  pub second : Lexeme
  pub third : Lexeme
  pub rest : List Lexeme
  pub is : xs ≡ first ∷ second ∷ third ∷ rest
  pub first_is : first.token ≡ tokens.Word keyword
  pub second_is : second.token ≡ tokens.Word name
  pub third_is : third.token ≡ tokens.Sign Equals
  pub name_is : is_name name ≡ true
  pub expression : IsExpression e rest

-- the tokens are this line
abbrev pub IsForm : Tree (Call Slice) → List Lexeme → Type 0
IsForm Blank xs = xs ≡ []
IsForm (New name kind) xs = ⊥
IsForm (Let name e) xs = Binds (codes "let") name e xs
IsForm (It name e) xs = Binds (codes "it") name e xs
IsForm (Eval e) xs = IsExpression e xs
IsForm Syntax xs = ⊥
IsForm Long xs = ⊥

-- the text has tokens that are this line
abbrev pub HasForm : List ℕ → Tree (Call Slice) → Type 0
HasForm text t = (xs : List Lexeme) × Spells 0 xs text × IsForm t xs

-- the text is in the grammar, as this line
abbrev pub InGrammar : List ℕ → Tree (Call Slice) → Type 0
InGrammar text Blank = IsComment text ⊎ HasForm text Blank
InGrammar text (New name kind) = IsNew text name kind
InGrammar text t = HasForm text t

-- the text is this line: one of more than 1,024 bytes is long whatever it holds, and what is no other line is a fault
abbrev pub IsPlaced : List ℕ → Tree (Call Slice) → Type 0
IsPlaced text Long = 1024 < length text
IsPlaced text Syntax = (length text ≤ 1024) × ((t : Tree (Call Slice)) → InGrammar text t → ⊥)
IsPlaced text t = (length text ≤ 1024) × InGrammar text t

-- the same with each argument as a piece of the line
abbrev pub IsLine : List ℕ → Tree (Call (List ℕ)) → Type 0
IsLine text t = (placed : Tree (Call Slice)) × IsPlaced text placed × (t ≡ map_tree (in_pieces text) placed)

-- ---- the line of a text

unfoldable pub is_comment : List ℕ → Bool
is_comment [] = false
is_comment (b ∷ bs) = if b == 32 then is_comment bs else b == 35

abbrev pub no_space : ℕ → Bool
no_space b = not (b == 32)

abbrev pub space : ℕ → Bool
space b = b == 32

abbrev pub behind_spaces : List ℕ → List ℕ
behind_spaces text = drop (prefix_len space text) text

-- the first piece between spaces, and what is behind it
abbrev pub first_piece : List ℕ → List ℕ
first_piece text = take (prefix_len no_space (behind_spaces text)) (behind_spaces text)

abbrev pub behind_piece : List ℕ → List ℕ
behind_piece text = drop (prefix_len no_space (behind_spaces text)) (behind_spaces text)

-- the pieces are `new`, a name and a kind, and nothing
abbrev pub is_new : List ℕ → Bool
is_new text =
    same_codes (first_piece text) (codes "new") && is_name (first_piece (behind_piece text)) && is_kind (first_piece (behind_piece (behind_piece text)))
    && list_all space (behind_piece (behind_piece (behind_piece text)))

abbrev pub new_of : List ℕ → Tree (Call Slice)
new_of text = New (first_piece (behind_piece text)) (first_piece (behind_piece (behind_piece text)))

abbrev pub expression_of : List ℕ → List Lexeme → Option (Expression (Call Slice))
expression_of w xs = if is_name w then option_map (λ cs. record { head = w; calls = cs }) (calls_of xs) else None

-- the expression that the tokens are
abbrev pub expression_at : Token → List Lexeme → Option (Expression (Call Slice))
expression_at (tokens.Word w) xs = expression_of w xs
expression_at t xs = None

-- a name, `=` and an expression
abbrev pub Bound : Type 0
Bound = List ℕ × Expression (Call Slice)

abbrev pub bound_at : Token → Token → Token → List Lexeme → Option Bound
bound_at (tokens.Word n) (tokens.Sign Equals) t xs = if is_name n then option_map (λ e. (n, e)) (expression_at t xs) else None
bound_at a b c xs = None

abbrev pub bound_of : List Lexeme → Option Bound
bound_of (a ∷ b ∷ c ∷ xs) = bound_at a.token b.token c.token xs
bound_of xs = None

abbrev pub tree_or_fault : {A : Type 0} → (A → Tree (Call Slice)) → Option A → Tree (Call Slice)
tree_or_fault f None = Syntax
tree_or_fault f (Some x) = f x

-- the line that begins with a word
abbrev pub line_with : List ℕ → List Lexeme → Tree (Call Slice)
line_with w xs =
    if same_codes w (codes "let") then tree_or_fault (λ b. Let b.0 b.1) (bound_of xs)
    else if same_codes w (codes "it") then tree_or_fault (λ b. It b.0 b.1) (bound_of xs)
    else tree_or_fault Eval (expression_of w xs)

abbrev pub line_at : Token → List Lexeme → Tree (Call Slice)
line_at (tokens.Word w) xs = line_with w xs
line_at t xs = Syntax

-- the line that the tokens are
abbrev pub form_of : List Lexeme → Tree (Call Slice)
form_of [] = Blank
form_of (x ∷ xs) = line_at x.token xs

-- the line that a text is, with the places of the arguments
unfoldable pub placed_line : List ℕ → Tree (Call Slice)
placed_line text =
    if nat_lt 1024 (length text) then Long
    else if is_comment text then Blank
    else if is_new text then new_of text
    else tree_or_fault form_of (lexed text)

-- the line that a text is
abbrev pub line_of : List ℕ → Tree (Call (List ℕ))
line_of text = map_tree (in_pieces text) (placed_line text)

-- ---- what is read from a place on

abbrev pub expression_from : List ℕ → List ℕ → ℕ → Option (Expression (Call Slice))
expression_from text w at = and_then (lexed_from text at) (expression_of w)

abbrev pub bound_from : List ℕ → ℕ → Option Bound
bound_from text at = and_then (lexed_from text at) bound_of

-- the first token is no word
abbrev pub NoWord : List Lexeme → Type 0
NoWord [] = Unit {0}
NoWord (x ∷ xs) = (w : List ℕ) → x.token ≡ tokens.Word w → ⊥

abbrev pub NoEquals : List Lexeme → Type 0
NoEquals [] = Unit {0}
NoEquals (x ∷ xs) = x.token ≡ tokens.Sign Equals → ⊥

-- the word that stands next, and the place behind it
abbrev pub HasWord : List ℕ → ℕ → Option (List ℕ × ℕ) → Type 0
HasWord text at None = (xs : List Lexeme) → lexed_from text at ≡ Some xs → NoWord xs
HasWord text at (Some r) = (x : Lexeme) × (x.token ≡ tokens.Word r.0) × (lexed_from text at ≡ with_first x (lexed_from text r.1))

-- the place behind the `=` that stands next
abbrev pub HasEquals : List ℕ → ℕ → Option ℕ → Type 0
HasEquals text at None = (xs : List Lexeme) → lexed_from text at ≡ Some xs → NoEquals xs
HasEquals text at (Some end) = (x : Lexeme) × (x.token ≡ tokens.Sign Equals) × (lexed_from text at ≡ with_first x (lexed_from text end))
