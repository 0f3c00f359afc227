-- A text as a list of tokens with spaces between them.
use Rattle.std.specs.Prelude.{◌≡◌, ℕ, zero, suc, ◌+◌, ◌-◌, ◌<◌, ◌≤◌, ⊤, true, List, [], ◌∷◌, ◌++◌, length, drop, map, replicate, Option, Some, None, if◌then◌else◌, ◌==◌}
use Rattle.std.specs.Option.{option_map}
use Rattle.elem.specs.declared.tokens.Token.{Token}
use Rattle.elem.specs.declared.lexing.Lexeme.{Lexeme}
use Rattle.elem.specs.declared.lexing.Ahead.{Ahead}
use Rattle.elem.specs.declared.lexing.Ahead.TheVariants as ahead
use Rattle.elem.specs.Tokens.{token_text, IsToken, is_ended, token_at}

abbrev pub spaces : ℕ → List ℕ
spaces n = replicate n 32

-- the tokens alone, without their places
abbrev pub kinds_of : List Lexeme → List Token
kinds_of xs = map (λ x. x.token) xs

-- ---- which tokens a text is

-- the bytes from the place at on begin with n spaces and the token of x, as long as possible, and rest is behind it
pub record Begins (at : ℕ) (bytes : List ℕ) (n : ℕ) (x : Lexeme) (rest : List ℕ) : Type 0 where
  pub is : bytes ≡ spaces n ++ (token_text x.token ++ rest)
  pub token : IsToken x.token
  pub ended : is_ended x.token rest ≡ true
  pub start : x.start ≡ at + n
  pub end : x.end ≡ x.start + length (token_text x.token)

-- the bytes from the place at on are these tokens, with any spaces between them and at both ends
abbrev pub Spells : ℕ → List Lexeme → List ℕ → Type 0
Spells at [] bytes = (n : ℕ) × (bytes ≡ spaces n)
Spells at (x ∷ xs) bytes = (n : ℕ) × (rest : List ℕ) × Begins at bytes n x rest × Spells x.end xs rest

-- ---- how they are found

abbrev pub lexeme : Token → ℕ → ℕ → Lexeme
lexeme t start end = record { token = t; start = start; end = end }

abbrev pub with_first : Lexeme → Option (List Lexeme) → Option (List Lexeme)
with_first x xs = option_map (λ ys. x ∷ ys) xs

-- the token at a place, and those behind it
abbrev pub with_token : ℕ → Option (Token × ℕ) → (ℕ → Option (List Lexeme)) → Option (List Lexeme)
with_token at None behind = None
with_token at (Some x) behind = with_first (lexeme x.0 at (at + x.1)) (behind (x.1 - 1))

-- the tokens of the bytes from the place at on, of which the first passed belong to the token before
unfoldable pub lexed_past : ℕ → ℕ → List ℕ → Option (List Lexeme)
lexed_past passed at [] = Some []
lexed_past (suc passed) at (b ∷ bs) = lexed_past passed (at + 1) bs
lexed_past zero at (b ∷ bs) = if b == 32 then lexed_past 0 (at + 1) bs else with_token at (token_at (b ∷ bs)) (λ k. lexed_past k (at + 1) bs)

-- the tokens of a text from a place on
abbrev pub lexed_from : List ℕ → ℕ → Option (List Lexeme)
lexed_from text at = lexed_past 0 at (drop at text)

-- the tokens of a text
abbrev pub lexed : List ℕ → Option (List Lexeme)
lexed text = lexed_past 0 0 text

-- what stands next is the first of the tokens from the place at on
abbrev pub IsAhead : List ℕ → ℕ → Ahead → Type 0
IsAhead text at ahead.Nothing = lexed_from text at ≡ Some []
IsAhead text at ahead.Fault = lexed_from text at ≡ None
IsAhead text at (ahead.Next x) = lexed_from text at ≡ with_first x (lexed_from text x.end)

-- it stands in the text, at the place at or behind it, and takes at least one byte
abbrev pub IsBehind : List ℕ → ℕ → Ahead → Type 0
IsBehind text at ahead.Nothing = ⊤
IsBehind text at ahead.Fault = ⊤
IsBehind text at (ahead.Next x) = (at ≤ x.start) × (x.start < x.end) × (x.end ≤ length text)
