-- The grammar of the calls behind a name, each argument with its place.
use Rattle.std.specs.Prelude.{◌≡◌, ◌⊎◌, ℕ, List, [], ◌∷◌, ◌++◌, map, Option, Some, None}
use Rattle.std.specs.Option.{option_map}
use Rattle.elem.specs.declared.tokens.Sign.TheVariants.{Dot, Comma, Open, Close}
use Rattle.elem.specs.declared.tokens.Token.TheVariants as tokens
use Rattle.elem.specs.declared.lexing.Lexeme.{Lexeme}
use Rattle.elem.specs.Lexing.{kinds_of, lexed_from}
use Rattle.script_text.specs.declared.lines.Part.{Part}
use Rattle.elem.specs.SpanTexts.{extent}
use Rattle.script_text.specs.declared.lines.Slice.{Slice}
use Rattle.script_text.specs.declared.stages.Stage.TheVariants.{Ended}
use Rattle.script_text.specs.Grammar.{Arg, arg_tokens}
use Rattle.script_text.specs.Trees.{Call, no_slice, part_of}
use Rattle.script_text.specs.Stages.{reading}

-- these tokens are an argument at this place
pub record IsArg (group : List Lexeme) (place : Slice) : Type 0 where
  pub arg : Arg
  pub tokens : kinds_of group ≡ arg_tokens arg
  pub start : place.start ≡ (extent group).0
  pub end : place.end ≡ (extent group).1

-- behind an argument: more arguments at these places, a bracket, and then rest
abbrev pub MoreArgs : List Slice → List Lexeme → List Lexeme → Type 0
MoreArgs [] xs rest = (close : Lexeme) × (xs ≡ close ∷ rest) × (close.token ≡ tokens.Sign Close)
MoreArgs (p ∷ ps) xs rest = (comma : Lexeme) × (group behind : List Lexeme) × (xs ≡ comma ∷ (group ++ behind)) × (comma.token ≡ tokens.Sign Comma) × IsArg group p × MoreArgs ps behind rest

-- an argument, and more arguments behind it
abbrev pub SomeArgs : Slice → List Slice → List Lexeme → List Lexeme → Type 0
SomeArgs p ps xs rest = (group : List Lexeme) × (behind : List Lexeme) × (xs ≡ group ++ behind) × IsArg group p × MoreArgs ps behind rest

-- behind an opening bracket: arguments at these places, a bracket, and then rest
abbrev pub ArgsAre : List Slice → List Lexeme → List Lexeme → Type 0
ArgsAre [] xs rest = (close : Lexeme) × (xs ≡ close ∷ rest) × (close.token ≡ tokens.Sign Close)
ArgsAre (p ∷ ps) xs rest = SomeArgs p ps xs rest

-- behind a word: nothing, or arguments in brackets, and then rest
abbrev pub Brackets : List Slice → List Lexeme → List Lexeme → Type 0
Brackets places xs rest =
    ((places ≡ []) × (xs ≡ rest)) ⊎ ((bracket : Lexeme) × (inner : List Lexeme) × (xs ≡ bracket ∷ inner) × (bracket.token ≡ tokens.Sign Open) × ArgsAre places inner rest)

-- the tokens begin with this call, and rest is behind it
pub record IsCall (c : Call Slice) (xs rest : List Lexeme) : Type 0 where
  pub dot : Lexeme
  pub word : Lexeme
  pub behind : List Lexeme
  pub is : xs ≡ dot ∷ word ∷ behind
  pub dot_is : dot.token ≡ tokens.Sign Dot
  pub word_is : word.token ≡ tokens.Word c.word
  pub brackets : Brackets c.args behind rest

-- the tokens are these calls
abbrev pub CallsAre : List (Call Slice) → List Lexeme → Type 0
CallsAre [] xs = xs ≡ []
CallsAre (c ∷ cs) xs = (rest : List Lexeme) × IsCall c xs rest × CallsAre cs rest

-- the calls that the tokens are
abbrev pub calls_of : List Lexeme → Option (List (Call Slice))
calls_of xs = option_map (λ r. r.1) (reading Ended no_slice xs)

-- ---- the reader's state

abbrev pub and_then : {A B : Type 0} → Option A → (A → Option B) → Option B
and_then None f = None
and_then (Some x) f = f x

-- the calls that the tokens from a place on are
abbrev pub calls_from : List ℕ → ℕ → Option (List (Call Slice))
calls_from text at = and_then (lexed_from text at) calls_of

-- one more argument of the last call, where there is one
abbrev pub add_args : List (Call Slice) → List Slice → List (Call Slice)
add_args [] places = []
add_args (c ∷ []) places = record { word = c.word; args = c.args ++ places } ∷ []
add_args (c ∷ d ∷ cs) places = c ∷ add_args (d ∷ cs) places

-- how many arguments the last part has
abbrev pub last_count : List Part → ℕ
last_count [] = 0
last_count (p ∷ []) = p.count
last_count (p ∷ q ∷ ps) = last_count (q ∷ ps)

-- the parts are the calls, each with the places of its first three arguments
abbrev pub AreParts : List Part → List (Call Slice) → Type 0
AreParts ps cs = ps ≡ map part_of cs
