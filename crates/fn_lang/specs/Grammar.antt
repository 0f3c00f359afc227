-- The grammar of predicates and functions: which tokens spell a tree, and which texts have such tokens.
use Rattle.std.specs.Prelude.{◌≡◌, ◌⊎◌, ℕ, Bool, false, ◌&&◌, ◌||◌, ◌==◌, ◌-◌, nat_lt, List, [], ◌∷◌, ◌++◌, length, slice_index, codes}
use Rattle.elem.specs.declared.tokens.Sign.TheVariants.{Open, Close, Comma}
use Rattle.elem.specs.declared.tokens.Token.{Token}
use Rattle.elem.specs.declared.tokens.Token.TheVariants as tokens
use Rattle.elem.specs.declared.lexing.Lexeme.{Lexeme}
use Rattle.elem.specs.Lexing.{Spells, kinds_of}
use Rattle.elem.specs.SpanTexts.{element_token}
use Rattle.fn_lang.specs.declared.leaves.Test.{Test}
use Rattle.fn_lang.specs.declared.leaves.Test.TheVariants as tests
use Rattle.fn_lang.specs.declared.leaves.Map.{Map}
use Rattle.fn_lang.specs.declared.leaves.Map.TheVariants as maps
use Rattle.fn_lang.specs.Trees.{PredTree, One, And, Or, Not, PairTree, OfKey, OfValue, Both, Either, Neither, FuncTree, Leaf, Then, When}

-- ---- which tokens spell a tree

-- a word with these in brackets behind it
abbrev pub applied : List ℕ → List Token → List Token
applied w inner = tokens.Word w ∷ tokens.Sign Open ∷ (inner ++ (tokens.Sign Close ∷ []))

-- two with a comma between them
abbrev pub with_comma : List Token → List Token → List Token
with_comma a b = a ++ (tokens.Sign Comma ∷ b)

-- a word alone, or with empty brackets behind it
abbrev pub IsAlone : List ℕ → List Token → Type 0
IsAlone w ts = (ts ≡ tokens.Word w ∷ []) ⊎ (ts ≡ applied w [])

-- the tokens spell a predicate that has no others in its brackets: x is a number or a word, t a word
abbrev pub SpellsTest : List Token → Test → Type 0
SpellsTest ts tests.Any = IsAlone (codes "any") ts
SpellsTest ts tests.IsInt = IsAlone (codes "isInt") ts
SpellsTest ts tests.Even = IsAlone (codes "even") ts
SpellsTest ts tests.Odd = IsAlone (codes "odd") ts
SpellsTest ts (tests.Below x) = ts ≡ applied (codes "lt") (element_token x ∷ [])
SpellsTest ts (tests.Above x) = ts ≡ applied (codes "gt") (element_token x ∷ [])
SpellsTest ts (tests.Same x) = ts ≡ applied (codes "eq") (element_token x ∷ [])
SpellsTest ts (tests.Starts t) = ts ≡ applied (codes "starts") (tokens.Word t ∷ [])

-- the tokens spell a function that has no others in its brackets: n is a number
abbrev pub SpellsMap : List Token → Map → Type 0
SpellsMap ts (maps.Plus n) = ts ≡ applied (codes "plus") (tokens.Number n ∷ [])
SpellsMap ts (maps.Times n) = ts ≡ applied (codes "times") (tokens.Number n ∷ [])
SpellsMap ts maps.Negate = IsAlone (codes "neg") ts
SpellsMap ts maps.Length = IsAlone (codes "len") ts
SpellsMap ts (maps.Const x) = ts ≡ applied (codes "const") (element_token x ∷ [])
SpellsMap ts (maps.Prefix t) = ts ≡ applied (codes "prefix") (tokens.Word t ∷ [])

-- the tokens spell the predicate
abbrev pub SpellsPred : List Token → PredTree → Type 0
SpellsPred ts (One t) = SpellsTest ts t
SpellsPred ts (And p q) = (a b : List Token) × (ts ≡ applied (codes "and") (with_comma a b)) × SpellsPred a p × SpellsPred b q
SpellsPred ts (Or p q) = (a b : List Token) × (ts ≡ applied (codes "or") (with_comma a b)) × SpellsPred a p × SpellsPred b q
SpellsPred ts (Not p) = (a : List Token) × (ts ≡ applied (codes "not") a) × SpellsPred a p

-- the tokens spell the predicate on pairs
abbrev pub SpellsPair : List Token → PairTree → Type 0
SpellsPair ts (OfKey p) = (a : List Token) × (ts ≡ applied (codes "key") a) × SpellsPred a p
SpellsPair ts (OfValue p) = (a : List Token) × (ts ≡ applied (codes "value") a) × SpellsPred a p
SpellsPair ts (Both p q) = (a b : List Token) × (ts ≡ applied (codes "and") (with_comma a b)) × SpellsPair a p × SpellsPair b q
SpellsPair ts (Either p q) = (a b : List Token) × (ts ≡ applied (codes "or") (with_comma a b)) × SpellsPair a p × SpellsPair b q
SpellsPair ts (Neither p) = (a : List Token) × (ts ≡ applied (codes "not") a) × SpellsPair a p

-- the tokens spell the function
abbrev pub SpellsFunc : List Token → FuncTree → Type 0
SpellsFunc ts (Leaf m) = SpellsMap ts m
SpellsFunc ts (Then f g) = (a b : List Token) × (ts ≡ applied (codes "then") (with_comma a b)) × SpellsFunc a f × SpellsFunc b g
SpellsFunc ts (When p f g) = (a b c : List Token) × (ts ≡ applied (codes "when") (with_comma a (with_comma b c))) × SpellsPred a p × SpellsFunc b f × SpellsFunc c g

-- ---- which text is a tree

-- the text begins or ends with a space
abbrev pub is_padded : List ℕ → Bool
is_padded text = nat_lt 0 (length text) && (slice_index text 0 == 32 || slice_index text (length text - 1) == 32)

-- the text has these tokens, with any spaces between them and none at its two ends
pub record HasTokens (text : List ℕ) (ts : List Token) : Type 0 where
  pub lexemes : List Lexeme
  pub spelled : Spells 0 lexemes text
  pub tokens : kinds_of lexemes ≡ ts
  pub unpadded : is_padded text ≡ false

-- the text is the predicate
abbrev pub IsPredText : List ℕ → PredTree → Type 0
IsPredText text p = (ts : List Token) × HasTokens text ts × SpellsPred ts p

-- the text is the predicate on pairs
abbrev pub IsPairText : List ℕ → PairTree → Type 0
IsPairText text p = (ts : List Token) × HasTokens text ts × SpellsPair ts p

-- the text is the function
abbrev pub IsFuncText : List ℕ → FuncTree → Type 0
IsFuncText text f = (ts : List Token) × HasTokens text ts × SpellsFunc ts f
