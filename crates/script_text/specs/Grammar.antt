-- The grammar of an argument: a tree, and the tokens that spell it.
use Rattle.std.specs.Prelude.{ℕ, ℤ, List, [], ◌∷◌, ◌++◌}
use Rattle.elem.specs.declared.spans.Span.{Span}
use Rattle.elem.specs.declared.tokens.Sign.TheVariants.{Comma, Open, Close}
use Rattle.elem.specs.declared.tokens.Token.{Token}
use Rattle.elem.specs.declared.tokens.Token.TheVariants as tokens
use Rattle.elem.specs.SpanTexts.{span_tokens, HasEnds}

-- an argument is a number, a word, a word with arguments in brackets, or a range
mutual
  pub data Arg : Type 0 where
    Number : ℤ → Arg
    Bare : List ℕ → Arg
    Apply : List ℕ → Args → Arg
    Range : (s : Span) → HasEnds s → Arg

  pub data Args : Type 0 where
    Nil : Args
    Cons : Arg → Args → Args

abbrev mutual
  -- the tokens of an argument
  pub arg_tokens : Arg → List Token
  arg_tokens (Number n) = tokens.Number n ∷ []
  arg_tokens (Bare w) = tokens.Word w ∷ []
  arg_tokens (Apply w args) = tokens.Word w ∷ tokens.Sign Open ∷ (args_tokens args ++ (tokens.Sign Close ∷ []))
  arg_tokens (Range s ends) = span_tokens s

  -- arguments with commas between them
  pub args_tokens : Args → List Token
  args_tokens Nil = []
  args_tokens (Cons a more) = arg_tokens a ++ more_tokens more

  -- arguments with a comma before each
  pub more_tokens : Args → List Token
  more_tokens Nil = []
  more_tokens (Cons a more) = tokens.Sign Comma ∷ (arg_tokens a ++ more_tokens more)
