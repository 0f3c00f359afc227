-- The reading of predicates and functions, by recursion on the tokens, with what is still wanted.
use Rattle.std.specs.Prelude.{ℕ, Bool, true, false, if◌then◌else◌, List, [], ◌∷◌, ◌++◌, length, nat_eq, codes, Option, Some, None, Result, Ok, Err, option_to_list, ◌&&◌, nat_lt}
use Rattle.std.specs.Option.{option_map}
use Rattle.std.specs.Cmp.Lexicographic.{pointwise}
use Rattle.elem.specs.declared.tokens.Sign.TheVariants as signs
use Rattle.elem.specs.declared.tokens.Token.{Token}
use Rattle.elem.specs.declared.tokens.Token.TheVariants as tokens
use Rattle.elem.specs.declared.lexing.Lexeme.{Lexeme}
use Rattle.elem.specs.Lexing.{lexed, kinds_of}
use Rattle.elem.specs.SpanTexts.{element_of}
use Rattle.fn_lang.specs.declared.leaves.Test.TheVariants as tests
use Rattle.fn_lang.specs.declared.leaves.Map.TheVariants as maps
use Rattle.fn_lang.specs.declared.parts.Part.{Part}
use Rattle.fn_lang.specs.declared.parts.Part.TheVariants as parts
use Rattle.fn_lang.specs.declared.names.Sort.{Sort}
use Rattle.fn_lang.specs.declared.names.Sort.TheVariants as sorts
use Rattle.fn_lang.specs.declared.names.Given.{Given}
use Rattle.fn_lang.specs.declared.names.Given.TheVariants as given
use Rattle.fn_lang.specs.declared.names.Inner.{Inner}
use Rattle.fn_lang.specs.declared.names.Inner.TheVariants.{One, Two, Three}
use Rattle.fn_lang.specs.declared.steps.Want.{Want}
use Rattle.fn_lang.specs.declared.steps.Want.TheVariants as wants
use Rattle.fn_lang.specs.declared.names.Shape.{Shape}
use Rattle.fn_lang.specs.declared.names.Shape.TheVariants as shapes
use Rattle.fn_lang.specs.declared.steps.Step.{Step}
use Rattle.fn_lang.specs.declared.faults.FnFault.{FnFault}
use Rattle.fn_lang.specs.Grammar.{is_padded}
use Rattle.fn_lang.specs.declared.faults.FnFault.TheVariants.{NotGrammar, TooLarge}

abbrev pub same_codes : List ℕ → List ℕ → Bool
same_codes = pointwise nat_eq

-- what a name stands for where a predicate is wanted
unfoldable pub pred_shape : List ℕ → Option Shape
pred_shape w =
    if same_codes w (codes "any") then Some (shapes.Alone (parts.Test tests.Any))
    else if same_codes w (codes "isInt") then Some (shapes.Alone (parts.Test tests.IsInt))
    else if same_codes w (codes "even") then Some (shapes.Alone (parts.Test tests.Even))
    else if same_codes w (codes "odd") then Some (shapes.Alone (parts.Test tests.Odd))
    else if same_codes w (codes "lt") then Some (shapes.Given given.Below)
    else if same_codes w (codes "gt") then Some (shapes.Given given.Above)
    else if same_codes w (codes "eq") then Some (shapes.Given given.Same)
    else if same_codes w (codes "starts") then Some (shapes.Given given.Starts)
    else if same_codes w (codes "and") then Some (shapes.Node parts.And (Two sorts.Pred sorts.Pred))
    else if same_codes w (codes "or") then Some (shapes.Node parts.Or (Two sorts.Pred sorts.Pred))
    else if same_codes w (codes "not") then Some (shapes.Node parts.Not (One sorts.Pred))
    else None

unfoldable pub pair_shape : List ℕ → Option Shape
pair_shape w =
    if same_codes w (codes "key") then Some (shapes.Node parts.Key (One sorts.Pred))
    else if same_codes w (codes "value") then Some (shapes.Node parts.Value (One sorts.Pred))
    else if same_codes w (codes "and") then Some (shapes.Node parts.And (Two sorts.PairPred sorts.PairPred))
    else if same_codes w (codes "or") then Some (shapes.Node parts.Or (Two sorts.PairPred sorts.PairPred))
    else if same_codes w (codes "not") then Some (shapes.Node parts.Not (One sorts.PairPred))
    else None

unfoldable pub func_shape : List ℕ → Option Shape
func_shape w =
    if same_codes w (codes "plus") then Some (shapes.Given given.Plus)
    else if same_codes w (codes "times") then Some (shapes.Given given.Times)
    else if same_codes w (codes "neg") then Some (shapes.Alone (parts.Map maps.Negate))
    else if same_codes w (codes "len") then Some (shapes.Alone (parts.Map maps.Length))
    else if same_codes w (codes "const") then Some (shapes.Given given.Const)
    else if same_codes w (codes "prefix") then Some (shapes.Given given.Prefix)
    else if same_codes w (codes "then") then Some (shapes.Node parts.Then (Two sorts.Func sorts.Func))
    else if same_codes w (codes "when") then Some (shapes.Node parts.When (Three sorts.Pred sorts.Func sorts.Func))
    else None

abbrev pub shape_of : Sort → List ℕ → Option Shape
shape_of sorts.Pred w = pred_shape w
shape_of sorts.PairPred w = pair_shape w
shape_of sorts.Func w = func_shape w

-- the part of a name with what is given to it: an element, a number or a word
abbrev pub plus_part : Token → Option Part
plus_part (tokens.Number n) = Some (parts.Map (maps.Plus n))
plus_part t = None

abbrev pub times_part : Token → Option Part
times_part (tokens.Number n) = Some (parts.Map (maps.Times n))
times_part t = None

abbrev pub starts_part : Token → Option Part
starts_part (tokens.Word w) = Some (parts.Test (tests.Starts w))
starts_part t = None

abbrev pub prefix_part : Token → Option Part
prefix_part (tokens.Word w) = Some (parts.Map (maps.Prefix w))
prefix_part t = None

abbrev pub given_part : Given → Token → Option Part
given_part given.Plus t = plus_part t
given_part given.Times t = times_part t
given_part given.Below t = option_map (λ e. parts.Test (tests.Below e)) (element_of t)
given_part given.Above t = option_map (λ e. parts.Test (tests.Above e)) (element_of t)
given_part given.Same t = option_map (λ e. parts.Test (tests.Same e)) (element_of t)
given_part given.Const t = option_map (λ e. parts.Map (maps.Const e)) (element_of t)
given_part given.Starts t = starts_part t
given_part given.Prefix t = prefix_part t

-- ---- what a token does

abbrev pub plain : Option Want → Option Want → Step
plain next later = record { part = None; next = next; later = later; bare = false }

abbrev pub shape_step : Shape → Step
shape_step (shapes.Alone p) = record { part = Some p; next = None; later = None; bare = true }
shape_step (shapes.Given g) = plain (Some (wants.OpenGiven g)) None
shape_step (shapes.Node p inner) = record { part = Some p; next = Some (wants.Open inner); later = None; bare = false }

abbrev pub inner_step : Inner → Step
inner_step (One a) = plain (Some (wants.Tree a)) (Some wants.Close)
inner_step (Two a b) = plain (Some (wants.Tree a)) (Some (wants.Comma (One b)))
inner_step (Three a b c) = plain (Some (wants.Tree a)) (Some (wants.Comma (Two b c)))

abbrev pub part_step : Part → Step
part_step p = record { part = Some p; next = None; later = None; bare = false }

abbrev pub is_open : Token → Bool
is_open (tokens.Sign signs.Open) = true
is_open t = false

abbrev pub tree_step : Sort → Token → Option Step
tree_step s (tokens.Word w) = option_map shape_step (shape_of s w)
tree_step s t = None

abbrev pub open_step : Inner → Token → Option Step
open_step inner (tokens.Sign signs.Open) = Some (inner_step inner)
open_step inner t = None

abbrev pub comma_step : Inner → Token → Option Step
comma_step inner (tokens.Sign signs.Comma) = Some (inner_step inner)
comma_step inner t = None

abbrev pub open_given_step : Given → Token → Option Step
open_given_step g (tokens.Sign signs.Open) = Some (plain (Some (wants.Given g)) (Some wants.Close))
open_given_step g t = None

abbrev pub close_step : Token → Option Step
close_step (tokens.Sign signs.Close) = Some (plain None None)
close_step t = None

-- what a token does where this is wanted
abbrev pub step_of : Want → Token → Option Step
step_of (wants.Tree s) t = tree_step s t
step_of (wants.Open inner) t = open_step inner t
step_of (wants.Comma inner) t = comma_step inner t
step_of (wants.OpenGiven g) t = open_given_step g t
step_of (wants.Given g) t = option_map part_step (given_part g t)
step_of wants.Close t = close_step t

-- ---- all tokens

-- what a token makes, and what is wanted behind it
abbrev pub stepped : Option Step → List Want → (Bool → List Want → Option (List Part)) → Option (List Part)
stepped None ws behind = None
stepped (Some s) ws behind = option_map (λ ps. option_to_list s.part ++ ps) (behind s.bare (option_to_list s.next ++ (option_to_list s.later ++ ws)))

abbrev pub wanted : List Want → Token → (Bool → List Want → Option (List Part)) → Option (List Part)
wanted [] t behind = None
wanted (w ∷ ws) t behind = stepped (step_of w t) ws behind

abbrev pub nothing_wanted : List Want → Option (List Part)
nothing_wanted [] = Some []
nothing_wanted (w ∷ ws) = None

-- the parts that the tokens are where these are wanted, and where empty brackets may stand first
unfoldable pub parse : Bool → List Want → List Token → Option (List Part)
parse bare ws [] = nothing_wanted ws
parse bare ws (t ∷ ts) = if bare && is_open t then parse false (wants.Close ∷ ws) ts else wanted ws t (λ b us. parse b us ts)

abbrev pub parse_all : Bool → List Want → Option (List Lexeme) → Option (List Part)
parse_all bare ws None = None
parse_all bare ws (Some xs) = parse bare ws (kinds_of xs)

-- the parts that a text is, with any spaces between its tokens and none at its two ends
unfoldable pub parts_of : Sort → List ℕ → Option (List Part)
parts_of s text = if is_padded text then None else parse_all false (wants.Tree s ∷ []) (lexed text)

-- at most 64 parts are a value
abbrev pub at_most_64 : Option (List Part) → Result (List Part) FnFault
at_most_64 None = Err NotGrammar
at_most_64 (Some ps) = if nat_lt 64 (length ps) then Err TooLarge else Ok ps

-- what a text gives
abbrev pub reading : Sort → List ℕ → Result (List Part) FnFault
reading s text = at_most_64 (parts_of s text)

-- an answer with the parts of its tree
abbrev pub with_parts : {T : Type 0} → (T → List Part) → Result T FnFault → Result (List Part) FnFault
with_parts parts (Ok tree) = Ok (parts tree)
with_parts parts (Err fault) = Err fault
