-- What may stand next behind the name that an expression begins with, by recursion on the tokens.
use Rattle.std.specs.Prelude.{ℕ, zero, suc, Bool, true, false, List, [], ◌∷◌, Option, Some, None, if◌then◌else◌}
use Rattle.std.specs.Option.{option_map}
use Rattle.elem.specs.declared.tokens.Sign.TheVariants.{Lowest, Highest, Dot, Comma, Open, Close, OpenSquare, CloseSquare}
use Rattle.elem.specs.declared.tokens.Sign.TheVariants as signs
use Rattle.elem.specs.declared.tokens.Token.{Token}
use Rattle.elem.specs.declared.tokens.Token.TheVariants as tokens
use Rattle.elem.specs.declared.lexing.Lexeme.{Lexeme}
use Rattle.script_text.specs.declared.lines.Slice.{Slice}
use Rattle.script_text.specs.declared.stages.Within.{Within}
use Rattle.script_text.specs.declared.stages.Within.TheVariants.{First, Next, Named, Done, LowAny, LowElement, Dots, High, CloseAny, CloseRound}
use Rattle.script_text.specs.declared.stages.Stage.{Stage}
use Rattle.script_text.specs.declared.stages.Stage.TheVariants.{Ended, Dotted, Called, Inside}
use Rattle.script_text.specs.declared.stages.Turn.{Turn}
use Rattle.script_text.specs.declared.stages.Turn.TheVariants.{To, Part, Argument}
use Rattle.script_text.specs.Trees.{Call}

abbrev pub depth_of : Stage → ℕ
depth_of (Inside w d) = d
depth_of s = 0

-- what an argument is that begins with the token
abbrev pub begins : Token → Option Within
begins (tokens.Number n) = Some Done
begins (tokens.Word w) = Some Named
begins (tokens.Sign Open) = Some LowAny
begins (tokens.Sign OpenSquare) = Some LowElement
begins t = None

-- behind an argument with a bracket open: a comma, or the bracket's end
abbrev pub behind : ℕ → Token → Option (Within × ℕ)
behind (suc d) (tokens.Sign Comma) = Some (Next, suc d)
behind (suc d) (tokens.Sign Close) = Some (Done, d)
behind d t = None

-- an end of a range, which may be the sign
abbrev pub end_step : Token → Within → Option Within
end_step (tokens.Number n) w = Some w
end_step (tokens.Word v) w = Some w
end_step t w = None

abbrev pub low_step : Token → Option Within
low_step (tokens.Sign Lowest) = Some Dots
low_step t = end_step t Dots

abbrev pub high_step : Token → Option Within
high_step (tokens.Sign Highest) = Some CloseRound
high_step t = end_step t CloseAny

abbrev pub dots_step : Token → Option Within
dots_step (tokens.Sign signs.Dots) = Some High
dots_step t = None

abbrev pub close_any : Token → Option Within
close_any (tokens.Sign Close) = Some Done
close_any (tokens.Sign CloseSquare) = Some Done
close_any t = None

abbrev pub close_round : Token → Option Within
close_round (tokens.Sign Close) = Some Done
close_round t = None

-- one token of a range
abbrev pub range_step : Within → Token → Option Within
range_step LowAny t = low_step t
range_step LowElement t = end_step t Dots
range_step Dots t = dots_step t
range_step High t = high_step t
range_step CloseAny t = close_any t
range_step CloseRound t = close_round t
range_step w t = None

abbrev pub same_depth : ℕ → Option Within → Option (Within × ℕ)
same_depth d o = option_map (λ w. (w, d)) o

abbrev pub first_step : ℕ → Token → Option (Within × ℕ)
first_step (suc d) (tokens.Sign Close) = Some (Done, d)
first_step d t = same_depth d (begins t)

abbrev pub named_step : ℕ → Token → Option (Within × ℕ)
named_step d (tokens.Sign Open) = Some (First, suc d)
named_step d t = behind d t

-- one token of an argument, with d more brackets open than those of the argument's own part
abbrev pub step : Within → ℕ → Token → Option (Within × ℕ)
step First d t = first_step d t
step Next d t = same_depth d (begins t)
step Named d t = named_step d t
step Done d t = behind d t
step w d t = same_depth d (range_step w t)

-- the end of an argument of the part, with no more bracket open: a comma, or the end of the part's own
abbrev pub ends_argument : Token → Option Turn
ends_argument (tokens.Sign Comma) = Some (Argument (Inside Next 0))
ends_argument (tokens.Sign Close) = Some (Argument Ended)
ends_argument t = None

abbrev pub ends_none : Token → Option Turn
ends_none (tokens.Sign Close) = Some (To Ended)
ends_none t = None

abbrev pub leave : Within → ℕ → Token → Option Turn
leave First zero t = ends_none t
leave Named zero t = ends_argument t
leave Done zero t = ends_argument t
leave w d t = None

abbrev pub go_inside : Option (Within × ℕ) → Option Turn → Option Turn
go_inside None other = other
go_inside (Some p) other = Some (To (Inside p.0 p.1))

abbrev pub dot_turn : Token → Option Turn
dot_turn (tokens.Sign Dot) = Some (To Dotted)
dot_turn t = None

abbrev pub word_turn : Token → Option Turn
word_turn (tokens.Word w) = Some (Part w)
word_turn t = None

abbrev pub called_turn : Token → Option Turn
called_turn (tokens.Sign Open) = Some (To (Inside First 0))
called_turn t = dot_turn t

-- what a token does
abbrev pub turn_of : Stage → Token → Option Turn
turn_of Ended t = dot_turn t
turn_of Dotted t = word_turn t
turn_of Called t = called_turn t
turn_of (Inside w d) t = go_inside (step w d t) (leave w d t)

-- an expression may end here
abbrev pub may_end : Stage → Bool
may_end Ended = true
may_end Dotted = false
may_end Called = true
may_end (Inside w d) = false

-- the next token begins an argument of the part
abbrev pub opens : Stage → Bool
opens (Inside First zero) = true
opens (Inside Next zero) = true
opens s = false

-- the place of the argument so far, with one more token
abbrev pub grown : Stage → Slice → Lexeme → Slice
grown s place x = record { start = if opens s then x.start else place.start; end = x.end }

-- what is still to come: arguments of the part that is read, and parts behind it
abbrev pub Rest : Type 0
Rest = List Slice × List (Call Slice)

abbrev pub add_call : List ℕ → Rest → Rest
add_call w r = ([], record { word = w; args = r.0 } ∷ r.1)

abbrev pub add_place : Slice → Rest → Rest
add_place place r = (place ∷ r.0, r.1)

abbrev pub turned : Option Turn → Slice → (Stage → Option Rest) → Option Rest
turned None place behind = None
turned (Some (To s)) place behind = behind s
turned (Some (Part w)) place behind = option_map (add_call w) (behind Called)
turned (Some (Argument s)) place behind = option_map (add_place place) (behind s)

-- what the tokens are, read from this stage on, where an argument of the part stands at this place so far
unfoldable pub reading : Stage → Slice → List Lexeme → Option Rest
reading s place [] = if may_end s then Some ([], []) else None
reading s place (x ∷ xs) = turned (turn_of s x.token) place (λ next. reading next (grown s place x) xs)
