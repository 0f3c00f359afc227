-- What a token does to the stage.
use Rattle.std.proofs.Common.{◌≡◌, ℕ, zero, suc, ◌+◌, ◌≤◌, List, Option, Some, None, refl, arith}
use Rattle.elem.specs.declared.tokens.Token.{Token}
use Rattle.elem.specs.declared.tokens.Token.TheVariants as tokens
use Rattle.elem.specs.declared.tokens.Sign.TheVariants.{Dot, Comma, Open, Close}
use Rattle.script_text.specs.declared.stages.Within.{Within}
use Rattle.script_text.specs.declared.stages.Within.TheVariants.{First, Next, Named, Done}
use Rattle.script_text.specs.declared.stages.Stage.{Stage}
use Rattle.script_text.specs.declared.stages.Stage.TheVariants.{Ended, Dotted, Called, Inside}
use Rattle.script_text.specs.declared.stages.Turn.{Turn}
use Rattle.script_text.specs.declared.stages.Turn.TheVariants as turns
use Rattle.script_text.specs.Stages.{depth_of, turn_of, step, behind, leave, begins, first_step, named_step, same_depth, range_step, go_inside, dot_turn, word_turn, called_turn, ends_argument, ends_none}

abbrev some_turn : Turn → Option Turn
some_turn t = Some t

turn_is : (t u : Turn) → some_turn t ≡ some_turn u → t ≡ u
turn_is t u h = cc

abbrev depth_after : Turn → ℕ
depth_after (turns.To s) = depth_of s
depth_after (turns.Part w) = 0
depth_after (turns.Argument s) = depth_of s

-- at most one bracket more is open behind a token
abbrev AtMost : ℕ → Option (Within × ℕ) → Type 0
AtMost d None = Unit {0}
AtMost d (Some p) = p.1 ≤ d + 1

at_most_same : (d : ℕ) (o : Option Within) → AtMost d (same_depth d o)
at_most_same d None = tt
at_most_same d (Some w) = omega arith

at_most_behind : (d : ℕ) (t : Token) → AtMost d (behind d t)
at_most_behind (suc d) (tokens.Sign Comma) = omega arith
at_most_behind (suc d) (tokens.Sign Close) = omega arith
at_most_behind d t = tt

at_most_first : (d : ℕ) (t : Token) → AtMost d (first_step d t)
at_most_first (suc d) (tokens.Sign Close) = omega arith
at_most_first d t = at_most_same d (begins t)

at_most_named : (d : ℕ) (t : Token) → AtMost d (named_step d t)
at_most_named d (tokens.Sign Open) = omega arith
at_most_named d t = at_most_behind d t

at_most : (w : Within) (d : ℕ) (t : Token) → AtMost d (step w d t)
at_most First d t = at_most_first d t
at_most Next d t = at_most_same d (begins t)
at_most Named d t = at_most_named d t
at_most Done d t = at_most_behind d t
at_most w d t = at_most_same d (range_step w t)

abbrev TurnAtMost : ℕ → Option Turn → Type 0
TurnAtMost d None = Unit {0}
TurnAtMost d (Some t) = depth_after t ≤ d + 1

argument_at_most : (d : ℕ) (t : Token) → TurnAtMost d (ends_argument t)
argument_at_most d (tokens.Sign Comma) = omega arith
argument_at_most d (tokens.Sign Close) = omega arith
argument_at_most d t = tt

none_at_most : (d : ℕ) (t : Token) → TurnAtMost d (ends_none t)
none_at_most d (tokens.Sign Close) = omega arith
none_at_most d t = tt

leave_at_most : (w : Within) (d : ℕ) (t : Token) → TurnAtMost d (leave w d t)
leave_at_most First zero t = none_at_most 0 t
leave_at_most Named zero t = argument_at_most 0 t
leave_at_most Done zero t = argument_at_most 0 t
leave_at_most w d t = tt

inside_at_most : (d : ℕ) (o : Option (Within × ℕ)) (other : Option Turn) → AtMost d o → TurnAtMost d other → TurnAtMost d (go_inside o other)
inside_at_most d None other h k = k
inside_at_most d (Some p) other h k = h

dot_at_most : (t : Token) → TurnAtMost 0 (dot_turn t)
dot_at_most (tokens.Sign Dot) = omega arith
dot_at_most t = tt

word_at_most : (t : Token) → TurnAtMost 0 (word_turn t)
word_at_most (tokens.Word w) = omega arith
word_at_most t = tt

called_at_most : (t : Token) → TurnAtMost 0 (called_turn t)
called_at_most (tokens.Sign Open) = omega arith
called_at_most t = dot_at_most t

turn_at_most : (s : Stage) (t : Token) → TurnAtMost (depth_of s) (turn_of s t)
turn_at_most Ended t = dot_at_most t
turn_at_most Dotted t = word_at_most t
turn_at_most Called t = called_at_most t
turn_at_most (Inside w d) t = inside_at_most d (step w d t) (leave w d t) (at_most w d t) (leave_at_most w d t)

pub depth_grows : (s : Stage) (t : Token) (u : Turn) → turn_of s t ≡ some_turn u → depth_after u ≤ depth_of s + 1
depth_grows s t u e = rw e at (turn_at_most s t)

-- ---- a part's word stands behind a dot

abbrev NoPart : Option Turn → Type 0
NoPart (Some (turns.Part w)) = ⊥
NoPart o = Unit {0}

dot_no_part : (t : Token) → NoPart (dot_turn t)
dot_no_part (tokens.Sign Dot) = tt
dot_no_part t = tt

called_no_part : (t : Token) → NoPart (called_turn t)
called_no_part (tokens.Sign Open) = tt
called_no_part t = dot_no_part t

argument_no_part : (t : Token) → NoPart (ends_argument t)
argument_no_part (tokens.Sign Comma) = tt
argument_no_part (tokens.Sign Close) = tt
argument_no_part t = tt

none_no_part : (t : Token) → NoPart (ends_none t)
none_no_part (tokens.Sign Close) = tt
none_no_part t = tt

leave_no_part : (w : Within) (d : ℕ) (t : Token) → NoPart (leave w d t)
leave_no_part First zero t = none_no_part t
leave_no_part Named zero t = argument_no_part t
leave_no_part Done zero t = argument_no_part t
leave_no_part w d t = tt

inside_no_part : (o : Option (Within × ℕ)) (other : Option Turn) → NoPart other → NoPart (go_inside o other)
inside_no_part None other h = h
inside_no_part (Some p) other h = tt

pub part_is_dotted : (s : Stage) (t : Token) (w : List ℕ) → turn_of s t ≡ some_turn (turns.Part w) → s ≡ Dotted
part_is_dotted Ended t w e = absurd (rw e at (dot_no_part t))
part_is_dotted Dotted t w e = refl
part_is_dotted Called t w e = absurd (rw e at (called_no_part t))
part_is_dotted (Inside v d) t w e = absurd (rw e at (inside_no_part (step v d t) (leave v d t) (leave_no_part v d t)))
