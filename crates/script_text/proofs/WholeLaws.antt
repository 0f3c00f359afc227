-- What is in the grammar behind a name is read.
use Rattle.std.proofs.Common.{◌≡◌, inl, inr, ℕ, zero, suc, Bool, true, false, List, [], ◌∷◌, ◌++◌, Option, Some, None, refl, sym, ap, ◌∙◌}
use Rattle.std.specs.Option.{option_map}
use Rattle.elem.specs.declared.tokens.Token.{Token}
use Rattle.elem.specs.declared.tokens.Token.TheVariants as tokens
use Rattle.elem.specs.declared.tokens.Sign.TheVariants.{Lowest, Highest, Dot, Comma, Open, Close, OpenSquare, CloseSquare}
use Rattle.elem.specs.declared.tokens.Sign.TheVariants as signs
use Rattle.elem.specs.declared.lexing.Lexeme.{Lexeme}
use Rattle.elem.specs.Lexing.{kinds_of}
use Rattle.script_text.specs.declared.lines.Slice.{Slice}
use Rattle.script_text.specs.declared.stages.Within.{Within}
use Rattle.script_text.specs.declared.stages.Within.TheVariants.{First, Next, Named, Done, LowAny, LowElement, Dots, High, CloseAny, CloseRound}
use Rattle.script_text.specs.declared.stages.Stage.{Stage}
use Rattle.script_text.specs.declared.stages.Stage.TheVariants.{Ended, Dotted, Called, Inside}
use Rattle.script_text.specs.Trees.{Call}
use Rattle.script_text.specs.Stages.{reading, step, behind, begins, first_step, named_step, same_depth, low_step, high_step, end_step, dots_step, close_any, close_round, grown, opens, add_call, add_place}
use Rattle.script_text.specs.Calls.{IsArg, MoreArgs, ArgsAre, Brackets, CallsAre, and_then}
use Rattle.script_text.proofs.ArgLaws.{run, behind_by, is_bare, whole_run}
use Rattle.script_text.proofs.SoundLaws.{last_from, place_from, first_of}

-- ---- a step leads into an argument, not before one of the part's

abbrev pub some_step : Within × ℕ → Option (Within × ℕ)
some_step p = Some p

abbrev IsWithin : Option (Within × ℕ) → Type 0
IsWithin None = Unit {0}
IsWithin (Some p) = opens (Inside p.0 p.1) ≡ false

begins_within : (d : ℕ) (t : Token) → IsWithin (same_depth d (begins t))
begins_within d (tokens.Number n) = refl
begins_within d (tokens.Word w) = refl
begins_within d (tokens.Sign Open) = refl
begins_within d (tokens.Sign OpenSquare) = refl
begins_within d t = tt

behind_within : (d : ℕ) (t : Token) → IsWithin (behind d t)
behind_within (suc d) (tokens.Sign Comma) = refl
behind_within (suc d) (tokens.Sign Close) = refl
behind_within d t = tt

first_within : (d : ℕ) (t : Token) → IsWithin (first_step d t)
first_within zero t = begins_within zero t
first_within (suc d) (tokens.Sign Close) = refl
first_within (suc d) t = begins_within (suc d) t

named_within : (d : ℕ) (t : Token) → IsWithin (named_step d t)
named_within d (tokens.Sign Open) = refl
named_within d t = behind_within d t

end_within : (d : ℕ) (t : Token) → IsWithin (same_depth d (end_step t Dots))
end_within d (tokens.Number n) = refl
end_within d (tokens.Word w) = refl
end_within d t = tt

low_within : (d : ℕ) (t : Token) → IsWithin (same_depth d (low_step t))
low_within d (tokens.Sign Lowest) = refl
low_within d (tokens.Number n) = refl
low_within d (tokens.Word w) = refl
low_within d t = tt

dots_within : (d : ℕ) (t : Token) → IsWithin (same_depth d (dots_step t))
dots_within d (tokens.Sign signs.Dots) = refl
dots_within d t = tt

high_within : (d : ℕ) (t : Token) → IsWithin (same_depth d (high_step t))
high_within d (tokens.Sign Highest) = refl
high_within d (tokens.Number n) = refl
high_within d (tokens.Word w) = refl
high_within d t = tt

any_within : (d : ℕ) (t : Token) → IsWithin (same_depth d (close_any t))
any_within d (tokens.Sign Close) = refl
any_within d (tokens.Sign CloseSquare) = refl
any_within d t = tt

round_within : (d : ℕ) (t : Token) → IsWithin (same_depth d (close_round t))
round_within d (tokens.Sign Close) = refl
round_within d t = tt

step_within : (w : Within) (d : ℕ) (t : Token) → IsWithin (step w d t)
step_within First d t = first_within d t
step_within Next d t = begins_within d t
step_within Named d t = named_within d t
step_within Done d t = behind_within d t
step_within LowAny d t = low_within d t
step_within LowElement d t = end_within d t
step_within Dots d t = dots_within d t
step_within High d t = high_within d t
step_within CloseAny d t = any_within d t
step_within CloseRound d t = round_within d t

-- ---- the tokens of one argument

step_is : (p q : Within × ℕ) → some_step p ≡ some_step q → p ≡ q
step_is p q h = cc

taken : (o : Option (Within × ℕ)) (ts : List Token) (p : Within × ℕ) → and_then o (λ q. run q.0 q.1 ts) ≡ some_step p → (q : Within × ℕ) × (o ≡ some_step q) × (run q.0 q.1 ts ≡ some_step p)
taken None ts p h = absurd cc
taken (Some q) ts p h = (q, refl, h)

-- one token within an argument
read_step : (w : Within) (d : ℕ) (place : Slice) (x : Lexeme) (xs : List Lexeme) (q : Within × ℕ) → step w d x.token ≡ some_step q → reading (Inside w d) place (x ∷ xs) ≡ reading (Inside q.0 q.1) (grown (Inside w d) place x) xs
unfolding reading
read_step w d place x xs q e = rw e refl

abbrev grown_if : Bool → Slice → Lexeme → Slice
grown_if true place x = record { start = x.start; end = x.end }
grown_if false place x = record { start = place.start; end = x.end }

grown_by : (s : Stage) (place : Slice) (x : Lexeme) (b : Bool) → opens s ≡ b → grown s place x ≡ grown_if b place x
grown_by s place x true e = rw e refl
grown_by s place x false e = rw e refl

-- the tokens within an argument grow its place
run_within : (group : List Lexeme) (w : Within) (d : ℕ) (place : Slice) (mid : List Lexeme) (p : Within × ℕ) → opens (Inside w d) ≡ false → run w d (kinds_of group) ≡ some_step p
    → reading (Inside w d) place (group ++ mid) ≡ reading (Inside p.0 p.1) (place_from place group) mid
unfolding run
run_within [] w d place mid p deep h = let e : (w, d) ≡ p = step_is (w, d) p h in rw (← e) refl
run_within (x ∷ group) w d place mid p deep h =
    let q = taken (step w d x.token) (kinds_of group) p h in
    let within : opens (Inside q.0.0 q.0.1) ≡ false = rw q.1 at (step_within w d x.token) in
    read_step w d place x (group ++ mid) q.0 q.1
    ∙ ap (λ (s : Slice). reading (Inside q.0.0 q.0.1) s (group ++ mid)) (grown_by (Inside w d) place x false deep)
    ∙ run_within group q.0.0 q.0.1 (grown_if false place x) mid p within q.2

-- the same from before an argument of the part, whose place begins with its first token
run_opening : (x : Lexeme) (group : List Lexeme) (w : Within) (place : Slice) (mid : List Lexeme) (p : Within × ℕ) → opens (Inside w 0) ≡ true → run w 0 (x.token ∷ kinds_of group) ≡ some_step p
    → reading (Inside w 0) place ((x ∷ group) ++ mid) ≡ reading (Inside p.0 p.1) (record { start = x.start; end = last_from x.end group }) mid
unfolding run
run_opening x group w place mid p open_here h =
    let q = taken (step w 0 x.token) (kinds_of group) p h in
    let within : opens (Inside q.0.0 q.0.1) ≡ false = rw q.1 at (step_within w 0 x.token) in
    read_step w 0 place x (group ++ mid) q.0 q.1
    ∙ ap (λ (s : Slice). reading (Inside q.0.0 q.0.1) s (group ++ mid)) (grown_by (Inside w 0) place x true open_here)
    ∙ run_within group q.0.0 q.0.1 (grown_if true place x) mid p within q.2

place_is : (p : Slice) (start end : ℕ) → p.start ≡ start → p.end ≡ end → record { start = start; end = end } ≡ p
place_is p start end a b = rw (← a, ← b) refl

run_first : (t : Token) (ts : List Token) → run First 0 (t ∷ ts) ≡ run Next 0 (t ∷ ts)
unfolding run
run_first t ts = refl

no_stop : (b : Bool) → some_step (Next, 0) ≡ some_step (behind_by b, 0) → ⊥
no_stop true h = let e : Next ≡ Named = ap (λ (p : Within × ℕ). p.0) (step_is (Next, 0) (Named, 0) h) in cc
no_stop false h = let e : Next ≡ Done = ap (λ (p : Within × ℕ). p.0) (step_is (Next, 0) (Done, 0) h) in cc

no_tokens : (b : Bool) → run Next 0 [] ≡ some_step (behind_by b, 0) → ⊥
unfolding run
no_tokens b h = no_stop b h

-- an argument of the part is read, and its place is known
arg_again : (group : List Lexeme) (p : Slice) (mid : List Lexeme) (a : IsArg group p) → ((place : Slice) → reading (Inside Next 0) place (group ++ mid) ≡ reading (Inside (behind_by (is_bare a.arg)) 0) p mid)
    × ((place : Slice) → reading (Inside First 0) place (group ++ mid) ≡ reading (Inside (behind_by (is_bare a.arg)) 0) p mid)
arg_again [] p mid a = absurd (no_tokens (is_bare a.arg) (ap (run Next 0) a.tokens ∙ whole_run a.arg))
arg_again (x ∷ group) p mid a =
    let r : run Next 0 (x.token ∷ kinds_of group) ≡ some_step (behind_by (is_bare a.arg), 0) = ap (run Next 0) a.tokens ∙ whole_run a.arg in
    let f : run First 0 (x.token ∷ kinds_of group) ≡ some_step (behind_by (is_bare a.arg), 0) = run_first x.token (kinds_of group) ∙ r in
    let e : record { start = x.start; end = last_from x.end group } ≡ p = place_is p x.start (last_from x.end group) (rw (first_of x group) at a.start) (rw (first_of x group) at a.end) in (
      λ place. run_opening x group Next place mid (behind_by (is_bare a.arg), 0) refl r ∙ ap (λ (s : Slice). reading (Inside (behind_by (is_bare a.arg)) 0) s mid) e,
      λ place. run_opening x group First place mid (behind_by (is_bare a.arg), 0) refl f ∙ ap (λ (s : Slice). reading (Inside (behind_by (is_bare a.arg)) 0) s mid) e,
    )

-- ---- the arguments of a part

-- the tokens behind the part are these calls
abbrev Behind : List (Call Slice) → List Lexeme → Type 0
Behind cs rest = (place : Slice) → reading Ended place rest ≡ Some ([], cs)

close_turn : (b : Bool) (place : Slice) (x : Lexeme) (xs : List Lexeme) → x.token ≡ tokens.Sign Close → reading (Inside (behind_by b) 0) place (x ∷ xs) ≡ option_map (add_place place) (reading Ended (grown (Inside (behind_by b) 0) place x) xs)
unfolding reading
close_turn true place x xs e = rw e refl
close_turn false place x xs e = rw e refl

comma_turn : (b : Bool) (place : Slice) (x : Lexeme) (xs : List Lexeme) → x.token ≡ tokens.Sign Comma → reading (Inside (behind_by b) 0) place (x ∷ xs) ≡ option_map (add_place place) (reading (Inside Next 0) (grown (Inside (behind_by b) 0) place x) xs)
unfolding reading
comma_turn true place x xs e = rw e refl
comma_turn false place x xs e = rw e refl

more_again : (ps : List Slice) (b : Bool) (place : Slice) (xs rest : List Lexeme) (cs : List (Call Slice)) → MoreArgs ps xs rest → Behind cs rest → reading (Inside (behind_by b) 0) place xs ≡ Some (place ∷ ps, cs)
more_again [] b place xs rest cs (close, is, e) behind =
    ap (reading (Inside (behind_by b) 0) place) is ∙ close_turn b place close rest e ∙ ap (option_map (add_place place)) (behind (grown (Inside (behind_by b) 0) place close))
more_again (p ∷ ps) b place xs rest cs (comma, group, mid, is, e, arg, more) behind =
    ap (reading (Inside (behind_by b) 0) place) is ∙ comma_turn b place comma (group ++ mid) e
    ∙ ap (option_map (add_place place)) ((arg_again group p mid arg).0 (grown (Inside (behind_by b) 0) place comma) ∙ more_again ps (is_bare arg.arg) p mid rest cs more behind)

empty_turn : (place : Slice) (x : Lexeme) (xs : List Lexeme) → x.token ≡ tokens.Sign Close → reading (Inside First 0) place (x ∷ xs) ≡ reading Ended (grown (Inside First 0) place x) xs
unfolding reading
empty_turn place x xs e = rw e refl

args_again : (ps : List Slice) (place : Slice) (xs rest : List Lexeme) (cs : List (Call Slice)) → ArgsAre ps xs rest → Behind cs rest → reading (Inside First 0) place xs ≡ Some (ps, cs)
args_again [] place xs rest cs (close, is, e) behind = ap (reading (Inside First 0) place) is ∙ empty_turn place close rest e ∙ behind (grown (Inside First 0) place close)
args_again (p ∷ ps) place xs rest cs (group, mid, is, arg, more) behind =
    ap (reading (Inside First 0) place) is ∙ (arg_again group p mid arg).1 place ∙ more_again ps (is_bare arg.arg) p mid rest cs more behind

-- ---- the calls

open_turn : (place : Slice) (x : Lexeme) (xs : List Lexeme) → x.token ≡ tokens.Sign Open → reading Called place (x ∷ xs) ≡ reading (Inside First 0) (grown Called place x) xs
unfolding reading
open_turn place x xs e = rw e refl

dot_turns : (place : Slice) (x : Lexeme) (xs : List Lexeme) → x.token ≡ tokens.Sign Dot → (reading Called place (x ∷ xs) ≡ reading Dotted (grown Ended place x) xs) × (reading Ended place (x ∷ xs) ≡ reading Dotted (grown Ended place x) xs)
unfolding reading
dot_turns place x xs e = (rw e refl, rw e refl)

word_turns : (place : Slice) (x : Lexeme) (w : List ℕ) (xs : List Lexeme) → x.token ≡ tokens.Word w → reading Dotted place (x ∷ xs) ≡ option_map (add_call w) (reading Called (grown Dotted place x) xs)
unfolding reading
word_turns place x w xs e = rw e refl

no_more : (place : Slice) → (reading Called place [] ≡ Some ([], [])) × (reading Ended place [] ≡ Some ([], []))
unfolding reading
no_more place = (refl, refl)

-- what stands behind a call is read in the same way behind its word and behind its bracket
called_ended : (cs : List (Call Slice)) (xs : List Lexeme) (place : Slice) → CallsAre cs xs → reading Called place xs ≡ reading Ended place xs
called_ended [] xs place is = rw is ((no_more place).0 ∙ sym (no_more place).1)
called_ended (c ∷ cs) xs place (rest, call, more) = rw call.is (let t = dot_turns place call.dot (call.word ∷ call.behind) call.dot_is in t.0 ∙ sym t.1)

brackets_again : (ps : List Slice) (place : Slice) (xs rest : List Lexeme) (cs : List (Call Slice)) → Brackets ps xs rest → CallsAre cs rest → Behind cs rest → reading Called place xs ≡ Some (ps, cs)
brackets_again ps place xs rest cs b more behind = elim b [
  | inl h ↦ rw (h.0, h.1) (called_ended cs rest place more ∙ behind place)
  | inr h ↦ ap (reading Called place) h.2 ∙ open_turn place h.0 h.1 h.3 ∙ args_again ps (grown Called place h.0) h.1 rest cs h.4 behind
]

pub calls_again : (cs : List (Call Slice)) (xs : List Lexeme) (place : Slice) → CallsAre cs xs → reading Ended place xs ≡ Some ([], cs)
calls_again [] xs place is = rw is (no_more place).1
calls_again (c ∷ cs) xs place (rest, call, more) =
    ap (reading Ended place) call.is
    ∙ (dot_turns place call.dot (call.word ∷ call.behind) call.dot_is).1
    ∙ word_turns (grown Ended place call.dot) call.word c.word call.behind call.word_is
    ∙ ap (option_map (add_call c.word)) (brackets_again c.args (grown Dotted (grown Ended place call.dot) call.word) call.behind rest cs call.brackets more (λ p. calls_again cs rest p more))
