-- An argument as a tree, and the tokens that step through it.
use Rattle.std.proofs.Common.{◌≡◌, ◌≢◌, ◌⊎◌, inl, inr, ℕ, ℤ, zero, suc, Bool, true, false, List, [], ◌∷◌, ◌++◌, Option, Some, None, refl, sym, ap, ◌∙◌, append_assoc}
use Rattle.std.proofs.lemmas.List.{append-nil}
use Rattle.elem.specs.declared.elements.Elem.{Elem}
use Rattle.elem.specs.declared.elements.Elem.TheVariants.{Int, Text}
use Rattle.elem.specs.declared.cuts.Cut.{Cut}
use Rattle.elem.specs.declared.cuts.Cut.TheVariants.{Start, Below, Above, End}
use Rattle.elem.specs.declared.spans.Span.{Span}
use Rattle.elem.specs.declared.tokens.Token.{Token}
use Rattle.elem.specs.declared.tokens.Token.TheVariants as tokens
use Rattle.elem.specs.declared.tokens.Sign.TheVariants.{Lowest, Highest, Dot, Comma, Open, Close, OpenSquare, CloseSquare}
use Rattle.elem.specs.declared.tokens.Sign.TheVariants as signs
use Rattle.elem.specs.SpanTexts.{element_token, low_tokens, high_tokens, span_tokens, HasEnds}
use Rattle.script_text.specs.declared.stages.Within.{Within}
use Rattle.script_text.specs.declared.stages.Within.TheVariants.{First, Next, Named, Done, LowAny, LowElement, Dots, High, CloseAny, CloseRound}
use Rattle.script_text.specs.Grammar.{Arg, Args, Number, Bare, Apply, Range, Nil, Cons, arg_tokens, args_tokens, more_tokens}
use Rattle.script_text.specs.Stages.{step, behind, begins, first_step, named_step, same_depth, low_step, high_step, end_step, dots_step, close_any, close_round}
use Rattle.script_text.specs.Calls.{and_then}

-- ---- tokens that complete an argument

-- behind an argument with d brackets open: what closes them all, and nothing behind it
abbrev pub After : ℕ → List Token → Type 0
After zero ts = ts ≡ []
After (suc d) ts = (more : Args) × (mid : List Token) × (ts ≡ more_tokens more ++ (tokens.Sign Close ∷ mid)) × After d mid

-- before an argument with d brackets open
abbrev pub Before : ℕ → List Token → Type 0
Before d ts = (a : Arg) × (mid : List Token) × (ts ≡ arg_tokens a ++ mid) × After d mid

-- behind an opening bracket, with d more open
abbrev Opened : ℕ → List Token → Type 0
Opened d ts = (args : Args) × (mid : List Token) × (ts ≡ args_tokens args ++ (tokens.Sign Close ∷ mid)) × After d mid

abbrev Applied : ℕ → List Token → Type 0
Applied d ts = (args : Args) × (mid : List Token) × (ts ≡ tokens.Sign Open ∷ (args_tokens args ++ (tokens.Sign Close ∷ mid))) × After d mid

-- the range that begins with the bracket
abbrev InRange : Token → ℕ → List Token → Type 0
InRange t d ts = (s : Span) × (ends : HasEnds s) × (mid : List Token) × (t ∷ ts ≡ span_tokens s ++ mid) × After d mid

abbrev BeforeHigh : ℕ → List Token → Type 0
BeforeHigh d ts = (hi : Cut) × (ne : hi ≢ Start) × (mid : List Token) × (ts ≡ high_tokens hi ++ mid) × After d mid

abbrev BeforeDots : ℕ → List Token → Type 0
BeforeDots d ts = (hi : Cut) × (ne : hi ≢ Start) × (mid : List Token) × (ts ≡ tokens.Sign signs.Dots ∷ (high_tokens hi ++ mid)) × After d mid

abbrev ClosesAny : ℕ → List Token → Type 0
ClosesAny d ts = (mid : List Token) × ((ts ≡ tokens.Sign Close ∷ mid) ⊎ (ts ≡ tokens.Sign CloseSquare ∷ mid)) × After d mid

abbrev ClosesRound : ℕ → List Token → Type 0
ClosesRound d ts = (mid : List Token) × (ts ≡ tokens.Sign Close ∷ mid) × After d mid

-- the tokens complete the argument that is read
abbrev pub Completes : Within → ℕ → List Token → Type 0
Completes First zero ts = Before zero ts
Completes First (suc d) ts = Opened d ts
Completes Next d ts = Before d ts
Completes Named d ts = After d ts ⊎ Applied d ts
Completes Done d ts = After d ts
Completes LowAny d ts = InRange (tokens.Sign Open) d ts
Completes LowElement d ts = InRange (tokens.Sign OpenSquare) d ts
Completes Dots d ts = BeforeDots d ts
Completes High d ts = BeforeHigh d ts
Completes CloseAny d ts = ClosesAny d ts
Completes CloseRound d ts = ClosesRound d ts

abbrev pub Then : Option (Within × ℕ) → List Token → Type 0
Then None ts = ⊥
Then (Some p) ts = Completes p.0 p.1 ts

applied_bare : (w : List ℕ) (d : ℕ) (ts : List Token) → After d ts ⊎ Applied d ts → Before d (tokens.Word w ∷ ts)
applied_bare w d ts h = elim h [
  | inl after ↦ (Bare w, ts, refl, after)
  | inr x ↦ (Apply w x.0, x.1, ap (λ (r : List Token). tokens.Word w ∷ r) (x.2 ∙ ap (λ (r : List Token). tokens.Sign Open ∷ r) (sym (append_assoc (args_tokens x.0) (tokens.Sign Close ∷ []) x.1))), x.3)
]

next_back : (d : ℕ) (t : Token) (ts : List Token) → Then (same_depth d (begins t)) ts → Before d (t ∷ ts)
next_back d (tokens.Number n) ts h = (Number n, ts, refl, h)
next_back d (tokens.Word w) ts h = applied_bare w d ts h
next_back d (tokens.Sign Open) ts h = (Range h.0 h.1, h.2, h.3, h.4)
next_back d (tokens.Sign OpenSquare) ts h = (Range h.0 h.1, h.2, h.3, h.4)
next_back d t ts h = absurd h

-- an argument and what closes the brackets behind it
with_more : (d : ℕ) (ts : List Token) (b : Before (suc d) ts) → Opened d ts
with_more d ts b = (Cons b.0 b.3.0, b.3.1, b.2 ∙ ap (λ (r : List Token). arg_tokens b.0 ++ r) b.3.2 ∙ sym (append_assoc (arg_tokens b.0) (more_tokens b.3.0) (tokens.Sign Close ∷ b.3.1)), b.3.3)

behind_back : (d : ℕ) (t : Token) (ts : List Token) → Then (behind d t) ts → After d (t ∷ ts)
behind_back (suc d) (tokens.Sign Comma) ts h = (Cons h.0 h.3.0, h.3.1, ap (λ (r : List Token). tokens.Sign Comma ∷ r) (h.2 ∙ ap (λ (r : List Token). arg_tokens h.0 ++ r) h.3.2 ∙ sym (append_assoc (arg_tokens h.0) (more_tokens h.3.0) (tokens.Sign Close ∷ h.3.1))), h.3.3)
behind_back (suc d) (tokens.Sign Close) ts h = (Nil, ts, refl, h)
behind_back d t ts h = absurd h

first_back : (d : ℕ) (t : Token) (ts : List Token) → Then (first_step d t) ts → Completes First d (t ∷ ts)
first_back zero t ts h = next_back zero t ts h
first_back (suc d) (tokens.Sign Close) ts h = (Nil, ts, refl, h)
first_back (suc d) t ts h = with_more d (t ∷ ts) (next_back (suc d) t ts h)

named_back : (d : ℕ) (t : Token) (ts : List Token) → Then (named_step d t) ts → Completes Named d (t ∷ ts)
named_back d (tokens.Sign Open) ts h = inr (h.0, h.1, ap (λ (r : List Token). tokens.Sign Open ∷ r) h.2, h.3)
named_back d t ts h = inl (behind_back d t ts h)

abbrev span : Cut → Cut → Span
span lo hi = record { lo = lo; hi = hi }

low_back : (d : ℕ) (t : Token) (ts : List Token) → Then (same_depth d (low_step t)) ts → InRange (tokens.Sign Open) d (t ∷ ts)
low_back d (tokens.Sign Lowest) ts h = (span Start h.0, (λ e. absurd cc, h.1), h.2, ap (λ (r : List Token). tokens.Sign Open ∷ tokens.Sign Lowest ∷ r) h.3, h.4)
low_back d (tokens.Number n) ts h = (span (Above (Int n)) h.0, (λ e. absurd cc, h.1), h.2, ap (λ (r : List Token). tokens.Sign Open ∷ tokens.Number n ∷ r) h.3, h.4)
low_back d (tokens.Word w) ts h = (span (Above (Text w)) h.0, (λ e. absurd cc, h.1), h.2, ap (λ (r : List Token). tokens.Sign Open ∷ tokens.Word w ∷ r) h.3, h.4)
low_back d t ts h = absurd h

low_element_back : (d : ℕ) (t : Token) (ts : List Token) → Then (same_depth d (end_step t Dots)) ts → InRange (tokens.Sign OpenSquare) d (t ∷ ts)
low_element_back d (tokens.Number n) ts h = (span (Below (Int n)) h.0, (λ e. absurd cc, h.1), h.2, ap (λ (r : List Token). tokens.Sign OpenSquare ∷ tokens.Number n ∷ r) h.3, h.4)
low_element_back d (tokens.Word w) ts h = (span (Below (Text w)) h.0, (λ e. absurd cc, h.1), h.2, ap (λ (r : List Token). tokens.Sign OpenSquare ∷ tokens.Word w ∷ r) h.3, h.4)
low_element_back d t ts h = absurd h

dots_back : (d : ℕ) (t : Token) (ts : List Token) → Then (same_depth d (dots_step t)) ts → BeforeDots d (t ∷ ts)
dots_back d (tokens.Sign signs.Dots) ts h = (h.0, h.1, h.2, ap (λ (r : List Token). tokens.Sign signs.Dots ∷ r) h.3, h.4)
dots_back d t ts h = absurd h

high_end : (d : ℕ) (e : Elem) (ts : List Token) → ClosesAny d ts → BeforeHigh d (element_token e ∷ ts)
high_end d e ts h = elim h.1 [
  | inl k ↦ (Below e, (λ e. absurd cc), h.0, ap (λ (r : List Token). element_token e ∷ r) k, h.2)
  | inr k ↦ (Above e, (λ e. absurd cc), h.0, ap (λ (r : List Token). element_token e ∷ r) k, h.2)
]

high_back : (d : ℕ) (t : Token) (ts : List Token) → Then (same_depth d (high_step t)) ts → BeforeHigh d (t ∷ ts)
high_back d (tokens.Sign Highest) ts h = (End, (λ e. absurd cc), h.0, ap (λ (r : List Token). tokens.Sign Highest ∷ r) h.1, h.2)
high_back d (tokens.Number n) ts h = high_end d (Int n) ts h
high_back d (tokens.Word w) ts h = high_end d (Text w) ts h
high_back d t ts h = absurd h

close_any_back : (d : ℕ) (t : Token) (ts : List Token) → Then (same_depth d (close_any t)) ts → ClosesAny d (t ∷ ts)
close_any_back d (tokens.Sign Close) ts h = (ts, inl refl, h)
close_any_back d (tokens.Sign CloseSquare) ts h = (ts, inr refl, h)
close_any_back d t ts h = absurd h

close_round_back : (d : ℕ) (t : Token) (ts : List Token) → Then (same_depth d (close_round t)) ts → ClosesRound d (t ∷ ts)
close_round_back d (tokens.Sign Close) ts h = (ts, refl, h)
close_round_back d t ts h = absurd h

-- what completes an argument behind a token completes it before the token
pub completes_back : (w : Within) (d : ℕ) (t : Token) (ts : List Token) → Then (step w d t) ts → Completes w d (t ∷ ts)
completes_back First d t ts h = first_back d t ts h
completes_back Next d t ts h = next_back d t ts h
completes_back Named d t ts h = named_back d t ts h
completes_back Done d t ts h = behind_back d t ts h
completes_back LowAny d t ts h = low_back d t ts h
completes_back LowElement d t ts h = low_element_back d t ts h
completes_back Dots d t ts h = dots_back d t ts h
completes_back High d t ts h = high_back d t ts h
completes_back CloseAny d t ts h = close_any_back d t ts h
completes_back CloseRound d t ts h = close_round_back d t ts h

-- ---- the tokens of an argument are stepped through

unfoldable pub run : Within → ℕ → List Token → Option (Within × ℕ)
run w d [] = Some (w, d)
run w d (t ∷ ts) = and_then (step w d t) (λ p. run p.0 p.1 ts)

-- where a reader stands behind an argument: a lone word may still get brackets
abbrev pub behind_by : Bool → Within
behind_by true = Named
behind_by false = Done

abbrev pub is_bare : Arg → Bool
is_bare (Bare w) = true
is_bare (Number n) = false
is_bare (Apply w args) = false
is_bare (Range s ends) = false

low_run : (d : ℕ) (lo : Cut) (ts : List Token) → lo ≢ End → run Next d (low_tokens lo ++ ts) ≡ run Dots d ts
unfolding run
low_run d Start ts ne = refl
low_run d (Below (Int n)) ts ne = refl
low_run d (Below (Text w)) ts ne = refl
low_run d (Above (Int n)) ts ne = refl
low_run d (Above (Text w)) ts ne = refl
low_run d End ts ne = absurd (ne refl)

high_run : (d : ℕ) (hi : Cut) (ts : List Token) → hi ≢ Start → run High d (high_tokens hi ++ ts) ≡ run Done d ts
unfolding run
high_run d End ts ne = refl
high_run d (Below (Int n)) ts ne = refl
high_run d (Below (Text w)) ts ne = refl
high_run d (Above (Int n)) ts ne = refl
high_run d (Above (Text w)) ts ne = refl
high_run d Start ts ne = absurd (ne refl)

range_run : (d : ℕ) (s : Span) (ends : HasEnds s) (ts : List Token) → run Next d (span_tokens s ++ ts) ≡ run Done d ts
unfolding run
range_run d s ends ts =
    ap (run Next d) (append_assoc (low_tokens s.lo) (tokens.Sign signs.Dots ∷ high_tokens s.hi) ts)
    ∙ low_run d s.lo (tokens.Sign signs.Dots ∷ (high_tokens s.hi ++ ts)) ends.0
    ∙ high_run d s.hi ts ends.1

-- behind an opening bracket an argument is read as behind a comma
range_first : (d : ℕ) (lo : Cut) (ts : List Token) → lo ≢ End → run First (suc d) (low_tokens lo ++ ts) ≡ run Next (suc d) (low_tokens lo ++ ts)
unfolding run
range_first d Start ts ne = refl
range_first d (Below e) ts ne = refl
range_first d (Above e) ts ne = refl
range_first d End ts ne = absurd (ne refl)

arg_first : (d : ℕ) (a : Arg) (ts : List Token) → run First (suc d) (arg_tokens a ++ ts) ≡ run Next (suc d) (arg_tokens a ++ ts)
unfolding run
arg_first d (Number n) ts = refl
arg_first d (Bare w) ts = refl
arg_first d (Apply w args) ts = refl
arg_first d (Range s ends) ts = ap (run First (suc d)) (append_assoc (low_tokens s.lo) (tokens.Sign signs.Dots ∷ high_tokens s.hi) ts) ∙ range_first d s.lo (tokens.Sign signs.Dots ∷ (high_tokens s.hi ++ ts)) ends.0 ∙ ap (run Next (suc d)) (sym (append_assoc (low_tokens s.lo) (tokens.Sign signs.Dots ∷ high_tokens s.hi) ts))

behind_close : (b : Bool) (d : ℕ) (ts : List Token) → run (behind_by b) (suc d) (tokens.Sign Close ∷ ts) ≡ run Done d ts
unfolding run
behind_close true d ts = refl
behind_close false d ts = refl

behind_comma : (b : Bool) (d : ℕ) (ts : List Token) → run (behind_by b) (suc d) (tokens.Sign Comma ∷ ts) ≡ run Next (suc d) ts
unfolding run
behind_comma true d ts = refl
behind_comma false d ts = refl

open_word : (w : List ℕ) (d : ℕ) (ts : List Token) → run Next d (tokens.Word w ∷ tokens.Sign Open ∷ ts) ≡ run First (suc d) ts
unfolding run
open_word w d ts = refl

first_close : (d : ℕ) (ts : List Token) → run First (suc d) (tokens.Sign Close ∷ ts) ≡ run Done d ts
unfolding run
first_close d ts = refl

number_run : (n : ℤ) (d : ℕ) (ts : List Token) → run Next d (tokens.Number n ∷ ts) ≡ run Done d ts
unfolding run
number_run n d ts = refl

word_run : (w : List ℕ) (d : ℕ) (ts : List Token) → run Next d (tokens.Word w ∷ ts) ≡ run Named d ts
unfolding run
word_run w d ts = refl

mutual
  pub arg_run : (a : Arg) (d : ℕ) (ts : List Token) → run Next d (arg_tokens a ++ ts) ≡ run (behind_by (is_bare a)) d ts
  arg_run (Number n) d ts = number_run n d ts
  arg_run (Bare w) d ts = word_run w d ts
  arg_run (Apply w args) d ts =
      open_word w d ((args_tokens args ++ (tokens.Sign Close ∷ [])) ++ ts)
      ∙ ap (run First (suc d)) (append_assoc (args_tokens args) (tokens.Sign Close ∷ []) ts)
      ∙ args_run args d ts
  arg_run (Range s ends) d ts = range_run d s ends ts

  args_run : (args : Args) (d : ℕ) (ts : List Token) → run First (suc d) (args_tokens args ++ (tokens.Sign Close ∷ ts)) ≡ run Done d ts
  args_run Nil d ts = first_close d ts
  args_run (Cons a more) d ts =
      ap (run First (suc d)) (append_assoc (arg_tokens a) (more_tokens more) (tokens.Sign Close ∷ ts))
      ∙ arg_first d a (more_tokens more ++ (tokens.Sign Close ∷ ts))
      ∙ arg_run a (suc d) (more_tokens more ++ (tokens.Sign Close ∷ ts))
      ∙ more_run more (is_bare a) d ts

  more_run : (more : Args) (b : Bool) (d : ℕ) (ts : List Token) → run (behind_by b) (suc d) (more_tokens more ++ (tokens.Sign Close ∷ ts)) ≡ run Done d ts
  more_run Nil b d ts = behind_close b d ts
  more_run (Cons a more) b d ts =
      behind_comma b d ((arg_tokens a ++ more_tokens more) ++ (tokens.Sign Close ∷ ts))
      ∙ ap (run Next (suc d)) (append_assoc (arg_tokens a) (more_tokens more) (tokens.Sign Close ∷ ts))
      ∙ arg_run a (suc d) (more_tokens more ++ (tokens.Sign Close ∷ ts))
      ∙ more_run more (is_bare a) d ts

pub whole_run : (a : Arg) → run Next 0 (arg_tokens a) ≡ Some (behind_by (is_bare a), 0)
unfolding run
whole_run a = ap (run Next 0) (sym (append-nil (arg_tokens a))) ∙ arg_run a 0 []
