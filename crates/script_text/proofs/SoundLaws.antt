-- What is read behind a name is in the grammar.
use Rattle.std.proofs.Common.{◌≡◌, inl, inr, ℕ, zero, suc, cond, List, [], ◌∷◌, ◌++◌, Option, Some, None, refl, sym, ap, ◌∙◌}
use Rattle.std.specs.Option.{option_map}
use Rattle.elem.specs.declared.tokens.Token.{Token}
use Rattle.elem.specs.declared.tokens.Token.TheVariants as tokens
use Rattle.elem.specs.declared.tokens.Sign.TheVariants.{Lowest, Highest, Dot, Comma, Open, Close, OpenSquare, CloseSquare}
use Rattle.elem.specs.declared.tokens.Sign.TheVariants as signs
use Rattle.elem.specs.declared.lexing.Lexeme.{Lexeme}
use Rattle.elem.specs.Lexing.{kinds_of}
use Rattle.elem.specs.SpanTexts.{extent, last_end}
use Rattle.script_text.specs.declared.lines.Slice.{Slice}
use Rattle.script_text.specs.declared.stages.Within.{Within}
use Rattle.script_text.specs.declared.stages.Within.TheVariants.{First, Next, Named, Done, LowAny, LowElement, Dots, High, CloseAny, CloseRound}
use Rattle.script_text.specs.declared.stages.Stage.{Stage}
use Rattle.script_text.specs.declared.stages.Stage.TheVariants.{Ended, Dotted, Called, Inside}
use Rattle.script_text.specs.declared.stages.Turn.{Turn}
use Rattle.script_text.specs.declared.stages.Turn.TheVariants as turns
use Rattle.script_text.specs.Grammar.{arg_tokens}
use Rattle.script_text.specs.Trees.{Call}
use Rattle.script_text.specs.Stages.{Rest, reading, turned, turn_of, dot_turn, word_turn, called_turn, go_inside, leave, ends_argument, ends_none, step, behind, begins, first_step, named_step, same_depth, low_step, high_step, end_step, dots_step, close_any, close_round, grown, may_end, add_call, add_place}
use Rattle.script_text.specs.Calls.{MoreArgs, SomeArgs, ArgsAre, Brackets, CallsAre}
use Rattle.script_text.proofs.ArgLaws.{Completes, Then, Before, completes_back}
use Rattle.std.proofs.lemmas.List.{append-nil}

abbrev pub last_from : ℕ → List Lexeme → ℕ
last_from n [] = n
last_from n (x ∷ xs) = last_from x.end xs

abbrev pub place_from : Slice → List Lexeme → Slice
place_from place group = record { start = place.start; end = last_from place.end group }

-- an argument of the part is read, and these tokens complete it, with more behind it
abbrev Progress : Within → ℕ → Slice → List Lexeme → List Slice → List Lexeme → Type 0
Progress w d place xs places rest =
    (group : List Lexeme) × (mid : List Lexeme) × (ps : List Slice) × (xs ≡ group ++ mid) × Completes w d (kinds_of group) × (places ≡ place_from place group ∷ ps) × MoreArgs ps mid rest

abbrev OneMore : List Slice → List Lexeme → List Lexeme → Type 0
OneMore [] xs rest = ⊥
OneMore (p ∷ ps) xs rest = SomeArgs p ps xs rest

-- the tokens are these arguments of the part, read from within them
abbrev InsideReads : Within → ℕ → Slice → List Lexeme → List Slice → List Lexeme → Type 0
InsideReads First zero place xs places rest = ArgsAre places xs rest
InsideReads Next zero place xs places rest = OneMore places xs rest
InsideReads w d place xs places rest = Progress w d place xs places rest

abbrev DottedReads : List Lexeme → Rest → Type 0
DottedReads xs r = (r.0 ≡ []) × (c : Call Slice) × (cs : List (Call Slice)) × (word : Lexeme) × (behind rest : List Lexeme) × (r.1 ≡ c ∷ cs) × (xs ≡ word ∷ behind) × (word.token ≡ tokens.Word c.word) × Brackets c.args behind rest × CallsAre cs rest

abbrev Reads : Stage → Slice → List Lexeme → Rest → Type 0
Reads Ended place xs r = (r.0 ≡ []) × CallsAre r.1 xs
Reads Dotted place xs r = DottedReads xs r
Reads Called place xs r = (rest : List Lexeme) × Brackets r.0 xs rest × CallsAre r.1 rest
Reads (Inside w d) place xs r = (rest : List Lexeme) × InsideReads w d place xs r.0 rest × CallsAre r.1 rest

-- ---- one token

-- what a token does, and what is read behind it
abbrev Turns : Option Turn → Slice → Slice → List Lexeme → Rest → Type 0
Turns None place next xs r = ⊥
Turns (Some (turns.To s)) place next xs r = Reads s next xs r
Turns (Some (turns.Part w)) place next xs r = (q : Rest) × (r ≡ add_call w q) × Reads Called next xs q
Turns (Some (turns.Argument s)) place next xs r = (q : Rest) × (r ≡ add_place place q) × Reads s next xs q

dot_back : (t : Token) (x : Lexeme) (place next : Slice) (xs : List Lexeme) (r : Rest) → x.token ≡ t → Turns (dot_turn t) place next xs r → (r.0 ≡ []) × CallsAre r.1 (x ∷ xs)
dot_back (tokens.Sign Dot) x place next xs r e (none, c, cs, word, behind, rest, calls, is, word_is, brackets, more) =
    (none, rw calls (rest, record { dot = x; word = word; behind = behind; is = ap (λ (l : List Lexeme). x ∷ l) is; dot_is = e; word_is = word_is; brackets = brackets }, more))
dot_back t x place next xs r e h = absurd h

word_back : (t : Token) (x : Lexeme) (place next : Slice) (xs : List Lexeme) (r : Rest) → x.token ≡ t → Turns (word_turn t) place next xs r → DottedReads (x ∷ xs) r
word_back (tokens.Word w) x place next xs r e (q, is, (rest, brackets, more)) =
    (ap (λ (r : Rest). r.0) is, record { word = w; args = q.0 }, q.1, x, xs, rest, ap (λ (r : Rest). r.1) is, refl, e, brackets, more)
word_back t x place next xs r e h = absurd h

called_back : (t : Token) (x : Lexeme) (place next : Slice) (xs : List Lexeme) (r : Rest) → x.token ≡ t → Turns (called_turn t) place next xs r → (rest : List Lexeme) × Brackets r.0 (x ∷ xs) rest × CallsAre r.1 rest
called_back (tokens.Sign Open) x place next xs r e (rest, args, more) = (rest, inr (x, xs, refl, e, args), more)
called_back t x place next xs r e h = let k = dot_back t x place next xs r e h in (x ∷ xs, inl (k.0, refl), k.1)

-- ---- within the arguments

-- a step leads into an argument, not before one of the part's
abbrev IsDeep : Option (Within × ℕ) → Type 0
IsDeep None = Unit {0}
IsDeep (Some p) = (place : Slice) (xs : List Lexeme) (places : List Slice) (rest : List Lexeme) → InsideReads p.0 p.1 place xs places rest → Progress p.0 p.1 place xs places rest

begins_deep : (d : ℕ) (t : Token) → IsDeep (same_depth d (begins t))
begins_deep d (tokens.Number n) = λ place xs places rest h. h
begins_deep d (tokens.Word w) = λ place xs places rest h. h
begins_deep d (tokens.Sign Open) = λ place xs places rest h. h
begins_deep d (tokens.Sign OpenSquare) = λ place xs places rest h. h
begins_deep d t = tt

behind_deep : (d : ℕ) (t : Token) → IsDeep (behind d t)
behind_deep (suc d) (tokens.Sign Comma) = λ place xs places rest h. h
behind_deep (suc d) (tokens.Sign Close) = λ place xs places rest h. h
behind_deep d t = tt

first_deep : (d : ℕ) (t : Token) → IsDeep (first_step d t)
first_deep zero t = begins_deep zero t
first_deep (suc d) (tokens.Sign Close) = λ place xs places rest h. h
first_deep (suc d) t = begins_deep (suc d) t

named_deep : (d : ℕ) (t : Token) → IsDeep (named_step d t)
named_deep d (tokens.Sign Open) = λ place xs places rest h. h
named_deep d t = behind_deep d t

end_deep : (d : ℕ) (t : Token) → IsDeep (same_depth d (end_step t Dots))
end_deep d (tokens.Number n) = λ place xs places rest h. h
end_deep d (tokens.Word w) = λ place xs places rest h. h
end_deep d t = tt

low_deep : (d : ℕ) (t : Token) → IsDeep (same_depth d (low_step t))
low_deep d (tokens.Sign Lowest) = λ place xs places rest h. h
low_deep d (tokens.Number n) = λ place xs places rest h. h
low_deep d (tokens.Word w) = λ place xs places rest h. h
low_deep d t = tt

dots_deep : (d : ℕ) (t : Token) → IsDeep (same_depth d (dots_step t))
dots_deep d (tokens.Sign signs.Dots) = λ place xs places rest h. h
dots_deep d t = tt

high_deep : (d : ℕ) (t : Token) → IsDeep (same_depth d (high_step t))
high_deep d (tokens.Sign Highest) = λ place xs places rest h. h
high_deep d (tokens.Number n) = λ place xs places rest h. h
high_deep d (tokens.Word w) = λ place xs places rest h. h
high_deep d t = tt

any_deep : (d : ℕ) (t : Token) → IsDeep (same_depth d (close_any t))
any_deep d (tokens.Sign Close) = λ place xs places rest h. h
any_deep d (tokens.Sign CloseSquare) = λ place xs places rest h. h
any_deep d t = tt

round_deep : (d : ℕ) (t : Token) → IsDeep (same_depth d (close_round t))
round_deep d (tokens.Sign Close) = λ place xs places rest h. h
round_deep d t = tt

step_deep : (w : Within) (d : ℕ) (t : Token) → IsDeep (step w d t)
step_deep First d t = first_deep d t
step_deep Next d t = begins_deep d t
step_deep Named d t = named_deep d t
step_deep Done d t = behind_deep d t
step_deep LowAny d t = low_deep d t
step_deep LowElement d t = end_deep d t
step_deep Dots d t = dots_deep d t
step_deep High d t = high_deep d t
step_deep CloseAny d t = any_deep d t
step_deep CloseRound d t = round_deep d t

last_is : (x : Lexeme) (xs : List Lexeme) → last_end x xs ≡ last_from x.end xs
last_is x [] = refl
last_is x (y ∷ ys) = last_is y ys

pub first_of : (x : Lexeme) (group : List Lexeme) → extent (x ∷ group) ≡ (x.start, last_from x.end group)
unfolding extent
first_of x group = ap (λ (n : ℕ). (x.start, n)) (last_is x group)

-- an argument of the part begins with the token
opening : (x : Lexeme) (xs : List Lexeme) (p : Within × ℕ) (place : Slice) (places : List Slice) (rest : List Lexeme) → place.start ≡ x.start → place.end ≡ x.end → Progress p.0 p.1 place xs places rest
    → ((ts : List Token) → Completes p.0 p.1 ts → Before 0 (x.token ∷ ts)) → (q : Slice) × (ps : List Slice) × (places ≡ q ∷ ps) × SomeArgs q ps (x ∷ xs) rest
opening x xs p place places rest start end (group, mid, ps, is, completes, are, more) before =
    let b = before (kinds_of group) completes in
    let e : x.token ∷ kinds_of group ≡ arg_tokens b.0 = b.2 ∙ ap (λ (r : List Token). arg_tokens b.0 ++ r) b.3 ∙ append-nil (arg_tokens b.0) in
    (place_from place group, ps, are, (x ∷ group, mid, ap (λ (r : List Lexeme). x ∷ r) is, record { arg = b.0; tokens = e; start = rw (first_of x group, start) refl; end = rw (first_of x group, end) refl }, more))

one_more : (places : List Slice) (xs rest : List Lexeme) → (q : Slice) × (ps : List Slice) × (places ≡ q ∷ ps) × SomeArgs q ps xs rest → OneMore places xs rest
one_more places xs rest h = rw h.2 h.3

some_more : (places : List Slice) (xs rest : List Lexeme) → (q : Slice) × (ps : List Slice) × (places ≡ q ∷ ps) × SomeArgs q ps xs rest → ArgsAre places xs rest
some_more places xs rest h = rw h.2 h.3

-- an argument of the part goes on with the token
going : (w : Within) (d : ℕ) (x : Lexeme) (xs : List Lexeme) (p : Within × ℕ) (place next : Slice) (places : List Slice) (rest : List Lexeme) → next.start ≡ place.start → next.end ≡ x.end → Progress p.0 p.1 next xs places rest
    → ((ts : List Token) → Completes p.0 p.1 ts → Completes w d (x.token ∷ ts)) → Progress w d place (x ∷ xs) places rest
going w d x xs p place next places rest start end (group, mid, ps, is, completes, are, more) back =
    (x ∷ group, mid, ps, ap (λ (r : List Lexeme). x ∷ r) is, back (kinds_of group) completes, are ∙ ap (λ (q : Slice). q ∷ ps) (rw (start, end) refl), more)

-- a step within the arguments
step_back : (w : Within) (d : ℕ) (x : Lexeme) (xs : List Lexeme) (p : Within × ℕ) (place : Slice) (places : List Slice) (rest : List Lexeme) → Progress p.0 p.1 (grown (Inside w d) place x) xs places rest
    → ((ts : List Token) → Completes p.0 p.1 ts → Completes w d (x.token ∷ ts)) → InsideReads w d place (x ∷ xs) places rest
step_back First zero x xs p place places rest h back = some_more places (x ∷ xs) rest (opening x xs p (grown (Inside First 0) place x) places rest refl refl h back)
step_back Next zero x xs p place places rest h back = one_more places (x ∷ xs) rest (opening x xs p (grown (Inside Next 0) place x) places rest refl refl h back)
step_back First (suc d) x xs p place places rest h back = going First (suc d) x xs p place (grown (Inside First (suc d)) place x) places rest refl refl h back
step_back Next (suc d) x xs p place places rest h back = going Next (suc d) x xs p place (grown (Inside Next (suc d)) place x) places rest refl refl h back
step_back Named d x xs p place places rest h back = going Named d x xs p place (grown (Inside Named d) place x) places rest refl refl h back
step_back Done d x xs p place places rest h back = going Done d x xs p place (grown (Inside Done d) place x) places rest refl refl h back
step_back LowAny d x xs p place places rest h back = going LowAny d x xs p place (grown (Inside LowAny d) place x) places rest refl refl h back
step_back LowElement d x xs p place places rest h back = going LowElement d x xs p place (grown (Inside LowElement d) place x) places rest refl refl h back
step_back Dots d x xs p place places rest h back = going Dots d x xs p place (grown (Inside Dots d) place x) places rest refl refl h back
step_back High d x xs p place places rest h back = going High d x xs p place (grown (Inside High d) place x) places rest refl refl h back
step_back CloseAny d x xs p place places rest h back = going CloseAny d x xs p place (grown (Inside CloseAny d) place x) places rest refl refl h back
step_back CloseRound d x xs p place places rest h back = going CloseRound d x xs p place (grown (Inside CloseRound d) place x) places rest refl refl h back

-- the end of an argument, or of the arguments
abbrev IsInside : Within → ℕ → Slice → List Lexeme → Rest → Type 0
IsInside w d place xs r = (rest : List Lexeme) × InsideReads w d place xs r.0 rest × CallsAre r.1 rest

ended_place : (w : Within) (x : Lexeme) (place : Slice) (xs : List Lexeme) (r q : Rest) (rest : List Lexeme) → Completes w 0 [] → r ≡ add_place place q → MoreArgs q.0 (x ∷ xs) rest → Progress w 0 place (x ∷ xs) r.0 rest
ended_place w x place xs r q rest completes is more = ([], x ∷ xs, q.0, refl, completes, ap (λ (r : Rest). r.0) is, more)

another : (x : Lexeme) (xs : List Lexeme) (places : List Slice) (rest : List Lexeme) → x.token ≡ tokens.Sign Comma → OneMore places xs rest → MoreArgs places (x ∷ xs) rest
another x xs [] rest e h = absurd h
another x xs (p ∷ ps) rest e (group, behind, is, arg, more) = (x, group, behind, ap (λ (r : List Lexeme). x ∷ r) is, e, arg, more)

argument_back : (w : Within) (t : Token) (x : Lexeme) (place next : Slice) (xs : List Lexeme) (r : Rest) → x.token ≡ t → Completes w 0 [] → Turns (ends_argument t) place next xs r → (rest : List Lexeme) × Progress w 0 place (x ∷ xs) r.0 rest × CallsAre r.1 rest
argument_back w (tokens.Sign Comma) x place next xs r e completes (q, is, (rest, one, calls)) =
    (rest, ended_place w x place xs r q rest completes is (another x xs q.0 rest e one), rw (ap (λ (r : Rest). r.1) is) calls)
argument_back w (tokens.Sign Close) x place next xs r e completes (q, is, (none, calls)) =
    (xs, ended_place w x place xs r q xs completes is (rw none (x, refl, e)), rw (ap (λ (r : Rest). r.1) is) calls)
argument_back w t x place next xs r e completes h = absurd h

empty_back : (t : Token) (x : Lexeme) (place next : Slice) (xs : List Lexeme) (r : Rest) → x.token ≡ t → Turns (ends_none t) place next xs r → (rest : List Lexeme) × ArgsAre r.0 (x ∷ xs) rest × CallsAre r.1 rest
empty_back (tokens.Sign Close) x place next xs r e (none, calls) = (xs, rw none (x, refl, e), calls)
empty_back t x place next xs r e h = absurd h

leave_back : (w : Within) (d : ℕ) (t : Token) (x : Lexeme) (place next : Slice) (xs : List Lexeme) (r : Rest) → x.token ≡ t → Turns (leave w d t) place next xs r → IsInside w d place (x ∷ xs) r
leave_back First zero t x place next xs r e h = empty_back t x place next xs r e h
leave_back Named zero t x place next xs r e h = argument_back Named t x place next xs r e (inl refl) h
leave_back Done zero t x place next xs r e h = argument_back Done t x place next xs r e refl h
leave_back w d t x place next xs r e h = absurd h

inside_back : (w : Within) (d : ℕ) (x : Lexeme) (o : Option (Within × ℕ)) (place : Slice) (xs : List Lexeme) (r : Rest) → IsDeep o → ((ts : List Token) → Then o ts → Completes w d (x.token ∷ ts))
    → Turns (go_inside o (leave w d x.token)) place (grown (Inside w d) place x) xs r → IsInside w d place (x ∷ xs) r
inside_back w d x None place xs r deep back h = leave_back w d x.token x place (grown (Inside w d) place x) xs r refl h
inside_back w d x (Some p) place xs r deep back (rest, reads, calls) =
    (rest, step_back w d x xs p place r.0 rest (deep (grown (Inside w d) place x) xs r.0 rest reads) back, calls)

turn_back : (s : Stage) (x : Lexeme) (place : Slice) (xs : List Lexeme) (r : Rest) → Turns (turn_of s x.token) place (grown s place x) xs r → Reads s place (x ∷ xs) r
turn_back Ended x place xs r h = dot_back x.token x place (grown Ended place x) xs r refl h
turn_back Dotted x place xs r h = word_back x.token x place (grown Dotted place x) xs r refl h
turn_back Called x place xs r h = called_back x.token x place (grown Called place x) xs r refl h
turn_back (Inside w d) x place xs r h = inside_back w d x (step w d x.token) place xs r (step_deep w d x.token) (λ ts k. completes_back w d x.token ts k) h

-- ---- all tokens

abbrev some_rest : Rest → Option Rest
some_rest r = Some r

rest_is : (r q : Rest) → some_rest r ≡ some_rest q → r ≡ q
rest_is r q h = cc

mapped : (f : Rest → Rest) (o : Option Rest) (r : Rest) → option_map f o ≡ some_rest r → (q : Rest) × (o ≡ some_rest q) × (r ≡ f q)
mapped f None r h = absurd cc
mapped f (Some q) r h = (q, refl, sym (rest_is (f q) r h))

turned_back : (t : Option Turn) (place next : Slice) (xs : List Lexeme) (r : Rest) → ((s : Stage) (q : Rest) → reading s next xs ≡ some_rest q → Reads s next xs q) → turned t place (λ n. reading n next xs) ≡ some_rest r → Turns t place next xs r
turned_back None place next xs r all h = absurd cc
turned_back (Some (turns.To s)) place next xs r all h = all s r h
turned_back (Some (turns.Part w)) place next xs r all h = let m = mapped (add_call w) (reading Called next xs) r h in (m.0, m.2, all Called m.0 m.1)
turned_back (Some (turns.Argument s)) place next xs r all h = let m = mapped (add_place place) (reading s next xs) r h in (m.0, m.2, all s m.0 m.1)

end_back : (s : Stage) (place : Slice) (r : Rest) → cond (may_end s) (some_rest ([], [])) None ≡ some_rest r → Reads s place [] r
end_back Ended place r h = rw (← rest_is ([], []) r h) (refl, refl)
end_back Dotted place r h = absurd cc
end_back Called place r h = rw (← rest_is ([], []) r h) ([], inl (refl, refl), refl)
end_back (Inside w d) place r h = absurd cc

reading_sound : (xs : List Lexeme) (s : Stage) (place : Slice) (r : Rest) → reading s place xs ≡ some_rest r → Reads s place xs r
unfolding reading
reading_sound [] s place r h = end_back s place r h
reading_sound (x ∷ xs) s place r h = turn_back s x place xs r (turned_back (turn_of s x.token) place (grown s place x) xs r (λ n q e. reading_sound xs n (grown s place x) q e) h)

pub calls_sound : (xs : List Lexeme) (place : Slice) (r : Rest) → reading Ended place xs ≡ some_rest r → CallsAre r.1 xs
calls_sound xs place r h = (reading_sound xs Ended place r h).1
