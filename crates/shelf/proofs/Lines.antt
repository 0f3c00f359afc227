-- The replies to a script, as its bytes come one by one.
use Rattle.std.proofs.Common.{◌≡◌, ℕ, ◌+◌, ◌<◌, ◌≤◌, ◌==◌, Bool, true, false, List, [], ◌∷◌, ◌++◌, length, take, cond, min, refl, sym, ◌∙◌, ap, subst, arith, append_assoc, inl, inr, ◌⊎◌, zero, suc, get_or, drop}
use Rattle.std.specs.List.{onto_first}
use Rattle.std.proofs.lemmas.List.{append-nil, take_all, length-take}
use Rattle.std.proofs.lemmas.Bool.Decides.{nat_tests, leb_tells}
use borrow.Author.Tests.{lt-ltb}
use Rattle.machine.specs.State.{State, empty}
use Rattle.machine.specs.Languages.{known}
use Rattle.machine.specs.Lines.{step, step_of}
use Rattle.elem.specs.Lexing.{lexed}
use Rattle.script_text.specs.Lines.{form_of, is_comment, is_new, line_of, new_of, placed_line, tree_or_fault}
use Rattle.script_text.specs.Trees.{Blank, Long, in_pieces, map_tree}
use Rattle.machine.specs.Outcomes.{written}
use Rattle.shelf.specs.Transcript.{lines_of, replies, transcript, before_lines, whole_lines}
use Rattle.shelf.specs.Feed.{IsOneLine, kept, replies_with, replies_on, whole_replies_on}

one_more : (line : List ℕ) (b : ℕ) → IsOneLine line → b == 10 ≡ false → IsOneLine (line ++ b ∷ [])
one_more [] b h e = (e, tt)
one_more (c ∷ line) b h e = (h.0, one_more line b h.1 e)

read_long : (line : List ℕ) → 1024 < length line → line_of line ≡ Long
unfolding placed_line
read_long line h =
    ap (λ (b : Bool). map_tree (in_pieces line) (cond b Long (cond (is_comment line) Blank (cond (is_new line) (new_of line) (tree_or_fault form_of (lexed line)))))) (lt-ltb 1024 (length line) h)

-- a line is kept whole, or its front is already too long
kept_cases : (line : List ℕ) → (kept line ≡ line) ⊎ ((length (kept line) ≡ 1025) × (1025 ≤ length line))
kept_cases line = elim (leb_tells (length line) 1025) as (λ _. (kept line ≡ line) ⊎ ((length (kept line) ≡ 1025) × (1025 ≤ length line))) [
  | inl p ↦ inl (take_all 1025 line p.1)
  | inr q ↦ let above : 1025 < length line = q.1 in let cut : length (kept line) ≡ min 1025 (length line) = length-take 1025 line in inr (omega arith, omega arith)
]

-- what is cut off a line doesn't change how it reads
pub read_kept : (line : List ℕ) → line_of (kept line) ≡ line_of line
read_kept line = elim (kept_cases line) as (λ _. line_of (kept line) ≡ line_of line) [
  | inl same ↦ ap line_of same
  | inr q ↦ let now : length (kept line) ≡ 1025 = q.0 in let before : 1025 ≤ length line = q.1 in
      read_long (kept line) (omega arith) ∙ sym (read_long line (omega arith))
]

pub kept_short : (line : List ℕ) → length (kept line) ≤ 1025
kept_short line = let cut : length (kept line) ≡ min 1025 (length line) = length-take 1025 line in omega (arith, cut)

take-take : {X : Type 0} (n : ℕ) (xs ys : List X) → take n (take n xs ++ ys) ≡ take n (xs ++ ys)
take-take zero xs ys = refl
take-take (suc n) [] ys = refl
take-take (suc n) (x ∷ xs) ys = ap (λ zs. x ∷ zs) (take-take n xs ys)

-- what comes behind a line that was cut is cut as behind the whole line
pub kept_more : (line more : List ℕ) → kept (kept line ++ more) ≡ kept (line ++ more)
kept_more line more = take-take 1025 line more

lines_at : (line more : List ℕ) → IsOneLine line → lines_of (line ++ 10 ∷ more) ≡ line ∷ lines_of more
lines_at [] more h = refl
lines_at (b ∷ bs) more h =
    ap (λ (t : Bool). cond t ([] ∷ lines_of (bs ++ 10 ∷ more)) (onto_first b (lines_of (bs ++ 10 ∷ more)))) h.0 ∙ ap (onto_first b) (lines_at bs more h.1)

last_line : (b : ℕ) (bs : List ℕ) → IsOneLine (b ∷ bs) → lines_of (b ∷ bs) ≡ (b ∷ bs) ∷ []
last_line b [] h = ap (λ (t : Bool). cond t ([] ∷ []) ((b ∷ []) ∷ [])) h.0
last_line b (c ∷ cs) h =
    ap (λ (t : Bool). cond t ([] ∷ lines_of (c ∷ cs)) (onto_first b (lines_of (c ∷ cs)))) h.0 ∙ ap (onto_first b) (last_line c cs h.1)

reply_kept : (state : State) (line : List ℕ) → written (step known state (kept line)).reply ≡ written (step known state line).reply
reply_kept state line = ap (λ l. written (step_of known state l).reply) (read_kept line)

at_end : (state : State) (line : List ℕ) → IsOneLine line → replies state (lines_of line) ≡ replies_on state (kept line) []
unfolding replies replies_with
at_end state [] h = refl
at_end state (b ∷ bs) h = ap (replies state) (last_line b bs h) ∙ append-nil _ ∙ sym (reply_kept state (b ∷ bs))

pub on_from : (state : State) (line bs : List ℕ) → IsOneLine line → replies state (lines_of (line ++ bs)) ≡ replies_on state (kept line) bs
unfolding replies replies_with
on_from state line [] h = ap (λ l. replies state (lines_of l)) (append-nil line) ∙ at_end state line h
on_from state line (c ∷ cs) h = by (c == 10) refl (on_from (step known state line).after [] cs tt) (λ e. on_from state (line ++ c ∷ []) cs (one_more line c h e))
  where
    newline : c ≡ 10 → replies (step known state line).after (lines_of cs) ≡ replies_on (step known state line).after [] cs → replies state (lines_of (line ++ c ∷ cs)) ≡ replies_on state (kept line) (c ∷ cs)
    newline e rest = subst (λ (d : ℕ). replies state (lines_of (line ++ d ∷ cs)) ≡ replies_on state (kept line) (d ∷ cs)) (sym e)
        (ap (replies state) (lines_at line cs h) ∙ ap (λ ys. written (step known state line).reply ++ ys) rest
        ∙ sym (ap (λ l. written (step_of known state l).reply ++ replies_on (step_of known state l).after [] cs) (read_kept line)))

    by : (t : Bool) → c == 10 ≡ t → replies (step known state line).after (lines_of cs) ≡ replies_on (step known state line).after [] cs →
        (c == 10 ≡ false → replies state (lines_of ((line ++ c ∷ []) ++ cs)) ≡ replies_on state (kept (line ++ c ∷ [])) cs) →
        replies state (lines_of (line ++ c ∷ cs)) ≡ replies_on state (kept line) (c ∷ cs)
    by true e rest more = newline (grind (arith, nat_tests)) rest
    by false e rest more =
        sym (ap (λ l. replies state (lines_of l)) (append_assoc line (c ∷ []) cs)) ∙ more e ∙ ap (λ l. replies_on state l cs) (sym (kept_more line (c ∷ [])))
        ∙ sym (ap (λ (t : Bool). cond t (written (step known state (kept line)).reply ++ replies_on (step known state (kept line)).after [] cs) (replies_on state (kept (kept line ++ c ∷ [])) cs)) e)

pub transcript_is : (bytes : List ℕ) → transcript bytes ≡ replies_on empty [] bytes
transcript_is bytes = on_from empty [] bytes tt

-- ---- whole lines

-- a script without a newline has no whole line
no_line : (bs : List ℕ) → whole_lines bs ≡ [] → (state : State) (line : List ℕ) → whole_replies_on state line bs ≡ []
unfolding replies_with
no_line [] e state line = refl
no_line (b ∷ bs) e state line = by (λ none. no_line bs none state (kept (line ++ b ∷ []))) (whole_lines bs) refl e
  where
    at : (t : Bool) → b == 10 ≡ t → cond t (b ∷ []) [] ≡ [] → whole_replies_on state (kept (line ++ b ∷ [])) bs ≡ [] → whole_replies_on state line (b ∷ bs) ≡ []
    at true is f rest = cc
    at false is f rest = ap (λ (t : Bool). cond t (written (step known state line).reply ++ whole_replies_on (step known state line).after [] bs) (whole_replies_on state (kept (line ++ b ∷ [])) bs)) is ∙ rest

    by : (whole_lines bs ≡ [] → whole_replies_on state (kept (line ++ b ∷ [])) bs ≡ []) → (ws : List ℕ) → whole_lines bs ≡ ws → before_lines b ws ≡ [] → whole_replies_on state line (b ∷ bs) ≡ []
    by rest [] is f = at (b == 10) refl f (rest is)
    by rest (w ∷ ws) is f = cc

-- the replies to whole lines are those to what stands up to the last newline
some_lines : (bs : List ℕ) (w : ℕ) (ws : List ℕ) → whole_lines bs ≡ w ∷ ws → (state : State) (line : List ℕ) → whole_replies_on state line bs ≡ replies_on state line (w ∷ ws)
unfolding replies_with
some_lines [] w ws e state line = cc
some_lines (b ∷ bs) w ws e state line = by (some_lines bs) (whole_lines bs) refl e
  where
    more : (vs : List ℕ) → ((s : State) (l : List ℕ) → whole_replies_on s l bs ≡ replies_on s l vs) → whole_replies_on state line (b ∷ bs) ≡ replies_on state line (b ∷ vs)
    more vs rest = at (b == 10)
      where
        at : (t : Bool) → cond t (written (step known state line).reply ++ whole_replies_on (step known state line).after [] bs) (whole_replies_on state (kept (line ++ b ∷ [])) bs)
            ≡ cond t (written (step known state line).reply ++ replies_on (step known state line).after [] vs) (replies_on state (kept (line ++ b ∷ [])) vs)
        at true = ap (λ ys. written (step known state line).reply ++ ys) (rest (step known state line).after [])
        at false = rest state (kept (line ++ b ∷ []))

    ended : (t : Bool) → b == 10 ≡ t → cond t (b ∷ []) [] ≡ w ∷ ws → whole_lines bs ≡ [] → whole_replies_on state line (b ∷ bs) ≡ replies_on state line (w ∷ ws)
    ended true is f none = last is none ∙ ap (replies_on state line) f
      where
        last : b == 10 ≡ true → whole_lines bs ≡ [] → whole_replies_on state line (b ∷ bs) ≡ replies_on state line (b ∷ [])
        last newline nothing =
            ap (λ (t : Bool). cond t (written (step known state line).reply ++ whole_replies_on (step known state line).after [] bs) (whole_replies_on state (kept (line ++ b ∷ [])) bs)) newline
            ∙ ap (λ ys. written (step known state line).reply ++ ys) (no_line bs nothing (step known state line).after [])
            ∙ sym (ap (λ (t : Bool). cond t (written (step known state line).reply ++ []) (replies_on state (kept (line ++ b ∷ [])) [])) newline)
    ended false is f none = cc

    by : ((v : ℕ) (vs : List ℕ) → whole_lines bs ≡ v ∷ vs → (s : State) (l : List ℕ) → whole_replies_on s l bs ≡ replies_on s l (v ∷ vs)) → (vs : List ℕ) → whole_lines bs ≡ vs → before_lines b vs ≡ w ∷ ws
        → whole_replies_on state line (b ∷ bs) ≡ replies_on state line (w ∷ ws)
    by rest [] is f = ended (b == 10) refl f is
    by rest (v ∷ vs) is f = more (v ∷ vs) (rest v vs is) ∙ ap (replies_on state line) f

pub whole_transcript : (bytes : List ℕ) → whole_replies_on empty [] bytes ≡ transcript (whole_lines bytes)
unfolding replies
whole_transcript bytes = by (whole_lines bytes) refl
  where
    by : (ws : List ℕ) → whole_lines bytes ≡ ws → whole_replies_on empty [] bytes ≡ transcript ws
    by [] is = no_line bytes is empty []
    by (w ∷ ws) is = some_lines bytes w ws is empty [] ∙ sym (transcript_is (w ∷ ws))

-- ---- a newline that was found in a text

pub found_cut : (text : List ℕ) (at : ℕ) → at < length text → get_or text at 0 == 10 ≡ true → text ≡ (take at text ++ 10 ∷ []) ++ drop (at + 1) text
found_cut text at lt is = let one : suc at ≡ at + 1 = omega arith in cut text at lt is ∙ ap (λ n. (take at text ++ 10 ∷ []) ++ drop n text) one
  where
    cut : (bs : List ℕ) (k : ℕ) → k < length bs → get_or bs k 0 == 10 ≡ true → bs ≡ (take k bs ++ 10 ∷ []) ++ drop (suc k) bs
    cut [] k lt is = absurd (let no : ⊥ = omega (arith, lt) in no)
    cut (b ∷ bs) zero lt is = let ten : b ≡ 10 = grind (arith, nat_tests) in ap (λ c. c ∷ bs) ten
    cut (b ∷ bs) (suc k) lt is = ap (λ cs. b ∷ cs) (cut bs k (omega (arith, lt)) is)

pub front_one : (text : List ℕ) (at : ℕ) → ((k : ℕ) → 0 ≤ k → k < at → get_or text k 0 == 10 ≡ true → ⊥) → IsOneLine (take at text)
front_one text zero none = tt
front_one [] (suc at) none = tt
front_one (b ∷ bs) (suc at) none = (differs (b == 10) refl, front_one bs at (λ k low lt is. none (suc k) (omega arith) (omega (arith, lt)) is))
  where
    differs : (t : Bool) → b == 10 ≡ t → b == 10 ≡ false
    differs true e = absurd (none 0 (omega arith) (omega arith) e)
    differs false e = e

pub all_one : (text : List ℕ) → ((k : ℕ) → 0 ≤ k → k < length text → get_or text k 0 == 10 ≡ true → ⊥) → IsOneLine text
all_one text none = subst IsOneLine (take_all (length text) text (omega arith)) (front_one text (length text) none)
