-- The loop over the tokens of a predicate or function.
use Rattle.std.proofs.Common.{◌≡◌, ℕ, ◌+◌, ◌<◌, ◌≤◌, Bool, true, false, List, [], ◌∷◌, ◌++◌, length, take, Option, Some, None, refl, sym, ap, ◌∙◌, arith, append_assoc, length-append}
use Rattle.std.specs.Prelude.{option_to_list, ◌&&◌, ◌==◌}
use Rattle.std.proofs.lemmas.Bool.{eqb-true}
use Rattle.std.proofs.lemmas.Bool.Decides.{nat_tests}
use Rattle.std.specs.Option.{option_map}
use Rattle.std.proofs.lemmas.List.{append-nil, length-take, take_all, take-append-le}
use Rattle.elem.specs.declared.lexing.Lexeme.{Lexeme}
use Rattle.elem.specs.declared.tokens.Token.{Token}
use Rattle.elem.specs.Lexing.{lexed, lexed_from, with_first}
use Rattle.fn_lang.specs.declared.parts.Part.{Part}
use Rattle.fn_lang.specs.declared.steps.Want.{Want}
use Rattle.fn_lang.specs.declared.steps.Want.TheVariants as wants
use Rattle.fn_lang.specs.declared.steps.Step.{Step}
use Rattle.fn_lang.specs.declared.names.Sort.{Sort}
use Rattle.fn_lang.specs.Reading.{step_of, stepped, wanted, nothing_wanted, parse, parse_all, is_open}

-- the wants with the next one last, as the stack holds them
abbrev pub stacked : List Want → List Want
stacked [] = []
stacked (w ∷ ws) = stacked ws ++ w ∷ []

abbrev pub parsed : List ℕ → Sort → Option (List Part)
parsed text s = parse_all false (wants.Tree s ∷ []) (lexed text)

pub record IsRead (text : List ℕ) (s : Sort) (parts : List Part) (count : ℕ) (stack : List Want) (bare : Bool) (at : ℕ) : Type 0 where
  pub ws : List Want
  pub found : List Part
  pub stack_is : stack ≡ stacked ws
  pub kept : parts ≡ take 64 found
  pub count_is : count ≡ length found
  pub answer : parsed text s ≡ option_map (λ ps. found ++ ps) (parse_all bare ws (lexed_from text at))
  pub room : length stack ≤ at + 1
  pub many : length found ≤ at
  pub within : at ≤ length text

pub record IsNext (text : List ℕ) (at : ℕ) (x : Lexeme) : Type 0 where
  pub is : lexed_from text at ≡ with_first x (lexed_from text x.end)
  pub later : at < x.end
  pub within : x.end ≤ length text

same_map : (o : Option (List Part)) → option_map (λ (ps : List Part). [] ++ ps) o ≡ o
same_map None = refl
same_map (Some ps) = refl

pub read_init : (text : List ℕ) (s : Sort) (parts : List Part) (stack : List Want) → parts ≡ [] → stack ≡ wants.Tree s ∷ [] → IsRead text s parts 0 stack false 0
read_init text s parts stack e f = rw (e, f) (record { ws = wants.Tree s ∷ []; found = []; stack_is = refl; kept = refl; count_is = refl; answer = sym (same_map (parsed text s)); room = omega arith; many = omega arith; within = omega arith })

none_stepped : (o : Option Step) (ws : List Want) → stepped o ws (λ b us. None) ≡ None
none_stepped None ws = refl
none_stepped (Some s) ws = refl

none_wanted : (ws : List Want) (t : Token) → wanted ws t (λ b us. None) ≡ None
none_wanted [] t = refl
none_wanted (w ∷ ws) t = none_stepped (step_of w t) ws

-- one token is read
read_open : (ws : List Want) (x : Lexeme) (o : Option (List Lexeme)) → is_open x.token ≡ true → parse_all true ws (with_first x o) ≡ parse_all false (wants.Close ∷ ws) o
unfolding parse
read_open ws x None e = refl
read_open ws x (Some xs) e = rw e refl

read_want : (b : Bool) (ws : List Want) (x : Lexeme) (o : Option (List Lexeme)) → (b && is_open x.token) ≡ false → parse_all b ws (with_first x o) ≡ wanted ws x.token (λ n us. parse_all n us o)
unfolding parse
read_want b ws x None e = sym (none_wanted ws x.token)
read_want b ws x (Some xs) e = rw e refl

pub next_open : (text : List ℕ) (s : Sort) (parts : List Part) (count : ℕ) (stack more : List Want) (at : ℕ) (x : Lexeme) → IsRead text s parts count stack true at → IsNext text at x → is_open x.token ≡ true → more ≡ stack ++ wants.Close ∷ [] → IsRead text s parts count more false x.end
next_open text s parts count stack more at x r next e f = record {
  ws = wants.Close ∷ r.ws;
  found = r.found;
  stack_is = f ∙ ap (λ (l : List Want). l ++ wants.Close ∷ []) r.stack_is;
  kept = r.kept;
  count_is = r.count_is;
  answer = r.answer ∙ ap (option_map (λ ps. r.found ++ ps)) (ap (parse_all true r.ws) next.is ∙ read_open r.ws x (lexed_from text x.end) e);
  room = omega (arith, r.room, next.later, ap length f, length-append stack (wants.Close ∷ []));
  many = omega (arith, r.many, next.later);
  within = next.within;
}

push_some : (ps : List Want) (p : Want) → [] ≡ ps ++ p ∷ [] → ⊥
push_some [] p e = cc
push_some (q ∷ ps) p e = cc

-- two lists with one more at their ends
last_is : (xs ys : List Want) (x y : Want) → xs ++ x ∷ [] ≡ ys ++ y ∷ [] → (xs ≡ ys) × (x ≡ y)
last_is [] [] x y e = (refl, cc)
last_is [] (b ∷ ys) x y e = let f : [] ≡ ys ++ y ∷ [] = cc in absurd (push_some ys y f)
last_is (a ∷ xs) [] x y e = let f : [] ≡ xs ++ x ∷ [] = cc in absurd (push_some xs x f)
last_is (a ∷ xs) (b ∷ ys) x y e =
    let first : a ≡ b = cc in
    let f = last_is xs ys x y cc in
    (rw (first, f.0) refl, f.1)

-- what is popped is wanted next
record IsPopped (ws rest : List Want) (w : Want) : Type 0 where
  later : List Want
  is : ws ≡ w ∷ later
  rest_is : rest ≡ stacked later

popped : (ws rest : List Want) (w : Want) → stacked ws ≡ rest ++ w ∷ [] → IsPopped ws rest w
popped [] rest w e = absurd (push_some rest w e)
popped (v ∷ ws) rest w e = let f = last_is (stacked ws) rest v w e in record { later = ws; is = rw f.1 refl; rest_is = sym f.0 }

with_found : (found more : List Part) (o : Option (List Part)) → option_map (λ ps. found ++ ps) (option_map (λ ps. more ++ ps) o) ≡ option_map (λ ps. (found ++ more) ++ ps) o
with_found found more None = refl
with_found found more (Some ps) = ap Some (sym (append_assoc found more ps))

optional : {A : Type 0} (o : Option A) → length (option_to_list o) ≤ 1
optional None = omega arith
optional (Some x) = omega arith

stacked_two : (a b : Option Want) (ws : List Want) → stacked (option_to_list a ++ (option_to_list b ++ ws)) ≡ stacked ws ++ (option_to_list b ++ option_to_list a)
stacked_two None None ws = sym (append-nil (stacked ws))
stacked_two (Some a) None ws = refl
stacked_two None (Some b) ws = refl
stacked_two (Some a) (Some b) ws = append_assoc (stacked ws) (b ∷ []) (a ∷ [])

after : (ws : List Want) (w : Want) (later : List Want) (t : Token) (step : Step) (behind : Bool → List Want → Option (List Part)) → ws ≡ w ∷ later → step_of w t ≡ Some step
    → wanted ws t behind ≡ option_map (λ ps. option_to_list step.part ++ ps) (behind step.bare (option_to_list step.next ++ (option_to_list step.later ++ later)))
after ws w later t step behind e f = rw (e, f) refl

no_wants : (ws : List Want) → stacked ws ≡ [] → ws ≡ []
no_wants [] e = refl
no_wants (w ∷ ws) e = absurd (push_some (stacked ws) w (sym e))

some_wants : (ws : List Want) → (ws ≡ [] → ⊥) → nothing_wanted ws ≡ None
some_wants [] h = absurd (h refl)
some_wants (w ∷ ws) h = refl

pub next_step : (text : List ℕ) (s : Sort) (parts more : List Part) (count : ℕ) (stack rest put : List Want) (bare : Bool) (at : ℕ) (x : Lexeme) (w : Want) (step : Step) → IsRead text s parts count stack bare at → IsNext text at x → (bare && is_open x.token) ≡ false
    → stack ≡ rest ++ w ∷ [] → Some step ≡ step_of w x.token → put ≡ rest ++ (option_to_list step.later ++ option_to_list step.next)
    → ((found : List Part) → parts ≡ take 64 found → more ≡ take 64 (found ++ option_to_list step.part)) → IsRead text s more (count + length (option_to_list step.part)) put step.bare x.end
next_step text s parts more count stack rest put bare at x w step r next other pop is wanted_now keep =
    let p = popped r.ws rest w (sym r.stack_is ∙ pop) in
    record {
      ws = option_to_list step.next ++ (option_to_list step.later ++ p.later);
      found = r.found ++ option_to_list step.part;
      stack_is = wanted_now ∙ ap (λ (l : List Want). l ++ (option_to_list step.later ++ option_to_list step.next)) p.rest_is ∙ sym (stacked_two step.next step.later p.later);
      kept = keep r.found r.kept;
      count_is = omega (arith, r.count_is, length-append r.found (option_to_list step.part));
      answer = r.answer ∙ ap (option_map (λ ps. r.found ++ ps)) (ap (parse_all bare r.ws) next.is ∙ read_want bare r.ws x (lexed_from text x.end) other ∙ after r.ws w p.later x.token step (λ n us. parse_all n us (lexed_from text x.end)) p.is (sym is)) ∙ with_found r.found (option_to_list step.part) (parse_all step.bare (option_to_list step.next ++ (option_to_list step.later ++ p.later)) (lexed_from text x.end));
      room = omega (arith, r.room, next.later, ap length pop, length-append rest (w ∷ []), ap length wanted_now, length-append rest (option_to_list step.later ++ option_to_list step.next), length-append (option_to_list step.later) (option_to_list step.next), optional step.later, optional step.next);
      many = omega (arith, r.many, next.later, length-append r.found (option_to_list step.part), optional step.part);
      within = next.within;
    }

pub none_left : (text : List ℕ) (s : Sort) (parts : List Part) (count : ℕ) (stack : List Want) (bare : Bool) (at : ℕ) (x : Lexeme) → IsRead text s parts count stack bare at → IsNext text at x → (bare && is_open x.token) ≡ false → stack ≡ [] → parsed text s ≡ None
none_left text s parts count stack bare at x r next other empty =
    let none : parse_all bare r.ws (lexed_from text at) ≡ None = ap (parse_all bare r.ws) next.is ∙ read_want bare r.ws x (lexed_from text x.end) other ∙ rw (no_wants r.ws (sym r.stack_is ∙ empty)) refl in
    r.answer ∙ rw none refl

pub no_step : (text : List ℕ) (s : Sort) (parts : List Part) (count : ℕ) (stack rest : List Want) (bare : Bool) (at : ℕ) (x : Lexeme) (w : Want) → IsRead text s parts count stack bare at → IsNext text at x → (bare && is_open x.token) ≡ false → stack ≡ rest ++ w ∷ [] → None ≡ step_of w x.token → parsed text s ≡ None
no_step text s parts count stack rest bare at x w r next other pop is =
    let p = popped r.ws rest w (sym r.stack_is ∙ pop) in
    let none : parse_all bare r.ws (lexed_from text at) ≡ None = ap (parse_all bare r.ws) next.is ∙ read_want bare r.ws x (lexed_from text x.end) other ∙ rw (p.is, sym is) refl in
    r.answer ∙ rw none refl

pub read_fault : (text : List ℕ) (s : Sort) (parts : List Part) (count : ℕ) (stack : List Want) (bare : Bool) (at : ℕ) → IsRead text s parts count stack bare at → lexed_from text at ≡ None → parsed text s ≡ None
read_fault text s parts count stack bare at r e = r.answer ∙ rw e refl

parse_end : (bare : Bool) (ws : List Want) → parse bare ws [] ≡ nothing_wanted ws
unfolding parse
parse_end bare ws = refl

pub read_end : (text : List ℕ) (s : Sort) (parts : List Part) (count : ℕ) (stack : List Want) (bare : Bool) (at : ℕ) (r : IsRead text s parts count stack bare at) → lexed_from text at ≡ Some [] → stack ≡ [] → parsed text s ≡ Some r.found
read_end text s parts count stack bare at r e empty = r.answer ∙ rw (e, parse_end bare r.ws, no_wants r.ws (sym r.stack_is ∙ empty)) (ap Some (append-nil r.found))

pub read_wanting : (text : List ℕ) (s : Sort) (parts : List Part) (count : ℕ) (stack : List Want) (bare : Bool) (at : ℕ) → IsRead text s parts count stack bare at → lexed_from text at ≡ Some [] → (stack ≡ [] → ⊥) → parsed text s ≡ None
read_wanting text s parts count stack bare at r e some = r.answer ∙ rw (e, parse_end bare r.ws) (ap (option_map (λ ps. r.found ++ ps)) (some_wants r.ws (λ h. some (r.stack_is ∙ ap stacked h))))

pub not_open : (a b : Bool) → b ≡ false → (a && b) ≡ false
not_open true b h = h
not_open false b h = refl

pub closed_bare : (a b : Bool) → a ≡ false → (a && b) ≡ false
closed_bare a b h = rw h refl

false_true : false ≡ true → ⊥
false_true h = cc

pub none_popped : (xs : List Want) → (0 < length xs → false ≡ true) → xs ≡ []
none_popped [] h = refl
none_popped (x ∷ xs) h = absurd (false_true (h (omega arith)))

pub empty_by : (xs : List Want) → true ≡ (length xs == 0) → xs ≡ []
empty_by [] h = refl
empty_by (x ∷ xs) h = let e : length (x ∷ xs) ≡ 0 = eqb-true _ _ (sym h) in absurd (omega (arith, e))

pub some_by : (xs : List Want) → false ≡ (length xs == 0) → xs ≡ [] → ⊥
some_by xs h e = let f : false ≡ (length {A = Want} [] == 0) = rw e at h in false_true f

-- ---- the first 64 parts

full_len : (n : ℕ) → true ≡ (n == 64) → 64 ≤ n
full_len n h = omega (arith, eqb-true n 64 (sym h))

less_len : (n : ℕ) → false ≡ (n == 64) → n ≤ 64 → n < 64
less_len n h le = grind (arith, nat_tests)

pub kept_full : {T : Type 0} (xs found : List T) (x : T) → xs ≡ take 64 found → true ≡ (length xs == 64) → xs ≡ take 64 (found ++ x ∷ [])
kept_full xs found x e h =
    let le : 64 ≤ length found = omega (arith, ap length e, length-take 64 found, full_len (length xs) h) in
    e ∙ sym (take-append-le 64 found (x ∷ []) le)

pub kept_more : {T : Type 0} (xs found : List T) (x : T) → xs ≡ take 64 found → false ≡ (length xs == 64) → length xs ≤ 64 → xs ++ x ∷ [] ≡ take 64 (found ++ x ∷ [])
kept_more {T} xs found x e h fits =
    let le : length found < 64 = omega (arith, ap length e, length-take 64 found, less_len (length xs) h fits) in
    let whole : take 64 found ≡ found = take_all 64 found (omega arith) in
    let both : take 64 (found ++ x ∷ []) ≡ found ++ x ∷ [] = take_all 64 (found ++ x ∷ []) (omega (arith, length-append found (x ∷ []))) in
    ap (λ (l : List T). l ++ x ∷ []) (e ∙ whole) ∙ sym both
