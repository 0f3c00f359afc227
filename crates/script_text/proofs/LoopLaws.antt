-- The loop over the tokens behind a name.
use Rattle.std.proofs.Common.{◌≡◌, ℕ, ◌+◌, ◌*◌, ◌<◌, ◌≤◌, Bool, true, false, cond, List, [], ◌∷◌, ◌++◌, length, Option, Some, None, refl, sym, ap, ◌∙◌, arith, append_assoc, length-append}
use Rattle.std.specs.Option.{option_map}
use Rattle.std.proofs.lemmas.List.{append-nil}
use Rattle.elem.specs.declared.lexing.Lexeme.{Lexeme}
use Rattle.elem.specs.Lexing.{lexed_from, with_first}
use Rattle.script_text.specs.declared.lines.Slice.{Slice}
use Rattle.script_text.specs.declared.lines.Part.{Part}
use Rattle.script_text.specs.declared.stages.Stage.{Stage}
use Rattle.script_text.specs.declared.stages.Stage.TheVariants.{Ended, Dotted, Called, Inside}
use Rattle.script_text.specs.declared.stages.Turn.{Turn}
use Rattle.script_text.specs.declared.stages.Turn.TheVariants as turns
use Rattle.script_text.specs.Trees.{Call, no_slice, part_of}
use Rattle.script_text.specs.Stages.{depth_of, turn_of, turned, grown, Rest, reading, may_end, add_call, add_place}
use Rattle.script_text.specs.Calls.{calls_of, calls_from, and_then, add_args, last_count, AreParts}
use Rattle.script_text.proofs.PartLaws.{last_count-push, add_args-push, add_args-nil, add_args-twice, map-push}
use Rattle.script_text.proofs.StageLaws.{depth_grows, part_is_dotted}

abbrev pub read_all : Stage → Slice → Option (List Lexeme) → Option Rest
read_all stage place o = and_then o (reading stage place)

-- the calls so far, with what is still to come
abbrev pub joined : List (Call Slice) → Rest → List (Call Slice)
joined calls r = add_args calls r.0 ++ r.1

abbrev pub dotted : Stage → ℕ
dotted Dotted = 1
dotted s = 0

-- these parts are read, and the rest of the line gives the calls that are left
pub record IsRead (line : List ℕ) (from : ℕ) (parts : List Part) (stage : Stage) (place : Slice) (at : ℕ) : Type 0 where
  pub calls : List (Call Slice)
  pub shown : AreParts parts calls
  pub answer : calls_from line from ≡ option_map (joined calls) (read_all stage place (lexed_from line at))
  pub room : 2 * length parts + dotted stage ≤ at
  pub count : last_count parts ≤ at
  pub depth : depth_of stage ≤ at
  pub within : at ≤ length line

all_later : (o : Option Rest) → option_map (λ (r : Rest). r.1) o ≡ option_map (joined []) o
all_later None = refl
all_later (Some r) = refl

none_map : {A B : Type 0} (f : A → B) (o : Option A) → o ≡ None → option_map f o ≡ None
none_map f o e = rw e refl

begun : (o : Option (List Lexeme)) → and_then o calls_of ≡ option_map (joined []) (read_all Ended no_slice o)
begun None = refl
begun (Some xs) = all_later (reading Ended no_slice xs)

pub read_init : (line : List ℕ) (from : ℕ) (parts : List Part) → parts ≡ [] → from ≤ length line → IsRead line from parts Ended no_slice from
read_init line from parts e within = rw e (record { calls = []; shown = refl; answer = begun (lexed_from line from); room = omega arith; count = omega arith; depth = omega arith; within = within })

turned_none : (t : Option Turn) (place : Slice) → turned t place (λ n. None) ≡ None
turned_none None place = refl
turned_none (Some (turns.To s)) place = refl
turned_none (Some (turns.Part w)) place = refl
turned_none (Some (turns.Argument s)) place = refl

-- one token is read
pub read_first : (stage : Stage) (place : Slice) (x : Lexeme) (o : Option (List Lexeme)) → read_all stage place (with_first x o) ≡ turned (turn_of stage x.token) place (λ n. read_all n (grown stage place x) o)
unfolding reading
read_first stage place x None = sym (turned_none (turn_of stage x.token) place)
read_first stage place x (Some xs) = refl

-- the next token, and what stands behind it
pub record IsNext (line : List ℕ) (at : ℕ) (x : Lexeme) : Type 0 where
  pub is : lexed_from line at ≡ with_first x (lexed_from line x.end)
  pub later : at < x.end
  pub within : x.end ≤ length line

pub read_next : (line : List ℕ) (from : ℕ) (parts : List Part) (stage : Stage) (place : Slice) (at : ℕ) (x : Lexeme) (t : Option Turn) (r : IsRead line from parts stage place at) → IsNext line at x → turn_of stage x.token ≡ t
    → calls_from line from ≡ option_map (joined r.calls) (turned t place (λ n. read_all n (grown stage place x) (lexed_from line x.end)))
read_next line from parts stage place at x t r next e =
    r.answer ∙ ap (λ (o : Option Rest). option_map (joined r.calls) o) (ap (read_all stage place) next.is ∙ read_first stage place x (lexed_from line x.end) ∙ ap (λ (t : Option Turn). turned t place (λ n. read_all n (grown stage place x) (lexed_from line x.end))) e)

pub read_none : (line : List ℕ) (from : ℕ) (parts : List Part) (stage : Stage) (place : Slice) (at : ℕ) (x : Lexeme) → IsRead line from parts stage place at → IsNext line at x → None ≡ turn_of stage x.token → calls_from line from ≡ None
read_none line from parts stage place at x r next e = read_next line from parts stage place at x None r next (sym e)

dotted_le : (s : Stage) → dotted s ≤ 1
dotted_le Ended = omega arith
dotted_le Dotted = omega arith
dotted_le Called = omega arith
dotted_le (Inside w d) = omega arith

pub read_to : (line : List ℕ) (from : ℕ) (parts : List Part) (stage : Stage) (place : Slice) (at : ℕ) (x : Lexeme) (n : Stage) → IsRead line from parts stage place at → IsNext line at x → Some (turns.To n) ≡ turn_of stage x.token → IsRead line from parts n (grown stage place x) x.end
read_to line from parts stage place at x n r next e = record {
  calls = r.calls;
  shown = r.shown;
  answer = read_next line from parts stage place at x (Some (turns.To n)) r next (sym e);
  room = let d = dotted_le n in omega (arith, r.room, next.later);
  count = omega (arith, r.count, next.later);
  depth = omega (arith, depth_grows stage x.token (turns.To n) (sym e), r.depth, next.later);
  within = next.within;
}

mapped_call : (calls : List (Call Slice)) (w : List ℕ) (o : Option Rest) → option_map (joined calls) (option_map (add_call w) o) ≡ option_map (joined (calls ++ record { word = w; args = [] } ∷ [])) o
mapped_call calls w None = refl
mapped_call calls w (Some r) = ap Some (rw (add_args-nil calls, add_args-push calls (record { word = w; args = [] }) r.0, append_assoc) refl)

mapped_place : (calls : List (Call Slice)) (place : Slice) (o : Option Rest) → option_map (joined calls) (option_map (add_place place) o) ≡ option_map (joined (add_args calls (place ∷ []))) o
mapped_place calls place None = refl
mapped_place calls place (Some r) = ap Some (rw (add_args-twice calls (place ∷ []) r.0) refl)

-- a word of a part stands behind a dot, so there is room for it
pub part_room : (line : List ℕ) (from : ℕ) (parts : List Part) (stage : Stage) (place : Slice) (at : ℕ) (x : Lexeme) (w : List ℕ) → IsRead line from parts stage place at → IsNext line at x → Some (turns.Part w) ≡ turn_of stage x.token → 2 * length parts + 1 ≤ at
part_room line from parts stage place at x w r next e =
    let d : dotted stage ≡ 1 = ap dotted (part_is_dotted stage x.token w (sym e)) in
    omega (arith, r.room, d)

pub read_part : (line : List ℕ) (from : ℕ) (parts : List Part) (stage : Stage) (place : Slice) (at : ℕ) (x : Lexeme) (w : List ℕ) → IsRead line from parts stage place at → IsNext line at x → Some (turns.Part w) ≡ turn_of stage x.token → IsRead line from (parts ++ part_of (record { word = w; args = [] }) ∷ []) Called (grown stage place x) x.end
read_part line from parts stage place at x w r next e = record {
  calls = r.calls ++ record { word = w; args = [] } ∷ [];
  shown = rw (map-push r.calls (record { word = w; args = [] }), ← r.shown) refl;
  answer = read_next line from parts stage place at x (Some (turns.Part w)) r next (sym e) ∙ mapped_call r.calls w (read_all Called (grown stage place x) (lexed_from line x.end));
  room = omega (arith, part_room line from parts stage place at x w r next e, length-append parts (part_of (record { word = w; args = [] }) ∷ []), next.later);
  count = omega (arith, last_count-push parts (part_of (record { word = w; args = [] })));
  depth = omega arith;
  within = next.within;
}

pub read_argument : (line : List ℕ) (from : ℕ) (parts more : List Part) (stage : Stage) (place : Slice) (at : ℕ) (x : Lexeme) (n : Stage) → IsRead line from parts stage place at → IsNext line at x → Some (turns.Argument n) ≡ turn_of stage x.token
    → ((calls : List (Call Slice)) → AreParts parts calls → AreParts more (add_args calls (place ∷ []))) → length more ≡ length parts → last_count more ≤ last_count parts + 1 → IsRead line from more n (grown stage place x) x.end
read_argument line from parts more stage place at x n r next e shown len count = record {
  calls = add_args r.calls (place ∷ []);
  shown = shown r.calls r.shown;
  answer = read_next line from parts stage place at x (Some (turns.Argument n)) r next (sym e) ∙ mapped_place r.calls place (read_all n (grown stage place x) (lexed_from line x.end));
  room = let d = dotted_le n in omega (arith, r.room, next.later, len);
  count = omega (arith, r.count, next.later, count);
  depth = omega (arith, depth_grows stage x.token (turns.Argument n) (sym e), r.depth, next.later);
  within = next.within;
}

pub read_fault : (line : List ℕ) (from : ℕ) (parts : List Part) (stage : Stage) (place : Slice) (at : ℕ) → IsRead line from parts stage place at → lexed_from line at ≡ None → calls_from line from ≡ None
read_fault line from parts stage place at r e = r.answer ∙ rw e refl

end_of : (stage : Stage) (place : Slice) (b : Bool) → may_end stage ≡ b → reading stage place [] ≡ cond b (Some ([], [])) None
unfolding reading
end_of stage place b e = rw e refl

pub read_end : (line : List ℕ) (from : ℕ) (parts : List Part) (stage : Stage) (place : Slice) (at : ℕ) (r : IsRead line from parts stage place at) → lexed_from line at ≡ Some [] → true ≡ may_end stage → calls_from line from ≡ Some r.calls
read_end line from parts stage place at r e ends =
    r.answer ∙ rw (e, end_of stage place true (sym ends)) (ap Some (rw (append-nil (add_args r.calls [])) (add_args-nil r.calls)))

pub read_open : (line : List ℕ) (from : ℕ) (parts : List Part) (stage : Stage) (place : Slice) (at : ℕ) → IsRead line from parts stage place at → lexed_from line at ≡ Some [] → false ≡ may_end stage → calls_from line from ≡ None
read_open line from parts stage place at r e ends = r.answer ∙ rw (e, end_of stage place false (sym ends)) refl
