-- A part beside its line types as the word with all its arguments does: no word takes more than the first three.
use Rattle.std.proofs.Common.{◌≡◌, ℕ, ◌-◌, ◌≤◌, zero, suc, Bool, true, false, List, [], ◌∷◌, length, map, get_or, drop, Option, None, Some, Result, Err, cond, refl, sym, ◌∙◌, ap, arith, length-drop, nat_eq}
use Rattle.std.proofs.lemmas.List.{length-map, length-take}
use Rattle.script_text.specs.declared.lines.Part.{Part as Placed}
use Rattle.script_text.specs.declared.lines.Slice.{Slice}
use Rattle.script_text.specs.Parts.{so_many, part_in}
use Rattle.script_text.specs.Trees.{Call, first_three, in_pieces, part_of, piece}
use Rattle.script_text.proofs.PartTexts.{length-so_many}
use Rattle.vocabulary.specs.declared.calls.CallForm.{CallForm}
use Rattle.vocabulary.specs.declared.lines.Fault.{Fault}
use Rattle.vocabulary.specs.declared.lines.Fault.TheVariants as fault
use Rattle.vocabulary.specs.declared.lines.Purpose.{Purpose}
use Rattle.vocabulary.specs.declared.lines.Purpose.TheVariants as purpose
use Rattle.vocabulary.specs.declared.refusals.Refusal.{Refusal}
use Rattle.vocabulary.specs.declared.shapes.Shape.{Shape}
use Rattle.vocabulary.specs.declared.steps.StepForm.{StepForm}
use Rattle.vocabulary.specs.declared.steps.StepForm.TheVariants as step_form
use Rattle.vocabulary.specs.declared.words.Action.{Action}
use Rattle.vocabulary.specs.declared.words.Action.TheVariants as action
use Rattle.vocabulary.specs.Known.{is_known, is_known_step}
use Rattle.vocabulary.specs.Shapes.{sort_of}
use Rattle.vocabulary.specs.StepShapes.{apply_form}
use Rattle.vocabulary.specs.Words.{signature}
use Rattle.machine.specs.Bases.{World}
use Rattle.machine.specs.Iterating.{iterated, iterator_word, word_of}
use Rattle.machine.specs.Languages.{known, only_if}
use Rattle.machine.specs.Lines.{eval_of, eval_typed}
use Rattle.machine.specs.Making.{Asked}
use Rattle.machine.specs.Meanings.{Meaning, acting, call_typed, fitting, if_fits, may_call, step_typed, typed_word}
use Rattle.machine.specs.Meanings as meaning
use Rattle.machine.specs.Naming.{it_of, it_typed, let_of, let_typed}
use Rattle.machine.specs.Parts.{text_at}
use Rattle.machine.specs.State.{Bound, Names, State, to_iterator, to_view}
use Rattle.machine.specs.Typing.{Typing, go_on, is_last, typed_end, typed_words}
use Rattle.machine.specs.Views.{shape_at}
use Rattle.session.specs.Following.{a_step, asked, parts_in}

-- ---- what passes a test

pub only_passes : {X : Type 0} (test : X → Bool) (found : Option X) (x : X) → only_if test found ≡ Some x → test x ≡ true
only_passes test None x e = cc
only_passes test (Some y) x e = by (test y) refl e
  where
    by : (b : Bool) → test y ≡ b → cond b (Some y) None ≡ Some x → test x ≡ true
    by true is e = let same : y ≡ x = cc in ap test (sym same) ∙ is
    by false is e = cc

pub only_found : {X : Type 0} (test : X → Bool) (found : Option X) (x : X) → only_if test found ≡ Some x → found ≡ Some x
only_found test None x e = cc
only_found test (Some y) x e = by (test y) e
  where
    by : (b : Bool) → cond b (Some y) None ≡ Some x → Some y ≡ Some x
    by true e = e
    by false e = cc

-- ---- a known step, which takes one text at most

step_meant : (it : Option (Result Asked Refusal)) (given : Option Shape) → a_step it given ≡ if_fits (λ (x : Result Asked Refusal). meaning.a_step x given) (fitting it)
step_meant None given = refl
step_meant (Some it) None = refl
step_meant (Some it) (Some next) = refl

pub known_meant : (world : World) (names : Names) (on : Shape) (form : StepForm) (a b : List ℕ) → is_known_step form ≡ true → a_step (asked form a) (apply_form on form) ≡ step_typed world names on form a b
known_meant world names on (step_form.Plain word) a b h = step_meant (asked (step_form.Plain word) a) (apply_form on (step_form.Plain word))
known_meant world names on (step_form.Filter word) a b h = step_meant (asked (step_form.Filter word) a) (apply_form on (step_form.Filter word))
known_meant world names on step_form.FilterPairs a b h = step_meant (asked step_form.FilterPairs a) (apply_form on step_form.FilterPairs)
known_meant world names on (step_form.Change word) a b h = step_meant (asked (step_form.Change word) a) (apply_form on (step_form.Change word))
known_meant world names on step_form.Within a b h = step_meant (asked step_form.Within a) (apply_form on step_form.Within)
known_meant world names on _ a b h = absurd (cc)

-- a piece of a line is no longer than the line
piece_short : (line : List ℕ) (s : Slice) → length (piece line s) ≤ length line
piece_short line s = omega (arith, length-take (s.end - s.start) (drop s.start line), length-drop s.start line)

texts_short : (line : List ℕ) (n i : ℕ) (args : List Slice) → length (get_or (so_many n (map (piece line) args)) i []) ≤ length line
texts_short line zero i args = omega arith
texts_short line (suc n) zero [] = omega arith
texts_short line (suc n) (suc i) [] = texts_short line n i []
texts_short line (suc n) zero (a ∷ args) = piece_short line a
texts_short line (suc n) (suc i) (a ∷ args) = texts_short line n i args

module _ (line : List ℕ) where
  -- an argument is no longer than the line
  pub text_short : (part : Placed) (i : ℕ) → length (text_at (part_in line part).args i) ≤ length line
  text_short part i = texts_short line part.count i part.args

  -- the texts that are kept of arguments, and all of them
  abbrev kept : List Slice → List (List ℕ)
  kept args = so_many (length args) (map (piece line) (first_three args))

  abbrev all : List Slice → List (List ℕ)
  all args = map (piece line) args

  first_alike : (args : List Slice) → text_at (kept args) 0 ≡ text_at (all args) 0
  first_alike [] = refl
  first_alike (a ∷ []) = refl
  first_alike (a ∷ b ∷ []) = refl
  first_alike (a ∷ b ∷ c ∷ rest) = refl

  second_alike : (args : List Slice) → text_at (kept args) 1 ≡ text_at (all args) 1
  second_alike [] = refl
  second_alike (a ∷ []) = refl
  second_alike (a ∷ b ∷ []) = refl
  second_alike (a ∷ b ∷ c ∷ rest) = refl

  third_alike : (args : List Slice) → text_at (kept args) 2 ≡ text_at (all args) 2
  third_alike [] = refl
  third_alike (a ∷ []) = refl
  third_alike (a ∷ b ∷ []) = refl
  third_alike (a ∷ b ∷ c ∷ rest) = refl

  count_alike : (args : List Slice) → length (kept args) ≡ length (all args)
  count_alike args = length-so_many (length args) (map (piece line) (first_three args)) ∙ sym (length-map args (piece line))

  module _ (world : World) (names : Names) (for : Purpose) where
    word_alike : (last : Bool) (on : Shape) (c : Call Slice) → typed_word known world names for last on (part_in line (part_of c)) ≡ typed_word known world names for last on (in_pieces line c)
    unfolding typed_word
    word_alike last on c = λ i. acting world names for last on (first_alike c.args i) (second_alike c.args i) (third_alike c.args i) (only_if is_known (signature (sort_of on) c.word (count_alike c.args i)))

    -- what a part is, by what its word with so many arguments does
    module _ (last : Bool) (on : Shape) (part : Placed) where
      abbrev text : ℕ → List ℕ
      text i = text_at (part_in line part).args i

      typed_by : (found : Option Action) → only_if is_known (signature (sort_of on) part.word part.count) ≡ found → typed_word known world names for last on (part_in line part) ≡ acting world names for last on (text 0) (text 1) (text 2) found
      unfolding typed_word
      typed_by found e =
          ap (λ (n : ℕ). acting world names for last on (text 0) (text 1) (text 2) (only_if is_known (signature (sort_of on) part.word n))) (length-so_many part.count (map (piece line) part.args))
          ∙ ap (acting world names for last on (text 0) (text 1) (text 2)) e

      pub none_typed : only_if is_known (signature (sort_of on) part.word part.count) ≡ None → Err fault.Call ≡ typed_word known world names for last on (part_in line part)
      none_typed e = sym (typed_by None e)

      pub known_step_typed : (form : StepForm) → only_if is_known (signature (sort_of on) part.word part.count) ≡ Some (action.Step form) → a_step (asked form (text 0)) (apply_form on form) ≡ typed_word known world names for last on (part_in line part)
      known_step_typed form e = known_meant world names on form (text 0) (text 1) (only_passes is_known _ (action.Step form) e) ∙ sym (typed_by (Some (action.Step form)) e)

      pub known_call_typed : (form : CallForm) (b : Bool) → may_call for last ≡ b → only_if is_known (signature (sort_of on) part.word part.count) ≡ Some (action.Call form)
          → cond b (call_typed world names on form (text 0) (text 1) (text 2)) (Err fault.Call) ≡ typed_word known world names for last on (part_in line part)
      known_call_typed form b is e =
          ap (λ (x : Bool). cond x (call_typed world names on form (text 0) (text 1) (text 2)) (Err fault.Call)) (sym is) ∙ sym (typed_by (Some (action.Call form)) e)

    last_alike : (cs : List (Call Slice)) → is_last (parts_in line (map part_of cs)) ≡ is_last (map (in_pieces line) cs)
    last_alike [] = refl
    last_alike (c ∷ cs) = refl

    pub words_alike : (on : Shape) (cs : List (Call Slice)) → typed_words known world names for on (parts_in line (map part_of cs)) ≡ typed_words known world names for on (map (in_pieces line) cs)
    words_alike on [] = refl
    words_alike on (c ∷ cs) =
        ap (λ (last : Bool). go_on on (λ next. typed_words known world names for next (parts_in line (map part_of cs))) (typed_word known world names for last on (part_in line (part_of c)))) (last_alike cs)
        ∙ ap (go_on on (λ next. typed_words known world names for next (parts_in line (map part_of cs)))) (word_alike (is_last (map (in_pieces line) cs)) on c)
        ∙ λ i. go_on on (λ next. words_alike next cs i) (typed_word known world names for (is_last (map (in_pieces line) cs)) on (in_pieces line c))

  parts_alike : (cs : List (Call Slice)) → length (parts_in line (map part_of cs)) ≡ length (map (in_pieces line) cs)
  parts_alike [] = refl
  parts_alike (c ∷ cs) = ap suc (parts_alike cs)

  pub iterator_alike : (cs : List (Call Slice)) → iterator_word (parts_in line (map part_of cs)) ≡ iterator_word (map (in_pieces line) cs)
  iterator_alike [] = refl
  iterator_alike (c ∷ []) = ap (λ (n : ℕ). cond (nat_eq n 0) (word_of c.word) None) (count_alike c.args)
  iterator_alike (c ∷ d ∷ cs) = refl

pub eval_alike : (state : State) (name line : List ℕ) (head : Option Bound) (cs : List (Call Slice)) → eval_of known state name head (parts_in line (map part_of cs)) ≡ eval_of known state name head (map (in_pieces line) cs)
eval_alike state name line None cs = refl
eval_alike state name line (Some (to_iterator it)) cs = ap (iterated state name it) (iterator_alike line cs)
eval_alike state name line (Some (to_view v)) cs = ap (λ (t : Result Typing Fault). eval_typed state v (if_fits typed_end t)) (words_alike line state.bases state.names purpose.Reply (shape_at state.bases v) cs)

pub it_alike : (state : State) (name line : List ℕ) (head : Option Bound) (cs : List (Call Slice)) → it_of known state name head (parts_in line (map part_of cs)) ≡ it_of known state name head (map (in_pieces line) cs)
it_alike state name line None cs = refl
it_alike state name line (Some (to_iterator it)) cs = refl
it_alike state name line (Some (to_view v)) cs = ap (it_typed state name v) (words_alike line state.bases state.names purpose.Iterator (shape_at state.bases v) cs)

pub let_alike : (state : State) (name line : List ℕ) (head : Option Bound) (cs : List (Call Slice)) → let_of known state name head (parts_in line (map part_of cs)) ≡ let_of known state name head (map (in_pieces line) cs)
let_alike state name line None cs = refl
let_alike state name line (Some (to_iterator it)) cs = refl
let_alike state name line (Some (to_view v)) cs = ap (λ (t : Result Typing Fault). let_typed state name v (if_fits typed_end t)) (words_alike line state.bases state.names purpose.Name (shape_at state.bases v) cs)
