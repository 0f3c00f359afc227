-- One word after another leads where all of them lead.
use Rattle.std.proofs.Common.{IfSome, IsSome, is_some, ◌≡◌, ◌≢◌, ℕ, ◌+◌, ◌-◌, ◌<◌, ◌≤◌, ◌==◌, Bool, true, false, List, [], ◌∷◌, ◌++◌, length, take, drop, get_or, Option, None, Some, Result, Ok, Err, IfOk, OnOk, OnErr, cond, refl, sym, ◌∙◌, ap, subst, inl, inr, arith, length-append}
use Rattle.std.specs.Result.{IsOk}
use Rattle.std.specs.Prelude.{◌⊎◌}
use Rattle.std.proofs.lemmas.Bool.{cases_lt}
use Rattle.std.proofs.lemmas.List.{take-append-le}
use Rattle.std.proofs.lemmas.Bool.Decides.{nat_tests}
use Rattle.base_store.specs.declared.store.Made.{Made}
use Rattle.base_store.specs.declared.store.Made.TheVariants.{Over as step_node}
use Rattle.base_store.specs.Stored.{Stored, view_in, with_node, without_temporary}
use Rattle.base_store.proofs.ViewLemmas.{view_at-append}
use Rattle.elem.specs.declared.span_texts.SpanFault.{SpanFault}
use Rattle.elem.specs.declared.span_texts.SpanFault.TheVariants as span_fault
use Rattle.elem.specs.declared.spans.Span.{Span}
use Rattle.elem.specs.SpanTexts.{checked, span_text}
use Rattle.fn_lang.specs.declared.faults.FnFault.{FnFault}
use Rattle.fn_lang.specs.declared.faults.FnFault.TheVariants.{NotGrammar, TooLarge}
use Rattle.fn_lang.specs.declared.names.Sort.TheVariants as sorts
use Rattle.fn_lang.specs.declared.parts.Part.{Part as FnPart}
use Rattle.fn_lang.specs.PartTrees.{pred_of, pair_of, func_of}
use Rattle.fn_lang.specs.Reading.{reading}
use Rattle.read_chain.specs.Reads.{refusal_in}
use Rattle.script_text.specs.declared.lines.Part.{Part as Placed}
use Rattle.script_text.specs.Parts.{part_in}
use Rattle.session.proofs.EvalLemmas.{take_whole}
use Rattle.session.specs.declared.following.End.TheVariants as end
use Rattle.session.specs.declared.typing.Typed.{Typed}
use Rattle.session.specs.declared.typing.Typed.TheVariants as typed
use Rattle.session.specs.declared.bound.Bound.{Bound as Held}
use Rattle.session.specs.declared.bound.Bound.TheVariants as held
use Rattle.session.specs.Environment.{Entries, NamesWithin, bound_at, named, node_under}
use Rattle.session.specs.Following.{Followed, IsEnd, IsTyped, Stepped, Steps, a_step, asked, meaning_in, meant_in, parts_in, target_in}
use Rattle.session.specs.Targets.{Target, leads, reach, stops, target, with_ending}
use Rattle.machine.specs.Arguments.{of_parts, of_range}
use Rattle.machine.specs.Following.{and_then, made, step_over}
use Rattle.machine.specs.Languages.{known}
use Rattle.machine.specs.Making.{Asked, Made as Outcome, a_view, by, refused, step_refusal, unless}
use Rattle.machine.specs.Meanings.{Ending, Meaning, ends, steps_to, typed_word}
use Rattle.machine.specs.Parts.{Part, text_at}
use Rattle.cursor_seat.specs.Stands.{has_given}
use Rattle.machine.specs.State.{to_iterator, to_view}
use Rattle.machine.specs.StepArguments.{within}
use Rattle.machine.specs.Typing.{Typing, before, go_on, is_last, typed_words}
use Rattle.vocabulary.specs.declared.lines.Fault.{Fault}
use Rattle.vocabulary.specs.declared.lines.Purpose.{Purpose}
use Rattle.vocabulary.specs.Known.{is_known_step}
use Rattle.view_steps.specs.KnownViews.{is_known}
use Rattle.view_steps.proofs.KnownLemmas.{one_step}
use Rattle.vocabulary.specs.declared.calls.Call.{Call}
use Rattle.vocabulary.specs.declared.calls.OnOther.{OnOther}
use Rattle.vocabulary.specs.Fits.{fits, fits_with}
use Rattle.vocabulary.specs.declared.refusals.Refusal.{Refusal}
use Rattle.vocabulary.specs.declared.refusals.Refusal.TheVariants.{IllegalArgument, Limit, NoMemory}
use Rattle.vocabulary.specs.declared.shapes.Shape.{Shape}
use Rattle.vocabulary.specs.declared.steps.Step.{Step}
use Rattle.vocabulary.specs.declared.steps.Step.TheVariants as step
use Rattle.vocabulary.specs.declared.steps.StepForm.{StepForm}
use Rattle.vocabulary.specs.declared.steps.StepForm.TheVariants as form
use Rattle.machine.specs.Reading.{first_refusal}
use Rattle.machine.specs.KeptSteps.{kept}
use Rattle.vocabulary.specs.StepShapes.{apply, apply_form}
use Rattle.vocabulary.specs.Steps.{form_of_step, steps_in}
use Rattle.machine.specs.Bases.{World}
use Rattle.machine.specs.Views.{View, over, path, shape_after, shape_at}

-- ---- a step over a view

-- the refusal of a step is no want of memory
pub refusal_said : (world : World) (view : View) (it : Step) (why : Refusal) → step_refusal world view it ≡ Some why → why ≢ NoMemory
refusal_said world view it why e = of _ _ e
  where
    of : (a b : Bool) → first_refusal (cond a None (Some IllegalArgument)) (cond b None (Some Limit)) ≡ Some why → why ≢ NoMemory
    of true true e = λ m. cc
    of true false e = λ m. cc
    of false b e = λ m. cc

-- the view of a known step, as it is made or refused
pub steps_made : (s now : Stored) (node : ℕ) (step : Step) (r : Result ℕ Refusal) → refusal_in r ≡ step_refusal s.world (view_in s node) step → IfOk r (λ n. n ≡ length s.nodes)
    → IfOk r (λ n. view_in now n ≡ over (kept s.world (view_in s node) step) (view_in s node)) → OnOk r (now ≡ with_node s (step_node (kept s.world (view_in s node) step) node)) → OnErr r (now ≡ s) → Steps s now node (Ok (by step)) r
steps_made s now node step (Ok n) refusal number view grown err = record {
  added = step_node (kept s.world (view_in s node) step) node;
  grown = grown;
  number = number;
  view = λ first. ap (λ (o : Option Refusal). unless o (over (kept s.world (view_in s node) step) (view_in s node))) (sym refusal) ∙ ap a_view (sym view);
}
steps_made s now node step (Err why) refusal number view grown err = (
  err,
  λ first. ap (λ (o : Option Refusal). unless o (over (kept s.world (view_in s node) step) (view_in s node))) (sym refusal),
  refusal_said s.world (view_in s node) step why (sym refusal),
)

-- there is room for a step, or the path is at its longest
pub room_or_long : (s : Stored) (node : ℕ) → length s.nodes ≤ s.lasting + path (view_in s node) → (length s.nodes < s.lasting + 32) ⊎ (32 ≤ path (view_in s node))
room_or_long s node room =
    elim (cases_lt (path (view_in s node)) 32) [
      | inl lt ↦ inl (omega (arith, room, lt))
      | inr le ↦ inr le
    ]

-- what was made of the parts that were read
pub read_made : (s now : Stored) (node : ℕ) (make : List FnPart → Step) (read : Result (List FnPart) FnFault) (parts : List FnPart) (it : Step) (r : Result ℕ Refusal) → Ok parts ≡ read → make parts ≡ it → Steps s now node (Ok (by it)) r
    → IfSome (of_parts (λ ps. by (make ps)) read) (λ x. Steps s now node x r)
read_made s now node make read parts it r is made h = subst (λ (o : Result (List FnPart) FnFault). IfSome (of_parts (λ ps. by (make ps)) o) (λ x. Steps s now node x r)) is (subst (λ (x : Step). Steps s now node (Ok (by x)) r) (sym made) h)

-- ---- the shape that a step gives

-- a step that is read has the form that was asked for
abbrev HasForm : StepForm → Asked → Type 0
HasForm form (by it) = form_of_step it ≡ form
HasForm form other = ⊥

abbrev IsOf : StepForm → Option (Result Asked Refusal) → Type 0
IsOf form read = IfSome read (λ it. IfOk it (HasForm form))

parts_of : (form : StepForm) (make : List FnPart → Step) → ((parts : List FnPart) → form_of_step (make parts) ≡ form) → (r : Result (List FnPart) FnFault) → IsOf form (of_parts (λ ps. by (make ps)) r)
parts_of form make h (Ok parts) = h parts
parts_of form make h (Err NotGrammar) = tt
parts_of form make h (Err TooLarge) = tt

range_of : (r : Result Span SpanFault) → IsOf form.Within (of_range (λ range. by (within range)) r)
range_of (Ok range) = refl
range_of (Err span_fault.NotGrammar) = tt
range_of (Err span_fault.Invalid) = tt

read_of : (form : StepForm) (text : List ℕ) → is_known_step form ≡ true → IsOf form (asked form text)
read_of (form.Plain word) text h = refl
read_of (form.Filter word) text h = parts_of (form.Filter word) (λ parts. step.Filter word (pred_of parts)) (λ parts. refl) (reading sorts.Pred text)
read_of form.FilterPairs text h = parts_of form.FilterPairs (λ parts. step.FilterPairs (pair_of parts)) (λ parts. refl) (reading sorts.PairPred text)
read_of (form.Change word) text h = parts_of (form.Change word) (λ parts. step.Change word (func_of parts)) (λ parts. refl) (reading sorts.Func text)
read_of form.Within text h = range_of (checked (span_text text))
read_of _ text h = absurd (cc)

-- a known step gives this shape on views of a shape
abbrev pub GivesBy : Shape → Shape → Asked → Type 0
GivesBy on next (by it) = (apply on it ≡ Some next) × (is_known it ≡ true)
GivesBy on next other = ⊥

abbrev pub Gives : Shape → Shape → Result Asked Refusal → Type 0
Gives on next it = IfOk it (GivesBy on next)

gives : (form : StepForm) (text : List ℕ) (on next : Shape) (it : Result Asked Refusal) → is_known_step form ≡ true → asked form text ≡ Some it → apply_form on form ≡ Some next → Gives on next it
gives form text on next it knows read shaped = of it (subst (IsOf form) read (read_of form text knows))
  where
    of : (it : Result Asked Refusal) → IsOf form (Some it) → Gives on next it
    of (Ok (by s)) is = (ap (apply_form on) is ∙ shaped, ap is_known_step is ∙ knows)
    of (Ok _) is = absurd is
    of (Err why) is = tt

-- a step that is kept gives the shape that it gives as it is asked for, and stands for as many steps
apply_kept : (world : World) (view : View) (it : Step) (on : Shape) → apply on (kept world view it) ≡ apply on it
apply_kept world view (step.Within order w) on = refl
apply_kept world view _ on = refl

steps_kept : (world : World) (view : View) (it : Step) → steps_in (kept world view it) ≡ steps_in it
steps_kept world view (step.Within order w) = refl
steps_kept world view _ = refl

-- a view of a known step has the shape that the step gives, and one step more leads there
pub record IsOver (world : World) (view made : View) (next : Shape) : Type 0 where
  pub shape : shape_at world made ≡ next
  pub longer : path made ≡ path view + 1

pub over_is : (world : World) (view made : View) (it : Result Asked Refusal) (next : Shape) → Gives (shape_at world view) next it → step_over world 0 view it ≡ a_view made → IsOver world view made next
over_is world view made (Err why) next given e = cc
over_is world view made (Ok (by it)) next given e = of _ e
  where
    of : (o : Option Refusal) → unless o (over (kept world view it) view) ≡ a_view made → IsOver world view made next
    of (Some why) e = cc
    of None e =
        let same : made ≡ over (kept world view it) view = cc in
        record {
          shape = ap (shape_at world) same ∙ ap (shape_after (shape_at world view)) (apply_kept world view it (shape_at world view) ∙ given.0);
          longer = ap path same ∙ ap (λ n. path view + n) (steps_kept world view it ∙ one_step it given.1);
        }
over_is world view made (Ok _) next given e = absurd given

-- ---- the words

-- a name stands for what it stood for where only nodes were added
bound_more : (nodes more : List Made) (it : Held) → node_under it < length nodes → bound_at (nodes ++ more) it ≡ bound_at nodes it
bound_more nodes more (held.View n) lt = ap to_view (view_at-append nodes more n lt)
bound_more nodes more (held.Iterator seat) lt = ap (λ (v : View). to_iterator (record { view = v; seen = seat.seen; passed = seat.passed; given = has_given seat.stand })) (view_at-append nodes more seat.node lt)

pub named_more : (nodes more : List Made) (names : Entries) → NamesWithin (length nodes) names → named (nodes ++ more) names ≡ named nodes names
named_more nodes more [] h = refl
named_more nodes more (e ∷ names) h = λ i. (e.0, bound_more nodes more e.1 h.0 i) ∷ named_more nodes more names h.1 i

pub within_wider : (names : Entries) (n m : ℕ) → n ≤ m → NamesWithin n names → NamesWithin m names
within_wider [] n m le h = tt
within_wider (e ∷ names) n m le h = let old : node_under e.1 < n = h.0 in (omega (arith, old, le), within_wider names n m le h.1)

module _ (names : Entries) (purpose : Purpose) (s : Stored) (number node : ℕ) (part : Part) (parts : List Part) where
  abbrev on : Shape
  on = shape_at s.world (view_in s node)

  abbrev word : Result Meaning Fault
  word = typed_word known s.world (named s.nodes names) purpose (is_last parts) on part

  abbrev rest : Shape → Result Typing Fault
  rest next = typed_words known s.world (named s.nodes names) purpose next parts

  -- where what is left leads, by what its first word does
  by_word : (m : Result Meaning Fault) → word ≡ m → target_in s number names purpose node (part ∷ parts) ≡ reach s.world number (view_in s node) (go_on on rest m)
  by_word m e = ap (λ (x : Result Meaning Fault). reach s.world number (view_in s node) (go_on on rest x)) e

  pub on_fault : (fault : Fault) → word ≡ Err fault → target_in s number names purpose node (part ∷ parts) ≡ Err fault
  on_fault fault e = by_word (Err fault) e

  pub on_end : (ending : Ending) → word ≡ Ok (ends ending) → target_in s number names purpose node (part ∷ parts) ≡ Ok (leads (view_in s node) ending)
  on_end ending e = by_word (Ok (ends ending)) e

  pub on_refused : (it : Result Asked Refusal) (next : Shape) (why : Refusal) → word ≡ Ok (steps_to it next) → step_over s.world number (view_in s node) it ≡ refused why → IsOk (target_in s number names purpose node (part ∷ parts))
      → target_in s number names purpose node (part ∷ parts) ≡ Ok (stops why)
  on_refused it next why e stopped ok = by_word (Ok (steps_to it next)) e ∙ by_rest (rest next) (subst (λ (x : Result Target Fault). IsOk x) (by_word (Ok (steps_to it next)) e) ok)
    where
      by_rest : (t : Result Typing Fault) → IsOk (reach s.world number (view_in s node) (before it t)) → reach s.world number (view_in s node) (before it t) ≡ Ok (stops why)
      by_rest (Err fault) ok = cc
      by_rest (Ok t) ok = ap (λ (r : Outcome). Ok (with_ending t.ending (and_then (λ v. made s.world (number + 1) v t.steps) r))) stopped

  pub on_step : (now : Stored) (it : Result Asked Refusal) (next : Shape) (new : ℕ) → NamesWithin (length s.nodes) names → word ≡ Ok (steps_to it next) → Gives on next it → Stepped s now node it new
      → target_in s number names purpose node (part ∷ parts) ≡ target_in now (number + 1) names purpose new parts
  on_step now it next new within e given h =
      by_word (Ok (steps_to it next)) e ∙ by_rest (rest next)
      ∙ ap (λ (x : Shape). reach s.world (number + 1) (view_in now new) (rest x)) (sym above.shape)
      ∙ (λ i. target (worlds i) (views i) (number + 1) purpose (view_in now new) parts)
    where
      above : IsOver s.world (view_in s node) (view_in now new) next
      above = over_is s.world (view_in s node) (view_in now new) it next given (h.view 0)

      by_rest : (t : Result Typing Fault) → reach s.world number (view_in s node) (before it t) ≡ reach s.world (number + 1) (view_in now new) t
      by_rest (Err fault) = refl
      by_rest (Ok t) = ap (λ (r : Outcome). Ok (with_ending t.ending (and_then (λ v. made s.world (number + 1) v t.steps) r))) (h.view number)

      worlds : s.world ≡ now.world
      worlds = sym (ap (λ (x : Stored). x.world) h.grown)

      views : named s.nodes names ≡ named now.nodes names
      views = sym (ap (λ (x : Stored). named x.nodes names) h.grown ∙ named_more s.nodes (h.added ∷ []) names within)

-- ---- what the loop keeps

pub target_ok : (world : World) (number : ℕ) (view : View) (t : Result Typing Fault) → IsOk t → IsOk (reach world number view t)
target_ok world number view (Err fault) ok = cc
target_ok world number view (Ok t) ok = ok

pub followed_start : (names : Entries) (purpose : Purpose) (s : Stored) (head : ℕ) (parts : List Part) → head < length s.nodes → length s.nodes ≡ s.lasting → Followed names purpose s s head head parts parts
followed_start names purpose s head parts lt still = record { world = refl; front = refl; within = omega arith; stands = lt; room = omega arith; number = s.handles; same = refl }

-- the names stand for nodes that are there
pub names_in : (names : Entries) (purpose : Purpose) (first s : Stored) (head node : ℕ) (all rest : List Part) → Followed names purpose first s head node all rest → NamesWithin first.lasting names → NamesWithin (length s.nodes) names
names_in names purpose first s head node all rest f within = within_wider names first.lasting (length s.nodes) (let same : s.lasting ≡ first.lasting = ap (λ (x : Stored). x.lasting) f.front in let le : s.lasting ≤ length s.nodes = f.within in omega (arith, same, le)) within

module _ (names : Entries) (purpose : Purpose) (first s : Stored) (head node : ℕ) (all : List Part) (part : Part) (parts : List Part) (f : Followed names purpose first s head node all (part ∷ parts)) where
  -- what is left has no fault where all words have none
  pub left_ok : IsOk (typed_words known first.world (named first.nodes names) purpose (shape_at first.world (view_in first head)) all) → IsOk (target_in s f.number names purpose node (part ∷ parts))
  left_ok ok = subst (λ (x : Result Target Fault). IsOk x) f.same (target_ok first.world first.handles (view_in first head) (typed_words known first.world (named first.nodes names) purpose (shape_at first.world (view_in first head)) all) ok)

  pub followed_more : (now : Stored) (it : Result Asked Refusal) (next : Shape) (new : ℕ) → NamesWithin first.lasting names → typed_word known s.world (named s.nodes names) purpose (is_last parts) (shape_at s.world (view_in s node)) part ≡ Ok (steps_to it next)
      → Gives (shape_at s.world (view_in s node)) next it → Stepped s now node it new → Followed names purpose first now head new all parts
  followed_more now it next new within e given h = record {
    world = ap (λ (x : Stored). x.world) h.grown ∙ f.world;
    front = ap without_temporary h.grown ∙ (λ i. record { world = s.world; nodes = fronts i; lasting = s.lasting; handles = s.handles }) ∙ f.front;
    within = let le : s.lasting ≤ length s.nodes = f.within in omega (arith, lasts, grows, le);
    stands = omega (arith, h.number, grows);
    room = let le : length s.nodes ≤ s.lasting + path (view_in s node) = f.room in omega (arith, lasts, grows, le, above.longer);
    number = f.number + 1;
    same = f.same ∙ on_step names purpose s f.number node part parts now it next new (names_in names purpose first s head node all (part ∷ parts) f within) e given h;
  }
    where
      above : IsOver s.world (view_in s node) (view_in now new) next
      above = over_is s.world (view_in s node) (view_in now new) it next given (h.view 0)

      lasts : now.lasting ≡ s.lasting
      lasts = ap (λ (x : Stored). x.lasting) h.grown

      grows : length now.nodes ≡ length s.nodes + 1
      grows = ap (λ (x : Stored). length x.nodes) h.grown ∙ length-append s.nodes (h.added ∷ [])

      fronts : take s.lasting (s.nodes ++ h.added ∷ []) ≡ take s.lasting s.nodes
      fronts = let le : s.lasting ≤ length s.nodes = f.within in take-append-le s.lasting s.nodes (h.added ∷ []) le

-- ---- a turn of the loop

abbrev pub behind : List Placed → List Placed
behind rest = take (length rest - 1) (drop 1 rest)

-- a list that has an element is its first one and what is behind it
pub first_behind : (rest : List Placed) (part : Placed) → 1 ≤ length rest → part ≡ get_or rest 0 part → rest ≡ part ∷ behind rest
first_behind [] part le e = absurd (omega arith)
first_behind (p ∷ ps) part le e = let same : p ≡ part = sym e in λ i. same i ∷ all i
  where
    all : ps ≡ behind (p ∷ ps)
    all = sym (ap (λ (n : ℕ). take n ps) (let e : length (p ∷ ps) - 1 ≡ length ps = omega arith in e) ∙ take_whole ps)

pub empty_is : (line : List ℕ) (ps : List Placed) → (length ps == 0) ≡ is_last (parts_in line ps)
empty_is line [] = refl
empty_is line (p ∷ ps) = grind (arith, nat_tests)

-- what is known where a word was typed
pub record IsAt (names : Entries) (purpose : Purpose) (first s : Stored) (head node : ℕ) (all : List Part) (line : List ℕ) (rest : List Placed) (part : Placed) (on : Shape) (r : Result Typed Fault) : Type 0 where
  pub within : NamesWithin first.lasting names
  pub ok : IsOk (typed_words known first.world (named first.nodes names) purpose (shape_at first.world (view_in first head)) all)
  pub followed : Followed names purpose first s head node all (parts_in line rest)
  pub there : 1 ≤ length rest
  pub item : part ≡ get_or rest 0 part
  pub shape : on ≡ shape_at s.world (view_in s node)
  pub meant : meant_in s (text_at (part_in line part).args 0) r ≡ typed_word known s.world (named s.nodes names) purpose (length (behind rest) == 0) on (part_in line part)
  pub typed : IfOk r (λ it. IsTyped s on (text_at (part_in line part).args 0) it)

module _ (names : Entries) (purpose : Purpose) (first s : Stored) (head node : ℕ) (all : List Part) (line : List ℕ) (rest : List Placed) (part : Placed) (on : Shape) (r : Result Typed Fault) (at : IsAt names purpose first s head node all line rest part on r) where
  -- the words lead to a refusal, and nothing changed
  pub record IsRefused (now : Stored) (why : Refusal) : Type 0 where
    pub same : now ≡ s
    pub led : target_in first first.handles names purpose head all ≡ Ok (stops why)
    pub said : why ≢ NoMemory

  whole : Followed names purpose first s head node all (part_in line part ∷ parts_in line (behind rest))
  whole = subst (λ (ps : List Placed). Followed names purpose first s head node all (parts_in line ps)) (first_behind rest part at.there at.item) at.followed

  abbrev text : List ℕ
  text = text_at (part_in line part).args 0

  word_is : (it : Result Typed Fault) → r ≡ it → typed_word known s.world (named s.nodes names) purpose (is_last (parts_in line (behind rest))) (shape_at s.world (view_in s node)) (part_in line part) ≡ meant_in s text it
  word_is it e =
      sym (λ i. typed_word known s.world (named s.nodes names) purpose (empty_is line (behind rest) i) (at.shape i) (part_in line part)) ∙ sym at.meant ∙ ap (meant_in s text) e

  module _ (form : StepForm) (next : Shape) (e : r ≡ Ok (typed.Step form next)) where
    step_is : IsTyped s on text (typed.Step form next)
    step_is = subst (λ (x : Result Typed Fault). IfOk x (λ it. IsTyped s on text it)) e at.typed

    -- views of the node have the step
    pub has_step : IsSome (apply_form (shape_at s.world (view_in s node)) form)
    has_step = ap is_some (ap (λ (x : Shape). apply_form x form) (sym at.shape) ∙ step_is.0)

    pub knows_step : is_known_step form ≡ true
    knows_step = step_is.2

    step_read : (it : Result Asked Refusal) → asked form text ≡ Some it → typed_word known s.world (named s.nodes names) purpose (is_last (parts_in line (behind rest))) (shape_at s.world (view_in s node)) (part_in line part) ≡ Ok (steps_to it next)
    step_read it read = word_is (Ok (typed.Step form next)) e ∙ ap (λ (o : Option (Result Asked Refusal)). a_step o (Some next)) read

    step_gives : (it : Result Asked Refusal) → asked form text ≡ Some it → Gives (shape_at s.world (view_in s node)) next it
    step_gives it read = gives form text (shape_at s.world (view_in s node)) next it knows_step read (ap (λ (x : Shape). apply_form x form) (sym at.shape) ∙ step_is.0)

    pub at_step : (now : Stored) (a : List ℕ) (new : ℕ) → a ≡ text → IfSome (asked form a) (λ it. Steps s now node it (Ok new)) → Followed names purpose first now head new all (parts_in line (behind rest))
    at_step now a new same h = of (asked form text) refl step_is.1 (subst (λ (x : List ℕ). IfSome (asked form x) (λ it. Stepped s now node it new)) same h)
      where
        of : (o : Option (Result Asked Refusal)) → asked form text ≡ o → IsSome o → IfSome o (λ it. Stepped s now node it new) → Followed names purpose first now head new all (parts_in line (behind rest))
        of None read some h = cc
        of (Some it) read some h = followed_more names purpose first s head node all (part_in line part) (parts_in line (behind rest)) whole now it next new at.within (step_read it read) (step_gives it read) h

    pub at_refused : (now : Stored) (a : List ℕ) (why : Refusal) → a ≡ text → IfSome (asked form a) (λ it. Steps s now node it (Err why)) → IsRefused now why
    at_refused now a why same h = of (asked form text) refl step_is.1 (subst (λ (x : List ℕ). IfSome (asked form x) (λ it. Steps s now node it (Err why))) same h)
      where
        of : (o : Option (Result Asked Refusal)) → asked form text ≡ o → IsSome o → IfSome o (λ it. Steps s now node it (Err why)) → IsRefused now why
        of None read some h = cc
        of (Some it) read some h = record {
          same = h.0;
          led = whole.same ∙ on_refused names purpose s whole.number node (part_in line part) (parts_in line (behind rest)) it next why (step_read it read) (h.1 whole.number) (left_ok names purpose first s head node all (part_in line part) (parts_in line (behind rest)) whole at.ok);
          said = h.2;
        }

  pub at_end : (it : Typed) (ending : Ending) → r ≡ Ok it → meaning_in s text it ≡ Ok (ends ending) → target_in first first.handles names purpose head all ≡ Ok (leads (view_in s node) ending)
  at_end it ending e is = whole.same ∙ on_end names purpose s whole.number node (part_in line part) (parts_in line (behind rest)) ending (word_is (Ok it) e ∙ is)

  -- words without a fault have none
  pub at_fault : (fault : Fault) → r ≡ Err fault → ⊥
  at_fault fault e =
      let ok : IsOk (target_in s whole.number names purpose node (part_in line part ∷ parts_in line (behind rest))) = left_ok names purpose first s head node all (part_in line part) (parts_in line (behind rest)) whole at.ok in
      let no = subst (λ (x : Result Target Fault). IsOk x) (on_fault names purpose s whole.number node (part_in line part) (parts_in line (behind rest)) fault (word_is (Err fault) e)) ok in
      cc

-- ---- the calls at an end

module _ (s : Stored) (node : ℕ) (on : Shape) (text : List ℕ) (r : Result Typed Fault) (stands : node < length s.nodes) (shape : on ≡ shape_at s.world (view_in s node)) (given : IfOk r (λ it. IsTyped s on text it)) where
  -- the node's view has the call that was typed on its shape
  pub end_call : (call : Call) → r ≡ Ok (typed.Call call) → IsEnd s (Ok (end.Call node call))
  end_call call e = let had : IsTyped s on text (typed.Call call) = subst (λ (x : Result Typed Fault). IfOk x (λ it. IsTyped s on text it)) e given in (stands, ap (λ (x : Shape). fits x call) (sym shape) ∙ had.0, had.1)

  pub end_with : (word : OnOther) (other : ℕ) → r ≡ Ok (typed.With word other) → IsEnd s (Ok (end.With node word other))
  end_with word other e =
      let had : IsTyped s on text (typed.With word other) = subst (λ (x : Result Typed Fault). IfOk x (λ it. IsTyped s on text it)) e given in
      (stands, had.0, ap (λ (x : Shape). fits_with x word (shape_at s.world (view_in s other))) (sym shape) ∙ had.1, had.2)
