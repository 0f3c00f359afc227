-- A call with the view of a name, and calls with arguments that were read.
use Rattle.std.proofs.Common.{◌≡◌, ◌∷◌, ℕ, Bool, true, List, Option, None, Some, IfSome, IsSome, Result, Ok, Err, cond, refl, sym, ◌∙◌, ap, subst}
use Rattle.std.specs.Map.{lookup}
use Rattle.std.specs.Option.{option_map, option_and_then}
use Rattle.base_store.specs.declared.store.Made.{Made}
use Rattle.base_store.specs.Nodes.{view_at}
use Rattle.elem.specs.declared.elements.Elem.{Elem}
use Rattle.elem.specs.Spelling.{elem_of}
use Rattle.vocabulary.specs.declared.calls.Call.{Call}
use Rattle.vocabulary.specs.declared.calls.Call.TheVariants as call
use Rattle.vocabulary.specs.declared.calls.CallForm.{CallForm}
use Rattle.vocabulary.specs.declared.calls.CallForm.TheVariants as form
use Rattle.vocabulary.specs.declared.calls.OnElement.{OnElement}
use Rattle.vocabulary.specs.declared.calls.OnElement.TheVariants as element
use Rattle.vocabulary.specs.declared.calls.OnIndex.{OnIndex}
use Rattle.vocabulary.specs.declared.calls.OnIndexed.{OnIndexed}
use Rattle.vocabulary.specs.declared.calls.OnOther.{OnOther}
use Rattle.vocabulary.specs.declared.calls.OnPair.{OnPair}
use Rattle.vocabulary.specs.declared.lines.Fault.{Fault}
use Rattle.vocabulary.specs.declared.lines.Fault.TheVariants as fault
use Rattle.vocabulary.specs.declared.refusals.Refusal.{Refusal}
use Rattle.vocabulary.specs.declared.shapes.Shape.{Shape}
use Rattle.vocabulary.specs.Fits.{fits, fits_with}
use Rattle.vocabulary.specs.Known.{form_of_call, is_known_call}
use Rattle.machine.specs.Arguments.{index_in, name_in}
use Rattle.machine.specs.Bases.{World}
use Rattle.machine.specs.CallArguments.{element_in}
use Rattle.machine.specs.Making.{Asked}
use Rattle.machine.specs.Languages.{known}
use Rattle.machine.specs.Parts.{Part}
use Rattle.vocabulary.specs.declared.lines.Purpose.{Purpose}
use Rattle.machine.specs.Meanings.{Meaning, typed_word, an_end, call_typed, call_with, calls, calls_with, ends, fitting, if_fits, view_bound, view_named}
use Rattle.machine.specs.State.{Names, named as bound_to}
use Rattle.machine.specs.Typing.{Typing, before, go_on, is_last, typed_words}
use Rattle.machine.specs.Views.{shape_at}
use Rattle.session.specs.declared.bound.Bound.{Bound as Held}
use Rattle.session.specs.declared.bound.Bound.TheVariants as held
use Rattle.session.specs.Environment.{Entries, bound_at, named}
use Rattle.session.specs.Following.{HasCalls, a_call, a_step}
use Rattle.session.specs.Targets.{shape_of}
use Rattle.session.proofs.NameLemmas.{named_bound, same_text}

module _ (world : World) (nodes : List Made) (names : Entries) (on : Shape) (word : OnOther) where
  abbrev by_text : List ℕ → Result Meaning Fault
  by_text text = if_fits (call_with world on word) (view_named (named nodes names) text)

  pub no_name : (text : List ℕ) → (let none : Option (List ℕ) = None in none) ≡ name_in text → Err fault.Call ≡ by_text text
  no_name text is = ap (λ (o : Option (List ℕ)). if_fits (call_with world on word) (if_fits (λ name. view_bound (bound_to (named nodes names) name)) (fitting o))) is

  module _ (name text : List ℕ) (is : Some name ≡ name_in text) where
    by_name : (found : Option Held) → lookup (same_text name) names ≡ found → if_fits (call_with world on word) (view_bound (option_map (bound_at nodes) found)) ≡ by_text text
    by_name found e =
        ap (λ o. if_fits (call_with world on word) (view_bound o)) (sym (named_bound nodes names name ∙ ap (option_map (bound_at nodes)) e))
        ∙ ap (λ (o : Option (List ℕ)). if_fits (call_with world on word) (if_fits (λ name. view_bound (bound_to (named nodes names) name)) (fitting o))) is

    pub name_unbound : lookup (same_text name) names ≡ None → Err fault.Name ≡ by_text text
    name_unbound e = by_name None e

    -- an iterator is no view
    pub name_iterates : (it : Held) → lookup (same_text name) names ≡ Some it → ((n : ℕ) → it ≡ held.View n → ⊥) → Err fault.Call ≡ by_text text
    name_iterates (held.View n) e never = absurd (never n refl)
    name_iterates (held.Iterator seat) e never = by_name (Some (held.Iterator seat)) e

    pub name_bound : (n : ℕ) (b : Bool) (shape : Shape) → lookup (same_text name) names ≡ Some (held.View n) → b ≡ fits_with on word shape → shape ≡ shape_at world (view_at nodes n)
        → cond b (Ok (ends (calls_with word (view_at nodes n)))) (Err fault.Call) ≡ by_text text
    name_bound n b shape e fits of =
        ap (λ (x : Bool). an_end x (calls_with word (view_at nodes n))) (fits ∙ ap (fits_with on word) of) ∙ by_name (Some (held.View n)) e

-- ---- calls with arguments that were read

-- a call that was made of arguments, or not
abbrev ends_in : Option (Result Call Refusal) → Result Meaning Fault
ends_in it = if_fits (λ x. an_end true (calls x)) (fitting it)

one_meant : {X : Type 0} (make : X → Call) (x : Option X) → a_call (option_map make x) ≡ ends_in (option_map (λ y. Ok (make y)) x)
one_meant make None = refl
one_meant make (Some x) = refl

two_meant : {X Y : Type 0} (make : X → Y → Call) (x : Option X) (y : Option Y) → a_call (option_and_then (λ x. option_map (make x) y) x) ≡ ends_in (option_and_then (λ x. option_map (λ y. Ok (make x y)) y) x)
two_meant make None y = refl
two_meant make (Some x) y = one_meant (make x) y

-- a known call reads its element as any other
element_read : (word : OnElement) (text : List ℕ) → is_known_call (form.Element word) ≡ true → element_in word text ≡ elem_of text
element_read element.Covers text h = absurd (cc)
element_read element.RangeAt text h = absurd (cc)
element_read element.RangeValue text h = absurd (cc)
element_read _ text h = refl

module _ (world : World) (names : Names) (on : Shape) (a b c : List ℕ) where
  pub element_meant : (word : OnElement) → is_known_call (form.Element word) ≡ true → a_call (option_map (λ x. call.Element word x) (elem_of a)) ≡ call_typed world names on (form.Element word) a b c
  element_meant word h = one_meant (λ x. call.Element word x) (elem_of a) ∙ ap (λ (o : Option Elem). ends_in (option_map (λ x. Ok (call.Element word x)) o)) (sym (element_read word a h))

  pub index_meant : (word : OnIndex) → a_call (option_map (λ i. call.Index word i) (index_in a)) ≡ call_typed world names on (form.Index word) a b c
  index_meant word = one_meant (λ i. call.Index word i) (index_in a)

  pub indexed_meant : (word : OnIndexed) → a_call (option_and_then (λ i. option_map (λ x. call.Indexed word i x) (elem_of b)) (index_in a)) ≡ call_typed world names on (form.Indexed word) a b c
  indexed_meant word = two_meant (λ i x. call.Indexed word i x) (index_in a) (elem_of b)

  pub pair_meant : (word : OnPair) → a_call (option_and_then (λ k. option_map (λ v. call.Pair word k v) (elem_of b)) (elem_of a)) ≡ call_typed world names on (form.Pair word) a b c
  pair_meant word = two_meant (λ k v. call.Pair word k v) (elem_of a) (elem_of b)

-- a call with arguments that were read is a known one that views of the shape have, where they have all calls of its form
module _ (on : Shape) (form : CallForm) (had : HasCalls on form) (known : is_known_call form ≡ true) where
  abbrev Had : Option Call → Type 0
  Had it = IfSome it (λ c. (fits on c ≡ true) × (is_known_call (form_of_call c) ≡ true))

  had_one : {X : Type 0} (make : X → Call) → ((x : X) → form_of_call (make x) ≡ form) → (x : Option X) → Had (option_map make x)
  had_one make is None = tt
  had_one make is (Some x) = (had (make x) (is x), ap is_known_call (is x) ∙ known)

  had_two : {X Y : Type 0} (make : X → Y → Call) → ((x : X) (y : Y) → form_of_call (make x y) ≡ form) → (x : Option X) (y : Option Y) → Had (option_and_then (λ x. option_map (make x) y) x)
  had_two make is None y = tt
  had_two make is (Some x) y = had_one (make x) (is x) y

  pub one_had : {X : Type 0} (make : X → Call) → ((x : X) → form_of_call (make x) ≡ form) → (x : Option X) (it : Option Call) → it ≡ option_map make x → Had it
  one_had make is x it e = subst Had (sym e) (had_one make is x)

  pub two_had : {X Y : Type 0} (make : X → Y → Call) → ((x : X) (y : Y) → form_of_call (make x y) ≡ form) → (x : Option X) (y : Option Y) (it : Option Call) → it ≡ option_and_then (λ x. option_map (make x) y) x → Had it
  two_had make is x y it e = subst Had (sym e) (had_two make is x y)

-- a step before the rest leaves the shape to which this leads, or its fault
pub shape_before : (it : Result Asked Refusal) (t : Result Typing Fault) → shape_of (before it t) ≡ shape_of t
shape_before it (Err why) = refl
shape_before it (Ok t) = refl

pub ruleset typing = shape_before

-- words lead where those behind their first word do, which is a step
pub shape_behind : (world : World) (names : Names) (for : Purpose) (on next : Shape) (part : Part) (parts : List Part) (it : Option (Result Asked Refusal)) → IsSome it → typed_word known world names for (is_last parts) on part ≡ a_step it (Some next)
    → shape_of (typed_words known world names for on (part ∷ parts)) ≡ shape_of (typed_words known world names for next parts)
shape_behind world names for on next part parts None some e = cc
shape_behind world names for on next part parts (Some it) some e = ap (λ (m : Result Meaning Fault). shape_of (go_on on (λ x. typed_words known world names for x parts) m)) e ∙ shape_before it (typed_words known world names for next parts)
