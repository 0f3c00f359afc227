-- Calls as a line makes them, with the arguments that its texts are.
use Rattle.std.specs.Prelude.{ℕ, List, Option, None, Some, Result, Ok}
use Rattle.std.specs.Option.{option_map, option_and_then}
use Rattle.elem.specs.declared.build_kinds.BuildKind.TheVariants.{Multiset}
use Rattle.elem.specs.declared.elements.Elem.{Elem}
use Rattle.elem.specs.declared.spans.Span.{Span}
use Rattle.elem.specs.Spelling.{elem_of}
use Rattle.vocabulary.specs.declared.calls.Call.{Call}
use Rattle.vocabulary.specs.declared.calls.Call.TheVariants as call
use Rattle.vocabulary.specs.declared.calls.CallForm.{CallForm}
use Rattle.vocabulary.specs.declared.calls.CallForm.TheVariants as form
use Rattle.vocabulary.specs.declared.calls.OnBuilder.{OnBuilder}
use Rattle.vocabulary.specs.declared.calls.OnBuilder.TheVariants.{AddOne, AddCopies, PutEntry, PutCell, AddSpan, PutSpan}
use Rattle.vocabulary.specs.declared.calls.OnElement.{OnElement}
use Rattle.vocabulary.specs.declared.calls.OnElement.TheVariants.{Covers, RangeAt, RangeValue}
use Rattle.vocabulary.specs.declared.calls.OnSpan.{OnSpan}
use Rattle.vocabulary.specs.declared.calls.OnSpan.TheVariants.{ContainsSpan, DropSpan}
use Rattle.vocabulary.specs.declared.calls.OnSpanValue.{OnSpanValue}
use Rattle.vocabulary.specs.declared.calls.OnSpanValue.TheVariants.{ContainsSpanValue, DropSpanValue}
use Rattle.vocabulary.specs.declared.items.Item.{Item}
use Rattle.vocabulary.specs.declared.items.Item.TheVariants.{One, Entry, Counted, Cell, Range, RangeEntry}
use Rattle.vocabulary.specs.declared.refusals.Refusal.{Refusal}
use Rattle.vocabulary.specs.declared.shapes.Shape.{Shape}
use Rattle.vocabulary.specs.declared.shapes.Shape.TheVariants as shape
use Rattle.machine.specs.Arguments.{by_range, by_whole_range, index_in, whole_in}

-- what is made of two elements, and of three
abbrev pub by_two : {X : Type 0} → (Elem → Elem → X) → List ℕ → List ℕ → Option X
by_two make a b = option_and_then (λ x. option_map (λ y. make x y) (elem_of b)) (elem_of a)

abbrev pub by_three : {X : Type 0} → (Elem → Elem → Elem → X) → List ℕ → List ℕ → List ℕ → Option X
by_three make a b c = option_and_then (λ x. by_two (make x) b c) (elem_of a)

-- what is made of an element and a count
abbrev pub by_count : {X : Type 0} → (Elem → Option ℕ → X) → List ℕ → List ℕ → Option X
by_count make a b = option_and_then (λ x. option_map (λ n. make x n) (index_in b)) (elem_of a)

-- what is made of a range, as the first reads it, and an element
abbrev pub with_value : {X : Type 0} → ((Span → X) → List ℕ → Option (Result X Refusal)) → (Span → Elem → X) → List ℕ → List ℕ → Option (Result X Refusal)
with_value read make a b = option_and_then (λ v. read (λ range. make range v) a) (elem_of b)

-- ---- the arguments of some calls

-- where ranges are asked for the one at a number, it is a number
abbrev pub element_in : OnElement → List ℕ → Option Elem
element_in Covers text = whole_in text
element_in RangeAt text = whole_in text
element_in RangeValue text = whole_in text
element_in word text = elem_of text

-- among the rows of ranges any range is sought; all other ranges are of numbers
abbrev pub span_called : OnSpan → List ℕ → Option (Result Call Refusal)
span_called ContainsSpan text = by_range (λ range. call.Span ContainsSpan range) text
span_called DropSpan text = by_range (λ range. call.Span DropSpan range) text
span_called word text = by_whole_range (λ range. call.Span word range) text

abbrev pub span_value_called : OnSpanValue → List ℕ → List ℕ → Option (Result Call Refusal)
span_value_called ContainsSpanValue a b = with_value by_range (λ range v. call.SpanValue ContainsSpanValue range v) a b
span_value_called DropSpanValue a b = with_value by_range (λ range v. call.SpanValue DropSpanValue range v) a b
span_value_called word a b = with_value by_whole_range (λ range v. call.SpanValue word range v) a b

-- ---- the items of builders

-- an element as it is added to a builder of a shape: to that of a bag once
abbrev pub added : Shape → Elem → Item
added (shape.Builder Multiset) x = Counted x 1
added on x = One x

-- a call with an item
abbrev pub builds : OnBuilder → Item → Call
builds word item = call.Build word (Some item)

-- so many copies of an element; fewer than none are no item
abbrev pub copies : Elem → Option ℕ → Call
copies x n = call.Build AddCopies (option_map (λ m. Counted x m) n)

abbrev pub item_called : Shape → OnBuilder → List ℕ → List ℕ → List ℕ → Option (Result Call Refusal)
item_called on AddOne a b c = option_map (λ x. Ok (builds AddOne (added on x))) (elem_of a)
item_called on AddCopies a b c = by_count (λ x n. Ok (copies x n)) a b
item_called on PutEntry a b c = by_two (λ k v. Ok (builds PutEntry (Entry k v))) a b
item_called on PutCell a b c = by_three (λ r q v. Ok (builds PutCell (Cell r q v))) a b c
item_called on AddSpan a b c = by_whole_range (λ range. builds AddSpan (Range range)) a
item_called on PutSpan a b c = with_value by_whole_range (λ range v. builds PutSpan (RangeEntry range v)) a b

-- ---- all calls: one on a view of a shape with the arguments that three texts are, or the refusal of a range, where each
-- fits its kind; a call with another view takes a name in place of a text
abbrev pub call_asked : Shape → CallForm → List ℕ → List ℕ → List ℕ → Option (Result Call Refusal)
call_asked on (form.Ask word) a b c = Some (Ok (call.Ask word))
call_asked on (form.Element word) a b c = option_map (λ x. Ok (call.Element word x)) (element_in word a)
call_asked on (form.Index word) a b c = option_map (λ i. Ok (call.Index word i)) (index_in a)
call_asked on (form.Indexed word) a b c = option_and_then (λ i. option_map (λ x. Ok (call.Indexed word i x)) (elem_of b)) (index_in a)
call_asked on (form.Counted word) a b c = by_count (λ x n. Ok (call.Counted word x n)) a b
call_asked on (form.Pair word) a b c = by_two (λ k v. Ok (call.Pair word k v)) a b
call_asked on (form.Triple word) a b c = by_three (λ x y z. Ok (call.Triple word x y z)) a b c
call_asked on (form.Span word) a b c = span_called word a
call_asked on (form.SpanValue word) a b c = span_value_called word a b
call_asked on (form.Build word) a b c = item_called on word a b c
call_asked on (form.Other word) a b c = None
call_asked on (form.Values word) a b c = None
