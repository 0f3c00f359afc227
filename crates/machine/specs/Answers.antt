-- What a call answers, by the items that its view shows.
use Rattle.std.specs.Prelude.{ℕ, min, Bool, not, ◌&&◌, nat_eq, if◌then◌else◌, List, length, map, find, Option, None, Some, is_some}
use Rattle.std.specs.List.{list_any, list_all, position}
use Rattle.std.specs.Option.{option_map}
use Rattle.std.specs.Cmp.Lexicographic.{pointwise}
use Rattle.elem.specs.declared.elements.Elem.{Elem}
use Rattle.vocabulary.specs.declared.answers.Answer.{Answer}
use Rattle.vocabulary.specs.declared.answers.Answer.TheVariants as answer
use Rattle.vocabulary.specs.declared.calls.Ask.{Ask}
use Rattle.vocabulary.specs.declared.calls.Ask.TheVariants.{Size, IsEmpty, Clear, First, Last, FirstKey, LastKey, FirstEntry, LastEntry, SpanOf}
use Rattle.vocabulary.specs.declared.calls.OnElement.{OnElement}
use Rattle.vocabulary.specs.declared.calls.OnElement.TheVariants.{Contains, Add, Remove, IndexOf, ValueOf, ContainsKey, ContainsColumn, ContainsValue, RemoveKey, RemoveGroup, RemoveValues, Count, Covers, RangeAt, RangeValue, Degree, InDegree, OutDegree, AddNode, RemoveNode}
use Rattle.vocabulary.specs.declared.calls.OnCounted.{OnCounted}
use Rattle.vocabulary.specs.declared.calls.OnCounted.TheVariants.{ContainsCounted, RemoveCounted}
use Rattle.vocabulary.specs.declared.calls.OnIndexed.TheVariants.{AddAt, SetAt}
use Rattle.vocabulary.specs.declared.calls.OnPair.{OnPair}
use Rattle.vocabulary.specs.declared.calls.OnPair.TheVariants.{Put, ForcePut, PutPair, ContainsEntry, RemoveEntry, ValueAt, ContainsAt, RemoveAtCell, HasEdge, EdgeValue, RemoveEdge, ContainsEnds, RemoveEnds}
use Rattle.vocabulary.specs.declared.calls.OnTriple.TheVariants.{PutCell, ContainsCell, RemoveCell, PutEdge}
use Rattle.vocabulary.specs.declared.calls.OnOther.{OnOther}
use Rattle.vocabulary.specs.declared.calls.OnOther.TheVariants.{ContainsAll, AddAll, RemoveAll, RetainAll, PutAll, Equals, AddSpans, RemoveSpans}
use Rattle.vocabulary.specs.declared.calls.OnValues.{OnValues}
use Rattle.vocabulary.specs.declared.calls.OnValues.TheVariants.{PutValues, ReplaceValues}
use Rattle.vocabulary.specs.declared.calls.Call.{Call}
use Rattle.vocabulary.specs.declared.calls.Call.TheVariants as call
use Rattle.vocabulary.specs.declared.items.Item.{Item}
use Rattle.vocabulary.specs.declared.items.Item.TheVariants.{One, Entry, Counted, Cell}
use Rattle.vocabulary.specs.declared.shapes.Shape.{Shape}
use Rattle.vocabulary.specs.declared.shapes.Shape.TheVariants as shape
use Rattle.machine.specs.GraphAnswers.{degree, edge_value, is_ends}
use Rattle.machine.specs.Graphs.{has_node}
use Rattle.machine.specs.RangeAnswers.{span_answer, span_value_answer}
use Rattle.machine.specs.RangeViews.{holds_unit, span_of, unit_of}
use Rattle.machine.specs.Shown.{cell_shown, first_shown, has_column, has_key, has_value, is_at, is_empty, is_shown, item_shown, last_shown, times_shown, value_shown, values_shown}
use Rattle.vocabulary.specs.Items.{key_of, same_item, value_of}
use Rattle.vocabulary.specs.Limits.{most_count}
use Rattle.vocabulary.specs.Shapes.{has_each_once, is_bag, is_directed}

-- an item's element, which is its key; a call that has no item to tell is refused before it answers
abbrev pub element_of : Option Item → Answer
element_of None = answer.Done
element_of (Some item) = answer.Element (key_of item)

-- how many items there are; a bag stops counting at the greatest count
abbrev pub size_of : Shape → ℕ → ℕ
size_of of n = if is_bag of then min n most_count else n

-- an element of a bag with its count, where there is one
abbrev pub counted_of : List Item → Option Item → Option Item
counted_of items None = None
counted_of items (Some item) = Some (Counted (key_of item) (times_shown items item))

abbrev pub ask_answer : Shape → Ask → List Item → Answer
ask_answer of Size items = answer.Number (size_of of (length items))
ask_answer of IsEmpty items = answer.Truth (is_empty items)
ask_answer of Clear items = answer.Done
ask_answer of First items = element_of (first_shown items)
ask_answer of Last items = element_of (last_shown items)
ask_answer of FirstKey items = element_of (first_shown items)
ask_answer of LastKey items = element_of (last_shown items)
ask_answer of FirstEntry items = answer.Row (counted_of items (first_shown items))
ask_answer of LastEntry items = answer.Row (counted_of items (last_shown items))
ask_answer of SpanOf items = answer.Row (span_of items)

-- an addition tells whether it was one: where equal items stand once, it is none of what is shown
abbrev pub is_added : Shape → List Item → Item → Bool
is_added of items item = not (has_each_once of && is_shown items item)

abbrev pub element_answer : Shape → OnElement → Elem → List Item → Answer
element_answer of Contains x items = answer.Truth (is_shown items (One x))
element_answer of Add x items = answer.Truth (is_added of items (One x))
element_answer of Remove x items = answer.Truth (is_shown items (One x))
element_answer of IndexOf x items = answer.Index (position (same_item (One x)) items)
element_answer of ValueOf k items = answer.Optional (value_shown items k)
element_answer of ContainsKey k items = answer.Truth (list_any (has_key k) items)
element_answer of ContainsColumn c items = answer.Truth (list_any (has_column c) items)
element_answer of ContainsValue v items = answer.Truth (list_any (has_value v) items)
element_answer of RemoveKey k items = answer.Optional (value_shown items k)
element_answer of RemoveGroup k items = answer.Done
element_answer of RemoveValues k items = answer.Values (values_shown items k)
element_answer of Count x items = answer.Number (times_shown items (One x))
element_answer of Covers x items = answer.Truth (list_any (holds_unit (unit_of x)) items)
element_answer of RangeAt x items = answer.Row (find (holds_unit (unit_of x)) items)
element_answer of RangeValue x items = answer.Optional (option_map value_of (find (holds_unit (unit_of x)) items))
element_answer of AddNode a items = answer.Truth (not (has_node a items))
element_answer of RemoveNode a items = answer.Truth (has_node a items)
element_answer of Degree a items = answer.Number (degree (is_directed of) Degree a items)
element_answer of InDegree a items = answer.Number (degree (is_directed of) InDegree a items)
element_answer of OutDegree a items = answer.Number (degree (is_directed of) OutDegree a items)

abbrev pub counted_answer : OnCounted → Elem → Option ℕ → List Item → Answer
counted_answer ContainsCounted x (Some n) items = answer.Truth (is_shown items (Counted x n))
counted_answer RemoveCounted x (Some n) items = answer.Truth (is_shown items (Counted x n))
counted_answer word x n items = answer.Number (times_shown items (One x))

abbrev pub pair_answer : Shape → OnPair → Elem → Elem → List Item → Answer
pair_answer of Put k v items = answer.Optional (value_shown items k)
pair_answer of ForcePut k v items = answer.Optional (value_shown items k)
pair_answer of PutPair k v items = answer.Truth (is_added of items (Entry k v))
pair_answer of ContainsEntry k v items = answer.Truth (is_shown items (Entry k v))
pair_answer of RemoveEntry k v items = answer.Truth (is_shown items (Entry k v))
pair_answer of ValueAt r c items = answer.Optional (cell_shown items r c)
pair_answer of ContainsAt r c items = answer.Truth (list_any (is_at r c) items)
pair_answer of RemoveAtCell r c items = answer.Optional (cell_shown items r c)
pair_answer of HasEdge a b items = answer.Truth (is_some (edge_value (is_directed of) a b items))
pair_answer of EdgeValue a b items = answer.Optional (edge_value (is_directed of) a b items)
pair_answer of RemoveEdge a b items = answer.Optional (edge_value (is_directed of) a b items)
pair_answer of ContainsEnds a b items = answer.Truth (list_any (is_ends (is_directed of) a b) items)
pair_answer of RemoveEnds a b items = answer.Truth (list_any (is_ends (is_directed of) a b) items)

-- the answer of a call on a view of a shape that shows these items; that of groups is told by what stands in them
abbrev pub answer_of : Shape → Call → List Item → Answer
answer_of of (call.Ask word) items = ask_answer of word items
answer_of of (call.Element word x) items = element_answer of word x items
answer_of of (call.Index word i) items = element_of (item_shown items i)
answer_of of (call.Indexed AddAt i x) items = answer.Done
answer_of of (call.Indexed SetAt i x) items = element_of (item_shown items i)
answer_of of (call.Counted word x n) items = counted_answer word x n items
answer_of of (call.Pair word k v) items = pair_answer of word k v items
answer_of of (call.Triple PutCell r c v) items = answer.Optional (cell_shown items r c)
answer_of of (call.Triple ContainsCell r c v) items = answer.Truth (is_shown items (Cell r c v))
answer_of of (call.Triple RemoveCell r c v) items = answer.Truth (is_shown items (Cell r c v))
answer_of of (call.Triple PutEdge a b v) items = answer.Optional (edge_value (is_directed of) a b items)
answer_of of (call.Span word s) items = span_answer word s items
answer_of of (call.SpanValue word s v) items = span_value_answer word s v items
answer_of of (call.Build word item) items = answer.Done

-- whether something is added: where equal items stand once, something that is not shown yet
abbrev pub adds_something : Shape → List Item → List Item → Bool
adds_something of items others = list_any (is_added of items) others

-- whether two views show the same: in a list or a range set in the same order, in a bag as often
abbrev pub as_often : List Item → List Item → Item → Bool
as_often items others item = nat_eq (times_shown items item) (times_shown others item)

abbrev pub are_equal : Shape → List Item → List Item → Bool
are_equal shape.List items others = pointwise same_item items others
are_equal shape.RangeSet items others = pointwise same_item items others
are_equal of items others = list_all (as_often items others) items && list_all (as_often items others) others

-- the answer of a call with another view, which shows the others
abbrev pub answer_with : Shape → OnOther → List Item → List Item → Answer
answer_with of ContainsAll items others = answer.Truth (list_all (is_shown items) others)
answer_with of AddAll items others = answer.Truth (adds_something of items others)
answer_with of RemoveAll items others = answer.Truth (list_any (is_shown others) items)
answer_with of RetainAll items others = answer.Truth (list_any (λ item. not (is_shown others item)) items)
answer_with of PutAll items others = answer.Done
answer_with of Equals items others = answer.Truth (are_equal of items others)
answer_with of AddSpans items others = answer.Done
answer_with of RemoveSpans items others = answer.Done

-- the pairs of a key with what another view shows
abbrev pub pairs_with : Elem → List Item → List Item
pairs_with k others = map (λ item. Entry k (key_of item)) others

-- the answer of a call with a key and another view
abbrev pub answer_for : Shape → OnValues → Elem → List Item → List Item → Answer
answer_for of PutValues k items others = answer.Truth (adds_something of items (pairs_with k others))
answer_for of ReplaceValues k items others = answer.Values (values_shown items k)
