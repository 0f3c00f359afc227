-- Why a call is refused before anything changes: a missing flag, the argument, an item that cannot be lifted.
use Rattle.std.specs.List.{list_any}
use Rattle.range_views.specs.declared.reach.Reach.{Reach}
use Rattle.std.specs.Prelude.{ℕ, Bool, not, ◌&&◌, nat_lt, nat_le, if◌then◌else◌, List, [], ◌∷◌, length, Option, None, Some, is_some}
use Rattle.std.specs.List.{list_all}
use Rattle.elem.specs.declared.elements.Elem.{Elem}
use Rattle.vocabulary.specs.declared.calls.Ask.{Ask}
use Rattle.vocabulary.specs.declared.calls.Ask.TheVariants.{First, Last, FirstKey, LastKey, SpanOf}
use Rattle.vocabulary.specs.declared.calls.OnCounted.{OnCounted}
use Rattle.vocabulary.specs.declared.calls.OnCounted.TheVariants.{AddSome, SetCount}
use Rattle.vocabulary.specs.declared.calls.OnElement.TheVariants.{Add, Degree, InDegree, OutDegree}
use Rattle.vocabulary.specs.declared.calls.OnIndexed.TheVariants.{AddAt, SetAt}
use Rattle.vocabulary.specs.declared.calls.OnPair.TheVariants.{Put, ForcePut, PutPair, EdgeValue}
use Rattle.vocabulary.specs.declared.calls.OnTriple.TheVariants.{PutCell}
use Rattle.vocabulary.specs.declared.calls.OnOther.{OnOther}
use Rattle.vocabulary.specs.declared.calls.OnOther.TheVariants.{AddAll, PutAll}
use Rattle.vocabulary.specs.declared.calls.OnValues.{OnValues}
use Rattle.vocabulary.specs.declared.calls.Call.{Call}
use Rattle.vocabulary.specs.declared.calls.Call.TheVariants as call
use Rattle.vocabulary.specs.declared.items.Item.{Item}
use Rattle.vocabulary.specs.declared.items.Item.TheVariants.{One, Entry, Cell}
use Rattle.vocabulary.specs.declared.refusals.Refusal.{Refusal}
use Rattle.vocabulary.specs.declared.refusals.Refusal.TheVariants.{IndexOutOfBounds, NoSuchElement, UnsupportedOperation, IllegalArgument}
use Rattle.vocabulary.specs.declared.steps.Flags.{Flags}
use Rattle.vocabulary.specs.declared.steps.Needs.{Needs}
use Rattle.vocabulary.specs.declared.calls.OnElement.{OnElement}
use Rattle.machine.specs.Answers.{pairs_with}
use Rattle.machine.specs.Bases.{World}
use Rattle.machine.specs.CallEdits.{reach_of, reaches_with}
use Rattle.machine.specs.Graphs.{has_node}
use Rattle.machine.specs.Reaching.{is_refused}
use Rattle.machine.specs.Reading.{first_refusal, reading_refusal}
use Rattle.machine.specs.Shown.{is_empty, times_shown}
use Rattle.machine.specs.Views.{View, flags_at, lift, shown}
use Rattle.vocabulary.specs.Needs.{needs_for, needs_of, needs_with}
use Rattle.vocabulary.specs.Steps.{lacks}

abbrev pub flag_refusal : World → View → Needs → Option Refusal
flag_refusal world v needs = if lacks (flags_at world v) needs then Some UnsupportedOperation else None

-- ---- the argument

-- an index that is not negative, and passes a test
abbrev pub index_refusal : (ℕ → Bool) → Option ℕ → Option Refusal
index_refusal within None = Some IndexOutOfBounds
index_refusal within (Some i) = if within i then None else Some IndexOutOfBounds

abbrev pub empty_refusal : List Item → Option Refusal
empty_refusal items = if is_empty items then Some NoSuchElement else None

abbrev pub ask_refusal : Ask → List Item → Option Refusal
ask_refusal First items = empty_refusal items
ask_refusal Last items = empty_refusal items
ask_refusal FirstKey items = empty_refusal items
ask_refusal LastKey items = empty_refusal items
ask_refusal SpanOf items = empty_refusal items
ask_refusal word items = None

-- whether a count is more than what is shown of an element
abbrev pub is_more : List Item → Elem → ℕ → Bool
is_more items x n = nat_lt (times_shown items (One x)) n

-- a count is not negative, and more than what is shown is set only where adding is allowed
abbrev pub count_refusal : Flags → OnCounted → Elem → Option ℕ → List Item → Option Refusal
count_refusal allowed word x None items = Some IllegalArgument
count_refusal allowed SetCount x (Some n) items = if is_more items x n && not allowed.add then Some UnsupportedOperation else None
count_refusal allowed word x (Some n) items = None

-- a node that is not among the rows of a graph
abbrev pub node_refusal : Elem → List Item → Option Refusal
node_refusal a items = if has_node a items then None else Some IllegalArgument

abbrev pub element_refusal : OnElement → Elem → List Item → Option Refusal
element_refusal Degree a items = node_refusal a items
element_refusal InDegree a items = node_refusal a items
element_refusal OutDegree a items = node_refusal a items
element_refusal word x items = None

-- the refusal of a call's argument on a view that allows this and shows these items
abbrev pub test_refusal : Flags → Call → List Item → Option Refusal
test_refusal allowed (call.Ask word) items = ask_refusal word items
test_refusal allowed (call.Index word i) items = index_refusal (λ n. nat_lt n (length items)) i
test_refusal allowed (call.Indexed AddAt i x) items = index_refusal (λ n. nat_le n (length items)) i
test_refusal allowed (call.Indexed SetAt i x) items = index_refusal (λ n. nat_lt n (length items)) i
test_refusal allowed (call.Counted word x n) items = count_refusal allowed word x n items
test_refusal allowed (call.Element word x) items = element_refusal word x items
test_refusal allowed (call.Pair EdgeValue a b) items = first_refusal (node_refusal a items) (node_refusal b items)
test_refusal allowed (call.Build word None) items = Some IllegalArgument
test_refusal allowed other items = None

-- ---- the items

-- items of which one cannot be lifted
abbrev pub lift_refusal : View → List Item → Option Refusal
lift_refusal v items = if list_all (λ item. is_some (lift v item)) items then None else Some IllegalArgument

-- the items that a call lifts, where these are shown: an element is lifted where none of it is added, but not where its
-- count does not rise
abbrev pub items_lifted : Call → List Item → List Item
items_lifted (call.Element Add x) items = One x ∷ []
items_lifted (call.Indexed word i x) items = One x ∷ []
items_lifted (call.Counted AddSome x n) items = One x ∷ []
items_lifted (call.Counted SetCount x (Some n)) items = if is_more items x n then One x ∷ [] else []
items_lifted (call.Pair Put k v) items = Entry k v ∷ []
items_lifted (call.Pair ForcePut k v) items = Entry k v ∷ []
items_lifted (call.Pair PutPair k v) items = Entry k v ∷ []
items_lifted (call.Triple PutCell r c v) items = Cell r c v ∷ []
items_lifted other items = []

abbrev pub items_lifted_with : OnOther → List Item → List Item
items_lifted_with AddAll others = others
items_lifted_with PutAll others = others
items_lifted_with word others = []

-- a range that some window does not enclose
abbrev pub reach_refusal : Option Reach → Option Refusal
reach_refusal None = None
reach_refusal (Some found) = if is_refused found then Some IllegalArgument else None

abbrev pub reaches_refusal : List Reach → Option Refusal
reaches_refusal found = if list_any is_refused found then Some IllegalArgument else None

-- ---- in their order: the flag, reading the view and then the argument's view, the argument, the items

abbrev pub call_refusal : World → View → Call → Option Refusal
call_refusal world v call =
    let items = shown world v in
    first_refusal (flag_refusal world v (needs_of call)) (first_refusal (reading_refusal world v) (first_refusal (test_refusal (flags_at world v) call items)
    (first_refusal (lift_refusal v (items_lifted call items)) (reach_refusal (reach_of world v call)))))

abbrev pub refusal_with : World → View → OnOther → View → Option Refusal
refusal_with world v word other =
    let others = shown world other in
    first_refusal (flag_refusal world v (needs_with word)) (first_refusal (reading_refusal world v) (first_refusal (reading_refusal world other)
    (first_refusal (lift_refusal v (items_lifted_with word others)) (reaches_refusal (reaches_with v word others)))))

abbrev pub refusal_for : World → View → OnValues → Elem → View → Option Refusal
refusal_for world v word k other =
    first_refusal (flag_refusal world v (needs_for word)) (first_refusal (reading_refusal world v) (first_refusal (reading_refusal world other) (lift_refusal v (pairs_with k (shown world other)))))
