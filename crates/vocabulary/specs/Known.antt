-- The part of the language whose code stands: its kinds and its words. All else is refused as a word that is not there.
use Rattle.std.specs.Prelude.{Bool, true, false}
use Rattle.vocabulary.specs.declared.calls.Ask.{Ask}
use Rattle.vocabulary.specs.declared.calls.Ask.TheVariants as ask
use Rattle.vocabulary.specs.declared.calls.Call.{Call}
use Rattle.vocabulary.specs.declared.calls.Call.TheVariants as made
use Rattle.vocabulary.specs.declared.calls.CallForm.{CallForm}
use Rattle.vocabulary.specs.declared.calls.CallForm.TheVariants as call
use Rattle.vocabulary.specs.declared.calls.OnElement.{OnElement}
use Rattle.vocabulary.specs.declared.calls.OnElement.TheVariants as element
use Rattle.vocabulary.specs.declared.calls.OnOther.{OnOther}
use Rattle.vocabulary.specs.declared.calls.OnOther.TheVariants as other
use Rattle.vocabulary.specs.declared.calls.OnPair.{OnPair}
use Rattle.vocabulary.specs.declared.calls.OnPair.TheVariants as pair
use Rattle.vocabulary.specs.declared.kinds.Kind.{Kind}
use Rattle.vocabulary.specs.declared.kinds.Kind.TheVariants.{ArrayList, LinkedHashSet, TreeSet, TreeSetReverse, TreeSetLength, LinkedHashMap, TreeMap, TreeMapReverse, TreeMapLength, HashBiMap}
use Rattle.vocabulary.specs.declared.steps.PlainStep.{PlainStep}
use Rattle.vocabulary.specs.declared.steps.PlainStep.TheVariants.{Reverse, KeySet, Values, EntrySet, Descending, Inverse, Unmodifiable}
use Rattle.vocabulary.specs.declared.steps.StepForm.{StepForm}
use Rattle.vocabulary.specs.declared.steps.StepForm.TheVariants as step
use Rattle.vocabulary.specs.declared.words.Action.{Action}
use Rattle.vocabulary.specs.declared.words.Action.TheVariants as action

-- lists, sets, maps and bimaps
abbrev pub is_known_kind : Kind → Bool
is_known_kind ArrayList = true
is_known_kind LinkedHashSet = true
is_known_kind TreeSet = true
is_known_kind TreeSetReverse = true
is_known_kind TreeSetLength = true
is_known_kind LinkedHashMap = true
is_known_kind TreeMap = true
is_known_kind TreeMapReverse = true
is_known_kind TreeMapLength = true
is_known_kind HashBiMap = true
is_known_kind kind = false

abbrev pub is_known_plain : PlainStep → Bool
is_known_plain Reverse = true
is_known_plain KeySet = true
is_known_plain Values = true
is_known_plain EntrySet = true
is_known_plain Descending = true
is_known_plain Inverse = true
is_known_plain Unmodifiable = true
is_known_plain word = false

-- steps over one view, which go row by row
abbrev pub is_known_step : StepForm → Bool
is_known_step (step.Plain word) = is_known_plain word
is_known_step (step.Filter word) = true
is_known_step step.FilterPairs = true
is_known_step (step.Change word) = true
is_known_step step.Within = true
is_known_step form = false

abbrev pub is_known_ask : Ask → Bool
is_known_ask ask.Size = true
is_known_ask ask.IsEmpty = true
is_known_ask ask.Clear = true
is_known_ask ask.First = true
is_known_ask ask.Last = true
is_known_ask ask.FirstKey = true
is_known_ask ask.LastKey = true
is_known_ask word = false

abbrev pub is_known_element : OnElement → Bool
is_known_element element.Contains = true
is_known_element element.Add = true
is_known_element element.Remove = true
is_known_element element.IndexOf = true
is_known_element element.ValueOf = true
is_known_element element.ContainsKey = true
is_known_element element.ContainsValue = true
is_known_element element.RemoveKey = true
is_known_element word = false

abbrev pub is_known_pair : OnPair → Bool
is_known_pair pair.Put = true
is_known_pair pair.ForcePut = true
is_known_pair pair.ContainsEntry = true
is_known_pair pair.RemoveEntry = true
is_known_pair word = false

abbrev pub is_known_other : OnOther → Bool
is_known_other other.ContainsAll = true
is_known_other other.AddAll = true
is_known_other other.RemoveAll = true
is_known_other other.RetainAll = true
is_known_other other.PutAll = true
is_known_other other.Equals = true
is_known_other word = false

-- a call without its arguments
abbrev pub form_of_call : Call → CallForm
form_of_call (made.Ask word) = call.Ask word
form_of_call (made.Element word x) = call.Element word
form_of_call (made.Index word i) = call.Index word
form_of_call (made.Indexed word i x) = call.Indexed word
form_of_call (made.Counted word x n) = call.Counted word
form_of_call (made.Pair word k v) = call.Pair word
form_of_call (made.Triple word x y z) = call.Triple word
form_of_call (made.Span word s) = call.Span word
form_of_call (made.SpanValue word s v) = call.SpanValue word
form_of_call (made.Build word item) = call.Build word

-- calls on the views of lists, sets, maps and bimaps
abbrev pub is_known_call : CallForm → Bool
is_known_call (call.Ask word) = is_known_ask word
is_known_call (call.Element word) = is_known_element word
is_known_call (call.Index word) = true
is_known_call (call.Indexed word) = true
is_known_call (call.Pair word) = is_known_pair word
is_known_call (call.Other word) = is_known_other word
is_known_call form = false

abbrev pub is_known : Action → Bool
is_known (action.Step form) = is_known_step form
is_known (action.Call form) = is_known_call form
is_known (action.Make word) = false
