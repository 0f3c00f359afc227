-- What calls ask of their receivers.
use Rattle.vocabulary.specs.declared.calls.Ask.TheVariants.{Clear}
use Rattle.vocabulary.specs.declared.calls.OnElement.TheVariants.{Add, Remove, RemoveKey, RemoveGroup, RemoveValues, AddNode, RemoveNode}
use Rattle.vocabulary.specs.declared.calls.OnIndex.TheVariants.{RemoveAt}
use Rattle.vocabulary.specs.declared.calls.OnCounted.TheVariants.{AddSome, RemoveSome, SetCount, RemoveCounted}
use Rattle.vocabulary.specs.declared.calls.OnPair.TheVariants.{Put, ForcePut, PutPair, RemoveEntry, RemoveAtCell, RemoveEdge, RemoveEnds}
use Rattle.vocabulary.specs.declared.calls.OnTriple.TheVariants.{PutCell, RemoveCell, PutEdge}
use Rattle.vocabulary.specs.declared.calls.OnSpan.TheVariants.{AddSpan, RemoveSpan, DropSpan}
use Rattle.vocabulary.specs.declared.calls.OnSpanValue.TheVariants.{PutSpan, PutCoalescing, DropSpanValue}
use Rattle.vocabulary.specs.declared.calls.OnOther.{OnOther}
use Rattle.vocabulary.specs.declared.calls.OnOther.TheVariants.{ContainsAll, AddAll, RemoveAll, RetainAll, PutAll, Equals, AddSpans, RemoveSpans}
use Rattle.vocabulary.specs.declared.calls.OnValues.{OnValues}
use Rattle.vocabulary.specs.declared.calls.OnValues.TheVariants.{PutValues, ReplaceValues}
use Rattle.vocabulary.specs.declared.calls.Call.{Call}
use Rattle.vocabulary.specs.declared.calls.Call.TheVariants as call
use Rattle.vocabulary.specs.declared.steps.Needs.{Needs}
use Rattle.vocabulary.specs.declared.steps.Needs.TheVariants as needs

abbrev pub needs_of : Call → Needs
needs_of (call.Ask Clear) = needs.Remove
needs_of (call.Element Add x) = needs.Add
needs_of (call.Element AddNode a) = needs.Add
needs_of (call.Element RemoveNode a) = needs.Remove
needs_of (call.Element Remove x) = needs.Remove
needs_of (call.Element RemoveKey k) = needs.Remove
needs_of (call.Element RemoveGroup k) = needs.Remove
needs_of (call.Element RemoveValues k) = needs.Remove
needs_of (call.Index RemoveAt i) = needs.Remove
needs_of (call.Indexed word i x) = needs.Add
needs_of (call.Counted AddSome x n) = needs.Add
needs_of (call.Counted RemoveSome x n) = needs.Remove
needs_of (call.Counted SetCount x n) = needs.Remove
needs_of (call.Counted RemoveCounted x n) = needs.Remove
needs_of (call.Pair Put k v) = needs.Add
needs_of (call.Pair ForcePut k v) = needs.Add
needs_of (call.Pair PutPair k v) = needs.Add
needs_of (call.Pair RemoveEntry k v) = needs.Remove
needs_of (call.Pair RemoveAtCell r c) = needs.Remove
needs_of (call.Pair RemoveEdge a b) = needs.Remove
needs_of (call.Pair RemoveEnds a b) = needs.Remove
needs_of (call.Triple PutCell r c v) = needs.Add
needs_of (call.Triple PutEdge a b v) = needs.Add
needs_of (call.Span AddSpan s) = needs.Add
needs_of (call.Span RemoveSpan s) = needs.Remove
needs_of (call.Span DropSpan s) = needs.Remove
needs_of (call.SpanValue PutSpan s v) = needs.Add
needs_of (call.SpanValue PutCoalescing s v) = needs.Add
needs_of (call.SpanValue DropSpanValue s v) = needs.Remove
needs_of (call.Triple RemoveCell r c v) = needs.Remove
needs_of other = needs.Nothing

abbrev pub needs_with : OnOther → Needs
needs_with ContainsAll = needs.Nothing
needs_with AddAll = needs.Add
needs_with RemoveAll = needs.Remove
needs_with RetainAll = needs.Remove
needs_with PutAll = needs.Add
needs_with Equals = needs.Nothing
needs_with AddSpans = needs.Add
needs_with RemoveSpans = needs.Remove

abbrev pub needs_for : OnValues → Needs
needs_for PutValues = needs.Add
needs_for ReplaceValues = needs.AddAndRemove
