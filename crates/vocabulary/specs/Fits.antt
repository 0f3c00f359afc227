-- Which shapes have a call.
use Rattle.std.specs.Prelude.{Bool, true, false, ◌&&◌, ◌||◌}
use Rattle.vocabulary.specs.declared.calls.Ask.{Ask}
use Rattle.vocabulary.specs.declared.calls.Ask.TheVariants.{Size, IsEmpty, Clear, First, Last, FirstKey, LastKey, FirstEntry, LastEntry, SpanOf}
use Rattle.vocabulary.specs.declared.calls.OnElement.{OnElement}
use Rattle.vocabulary.specs.declared.calls.OnElement.TheVariants.{Contains, Add, Remove, IndexOf, ValueOf, ContainsKey, ContainsColumn, ContainsValue, RemoveKey, RemoveGroup, RemoveValues, Count, Covers, RangeAt, RangeValue, Degree, InDegree, OutDegree, AddNode, RemoveNode}
use Rattle.vocabulary.specs.declared.calls.OnCounted.{OnCounted}
use Rattle.vocabulary.specs.declared.calls.OnCounted.TheVariants.{AddSome, RemoveSome, SetCount, ContainsCounted, RemoveCounted}
use Rattle.vocabulary.specs.declared.calls.OnPair.{OnPair}
use Rattle.vocabulary.specs.declared.calls.OnPair.TheVariants.{Put, ForcePut, PutPair, ContainsEntry, RemoveEntry, ValueAt, ContainsAt, RemoveAtCell, HasEdge, EdgeValue, RemoveEdge, ContainsEnds, RemoveEnds}
use Rattle.vocabulary.specs.declared.calls.OnTriple.{OnTriple}
use Rattle.vocabulary.specs.declared.calls.OnTriple.TheVariants.{PutCell, ContainsCell, RemoveCell, PutEdge}
use Rattle.vocabulary.specs.declared.calls.OnSpan.{OnSpan}
use Rattle.vocabulary.specs.declared.calls.OnSpan.TheVariants.{Encloses, Intersects, AddSpan, RemoveSpan, ContainsSpan, DropSpan}
use Rattle.vocabulary.specs.declared.calls.OnSpanValue.{OnSpanValue}
use Rattle.vocabulary.specs.declared.calls.OnSpanValue.TheVariants.{PutSpan, PutCoalescing, ContainsSpanValue, DropSpanValue}
use Rattle.vocabulary.specs.declared.calls.OnOther.{OnOther}
use Rattle.vocabulary.specs.declared.calls.OnOther.TheVariants.{ContainsAll, AddAll, RemoveAll, RetainAll, PutAll, Equals, AddSpans, RemoveSpans}
use Rattle.vocabulary.specs.declared.calls.OnValues.{OnValues}
use Rattle.vocabulary.specs.declared.calls.Call.{Call}
use Rattle.vocabulary.specs.declared.calls.Call.TheVariants as call
use Rattle.vocabulary.specs.declared.shapes.RowSort.TheVariants as rows
use Rattle.vocabulary.specs.declared.shapes.Shape.{Shape}
use Rattle.vocabulary.specs.declared.shapes.Shape.TheVariants as shape
use Rattle.vocabulary.specs.Shapes.{is_list, is_set, is_bag, is_elements, is_map, is_bimap, is_multimap, is_table, is_groups, is_range_set, is_ranges, is_graph}

abbrev pub is_sorted_set : Shape → Bool
is_sorted_set (shape.Set sorted) = sorted
is_sorted_set other = false

abbrev pub is_sorted_map : Shape → Bool
is_sorted_map (shape.Map sorted) = sorted
is_sorted_map other = false

abbrev pub is_sorted_bag : Shape → Bool
is_sorted_bag (shape.Bag sorted) = sorted
is_sorted_bag other = false

abbrev pub is_entries : Shape → Bool
is_entries (shape.Rows rows.Entry) = true
is_entries (shape.Rows rows.MultiEntry) = true
is_entries other = false

abbrev pub is_counted_rows : Shape → Bool
is_counted_rows (shape.Rows rows.Counted) = true
is_counted_rows other = false

abbrev pub is_cells : Shape → Bool
is_cells (shape.Rows rows.Cell) = true
is_cells other = false

abbrev pub is_range_map : Shape → Bool
is_range_map shape.RangeMap = true
is_range_map other = false

abbrev pub is_range_rows : Shape → Bool
is_range_rows (shape.Rows rows.Range) = true
is_range_rows other = false

abbrev pub is_range_entries : Shape → Bool
is_range_entries (shape.Rows rows.RangeEntry) = true
is_range_entries other = false

abbrev pub is_pairs : Shape → Bool
is_pairs (shape.Rows (rows.Pair directed)) = true
is_pairs other = false

abbrev pub is_builder : Shape → Bool
is_builder (shape.Builder kind) = true
is_builder other = false

-- what can be cleared; and what has a size, which ranges have not
abbrev pub has_clear : Shape → Bool
has_clear shape.Pieces = false
has_clear (shape.Graph directed) = false
has_clear (shape.Builder kind) = false
has_clear other = true

abbrev pub has_size : Shape → Bool
has_size shape.RangeSet = false
has_size shape.RangeMap = false
has_size (shape.Graph directed) = false
has_size (shape.Builder kind) = false
has_size other = true

abbrev pub fits_ask : Shape → Ask → Bool
fits_ask of Size = has_size of
fits_ask of IsEmpty = has_size of || is_range_set of
fits_ask of Clear = has_clear of
fits_ask of SpanOf = is_ranges of
fits_ask of First = is_sorted_set of
fits_ask of Last = is_sorted_set of
fits_ask of FirstKey = is_sorted_map of
fits_ask of LastKey = is_sorted_map of
fits_ask of FirstEntry = is_sorted_bag of
fits_ask of LastEntry = is_sorted_bag of

abbrev pub fits_element : Shape → OnElement → Bool
fits_element of Contains = is_elements of
fits_element of Add = is_elements of
fits_element of Remove = is_elements of
fits_element of IndexOf = is_list of
fits_element of ValueOf = is_map of
fits_element of ContainsKey = is_map of || is_groups of || is_multimap of || is_table of
fits_element of ContainsColumn = is_table of
fits_element of ContainsValue = is_map of || is_multimap of || is_table of
fits_element of RemoveKey = is_map of
fits_element of RemoveGroup = is_groups of
fits_element of RemoveValues = is_multimap of
fits_element of Count = is_bag of
fits_element of Covers = is_range_set of
fits_element of RangeAt = is_ranges of
fits_element of RangeValue = is_range_map of
fits_element of Degree = is_graph of
fits_element of InDegree = is_graph of
fits_element of OutDegree = is_graph of
fits_element of AddNode = is_graph of
fits_element of RemoveNode = is_graph of

abbrev pub fits_counted : Shape → OnCounted → Bool
fits_counted of AddSome = is_bag of
fits_counted of RemoveSome = is_bag of
fits_counted of SetCount = is_bag of
fits_counted of ContainsCounted = is_counted_rows of
fits_counted of RemoveCounted = is_counted_rows of

abbrev pub fits_pair : Shape → OnPair → Bool
fits_pair of Put = is_map of
fits_pair of ForcePut = is_bimap of
fits_pair of PutPair = is_multimap of
fits_pair of ContainsEntry = is_entries of || is_multimap of
fits_pair of RemoveEntry = is_entries of || is_multimap of
fits_pair of ValueAt = is_table of
fits_pair of ContainsAt = is_table of
fits_pair of RemoveAtCell = is_table of
fits_pair of HasEdge = is_graph of
fits_pair of EdgeValue = is_graph of
fits_pair of RemoveEdge = is_graph of
fits_pair of ContainsEnds = is_pairs of
fits_pair of RemoveEnds = is_pairs of

abbrev pub fits_triple : Shape → OnTriple → Bool
fits_triple of PutCell = is_table of
fits_triple of ContainsCell = is_cells of
fits_triple of RemoveCell = is_cells of
fits_triple of PutEdge = is_graph of

abbrev pub fits_span : Shape → OnSpan → Bool
fits_span of Encloses = is_range_set of
fits_span of Intersects = is_range_set of
fits_span of AddSpan = is_range_set of
fits_span of RemoveSpan = is_ranges of
fits_span of ContainsSpan = is_range_rows of
fits_span of DropSpan = is_range_rows of

abbrev pub fits_span_value : Shape → OnSpanValue → Bool
fits_span_value of PutSpan = is_range_map of
fits_span_value of PutCoalescing = is_range_map of
fits_span_value of ContainsSpanValue = is_range_entries of
fits_span_value of DropSpanValue = is_range_entries of

abbrev pub fits : Shape → Call → Bool
fits of (call.Ask word) = fits_ask of word
fits of (call.Element word x) = fits_element of word
fits of (call.Index word i) = is_list of
fits of (call.Indexed word i x) = is_list of
fits of (call.Counted word x n) = fits_counted of word
fits of (call.Pair word k v) = fits_pair of word
fits of (call.Triple word r c v) = fits_triple of word
fits of (call.Span word s) = fits_span of word
fits of (call.SpanValue word s v) = fits_span_value of word
fits of (call.Build word item) = is_builder of

-- whether two shapes can be equal: those of two lists, sets, bags, range sets or maps
abbrev pub compares : Shape → Shape → Bool
compares shape.List other = is_list other
compares (shape.Set sorted) other = is_set other
compares (shape.Bag sorted) other = is_bag other
compares shape.RangeSet other = is_range_set other
compares of other = is_map of && is_map other

abbrev pub is_plain_map : Shape → Bool
is_plain_map (shape.Map sorted) = true
is_plain_map other = false

-- the same with a view of another shape
abbrev pub fits_with : Shape → OnOther → Shape → Bool
fits_with of ContainsAll other = is_elements of && is_elements other
fits_with of AddAll other = is_elements of && is_elements other
fits_with of RemoveAll other = is_elements of && is_elements other
fits_with of RetainAll other = is_elements of && is_elements other
fits_with of PutAll other = is_plain_map of && is_map other
fits_with of Equals other = compares of other
fits_with of AddSpans other = is_range_set of && is_range_set other
fits_with of RemoveSpans other = is_range_set of && is_range_set other

-- and with a key
abbrev pub fits_values : Shape → OnValues → Shape → Bool
fits_values of word other = is_multimap of && is_elements other
