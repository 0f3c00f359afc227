-- What a call does to the base under a view: the rows behind its candidates that go, and the rows that come.
use Rattle.vocabulary.specs.declared.calls.OnSpan.TheVariants.{AddSpan, RemoveSpan}
use Rattle.vocabulary.specs.declared.calls.OnSpanValue.TheVariants.{PutSpan, PutCoalescing}
use Rattle.range_views.specs.declared.reach.Reach.TheVariants.{Nothing}
use Rattle.range_views.specs.declared.reach.Reach.{Reach}
use Rattle.std.specs.Prelude.{ℕ, ◌-◌, true, not, ◌&&◌, Bool, List, [], ◌∷◌, take, filter, flat_map, find, replicate, slice_get, Option, None, Some, ◌+◌, if◌then◌else◌, option_map, false, map}
use Rattle.std.specs.List.{list_any}
use Rattle.std.specs.Option.{option_to_list}
use Rattle.elem.specs.declared.elements.Elem.{Elem}
use Rattle.vocabulary.specs.declared.calls.Ask.TheVariants.{Clear}
use Rattle.vocabulary.specs.declared.calls.OnElement.TheVariants.{Add, Remove, RemoveKey, RemoveGroup, RemoveValues, AddNode, RemoveNode}
use Rattle.vocabulary.specs.declared.calls.OnIndex.TheVariants.{RemoveAt}
use Rattle.vocabulary.specs.declared.calls.OnIndexed.TheVariants.{AddAt, SetAt}
use Rattle.vocabulary.specs.declared.calls.OnCounted.TheVariants.{AddSome, RemoveSome, SetCount, RemoveCounted}
use Rattle.vocabulary.specs.declared.calls.OnPair.TheVariants.{Put, ForcePut, PutPair, RemoveEntry, RemoveAtCell, RemoveEdge}
use Rattle.vocabulary.specs.declared.calls.OnTriple.TheVariants.{PutCell, RemoveCell, PutEdge}
use Rattle.vocabulary.specs.declared.calls.OnOther.{OnOther}
use Rattle.vocabulary.specs.declared.calls.OnOther.TheVariants.{AddAll, RemoveAll, RetainAll, PutAll, AddSpans, RemoveSpans}
use Rattle.vocabulary.specs.declared.calls.Call.{Call}
use Rattle.vocabulary.specs.declared.calls.Call.TheVariants as call
use Rattle.vocabulary.specs.declared.edits.Spot.{Spot}
use Rattle.vocabulary.specs.declared.edits.Spot.TheVariants.{Own}
use Rattle.vocabulary.specs.declared.items.Item.{Item}
use Rattle.vocabulary.specs.declared.items.Item.TheVariants.{One, Entry, Counted, Cell, Range, Edge}
use Rattle.vocabulary.specs.declared.shapes.Shape.{Shape}
use Rattle.machine.specs.Bases.{World}
use Rattle.machine.specs.Builders.{is_nothing}
use Rattle.machine.specs.Candidates.{Candidate, is_seen, of_rows}
use Rattle.machine.specs.Edits.{Change, Coming, Edit, adding, adding_rows, an_edit, coming, range_writes, removing}
use Rattle.machine.specs.Graphs.{goes_with, joins}
use Rattle.machine.specs.Placing.{has_partner_at}
use Rattle.machine.specs.RangeRows.{RangeWrite}
use Rattle.machine.specs.Reaching.{cleared, put_writes, reached, reached_coalescing, set_writes, take_writes}
use Rattle.machine.specs.Shown.{has_key, is_at, is_shown, times_shown}
use Rattle.machine.specs.Spots.{end_spot, gap, own_spot, place_of}
use Rattle.machine.specs.Views.{View, candidates, lift, root, shape_at, shown}
use Rattle.vocabulary.specs.Items.{same_item}
use Rattle.vocabulary.specs.Shapes.{is_directed, is_range_set, is_ranges}
use Rattle.vocabulary.specs.Steps.{passes}

-- ---- rows that go

-- whether a candidate is seen, and its item passes
abbrev pub is_hit : (Item → Bool) → Candidate → Bool
is_hit passes c = c.seen && passes c.item

-- the rows behind some candidates, and behind one that is there
abbrev pub rows_behind : List Candidate → List ℕ
rows_behind cs = flat_map (λ (c : Candidate). c.rows) cs

abbrev pub rows_of_first : Option Candidate → List ℕ
rows_of_first None = []
rows_of_first (Some c) = c.rows

-- the rows behind the first seen candidate whose item passes, behind so many of the first, and behind all of them
abbrev pub first_hit : (Item → Bool) → List Candidate → List ℕ
first_hit passes cs = rows_of_first (find (is_hit passes) cs)

abbrev pub first_hits : ℕ → (Item → Bool) → List Candidate → List ℕ
first_hits n passes cs = rows_behind (take n (filter (is_hit passes) cs))

abbrev pub all_hits : (Item → Bool) → List Candidate → List ℕ
all_hits passes cs = rows_behind (filter (is_hit passes) cs)

-- the seen candidate of a number, and its rows
abbrev pub seen_at : ℕ → List Candidate → Option Candidate
seen_at i cs = slice_get (filter is_seen cs) i

abbrev pub hit_at : ℕ → List Candidate → List ℕ
hit_at i cs = rows_of_first (seen_at i cs)

-- ---- rows that come

-- the rows that added items mean
abbrev pub rows_for : View → List Item → List Item
rows_for v items = flat_map (λ item. option_to_list (lift v item)) items

-- rows that come to the end of a view, the first of which is the j-th to come
abbrev pub at_end_from : World → View → ℕ → List Item → List Coming
at_end_from world v j [] = []
at_end_from world v j (row ∷ rows) = (end_spot world v j, row) ∷ at_end_from world v (j + 1) rows

abbrev pub adding_last : World → View → List Item → Edit
adding_last world v rows = adding_rows (at_end_from world v 0 rows)

-- the row that an element means, so many times
abbrev pub rows_for_times : View → Elem → ℕ → List Item
rows_for_times v x n = flat_map (replicate n) (rows_for v (One x ∷ []))

-- ---- on one view

-- an element of a bag is counted up or down
abbrev pub counting : World → View → Elem → ℕ → Edit
counting world v x n =
    let count = times_shown (shown world v) (One x) in
    record { gone = first_hits (count - n) (same_item (One x)) (candidates world v); held = []; added = coming Own (rows_for_times v x (n - count)) }

-- pairs come to a spot of a bimap that has these rows, and those go that have a partner of theirs
abbrev pub forcing_at : Spot → List Item → List Item → Edit
forcing_at spot old rows = record { gone = all_hits (λ row. list_any (λ new. has_partner_at spot new row) rows) (of_rows 0 old); held = []; added = coming spot rows }

abbrev pub forcing : World → View → List Item → Edit
forcing world v rows = forcing_at (own_spot v) (root world v).rows rows

-- what a call does to the base under a view; none where it only reads
abbrev pub edit_of : World → View → Call → Option Edit
edit_of world v (call.Ask Clear) = Some (removing (all_hits (λ item. true) (candidates world v)))
edit_of world v (call.Element Add x) = Some (adding_last world v (rows_for v (One x ∷ [])))
edit_of world v (call.Element Remove x) = Some (removing (first_hit (same_item (One x)) (candidates world v)))
edit_of world v (call.Element RemoveKey k) = Some (removing (first_hit (has_key k) (candidates world v)))
edit_of world v (call.Element RemoveGroup k) = Some (removing (first_hit (has_key k) (candidates world v)))
edit_of world v (call.Element RemoveValues k) = Some (removing (all_hits (has_key k) (candidates world v)))
edit_of world v (call.Index RemoveAt (Some i)) = Some (removing (hit_at i (candidates world v)))
edit_of world v (call.Indexed AddAt (Some i) x) = Some (adding (gap world v 0 i) (rows_for v (One x ∷ [])))
edit_of world v (call.Indexed SetAt (Some i) x) = Some (adding (place_of (seen_at i (candidates world v))) (rows_for v (One x ∷ [])))
edit_of world v (call.Counted AddSome x (Some n)) = Some (adding Own (rows_for_times v x n))
edit_of world v (call.Counted RemoveSome x (Some n)) = Some (removing (first_hits n (same_item (One x)) (candidates world v)))
edit_of world v (call.Counted SetCount x (Some n)) = Some (counting world v x n)
edit_of world v (call.Counted RemoveCounted x (Some n)) = Some (removing (first_hit (same_item (Counted x n)) (candidates world v)))
edit_of world v (call.Pair Put k w) = Some (adding (own_spot v) (rows_for v (Entry k w ∷ [])))
edit_of world v (call.Pair ForcePut k w) = Some (forcing world v (rows_for v (Entry k w ∷ [])))
edit_of world v (call.Pair PutPair k w) = Some (adding Own (rows_for v (Entry k w ∷ [])))
edit_of world v (call.Pair RemoveEntry k w) = Some (removing (first_hit (same_item (Entry k w)) (candidates world v)))
edit_of world v (call.Pair RemoveAtCell r c) = Some (removing (first_hit (is_at r c) (candidates world v)))
edit_of world v (call.Triple PutCell r c w) = Some (adding Own (rows_for v (Cell r c w ∷ [])))
edit_of world v (call.Triple RemoveCell r c w) = Some (removing (first_hit (same_item (Cell r c w)) (candidates world v)))
edit_of world v (call.Element AddNode a) = Some (adding Own (One a ∷ []))
edit_of world v (call.Element RemoveNode a) = Some (removing (all_hits (goes_with a) (candidates world v)))
edit_of world v (call.Pair RemoveEdge a b) = Some (removing (first_hit (joins (is_directed (shape_at world v)) a b) (candidates world v)))
edit_of world v (call.Triple PutEdge a b w) = Some (adding Own (One a ∷ One b ∷ Edge a b w ∷ []))
edit_of world v (call.Build word (Some item)) = Some (adding Own (if is_nothing item then [] else item ∷ []))
edit_of world v other = None

-- ---- with another view, which shows the others
abbrev pub edit_with : World → View → OnOther → List Item → Option Edit
edit_with world v AddAll others = Some (adding_last world v (rows_for v others))
edit_with world v RemoveAll others = Some (removing (all_hits (is_shown others) (candidates world v)))
edit_with world v RetainAll others = Some (removing (all_hits (λ item. not (is_shown others item)) (candidates world v)))
edit_with world v PutAll others = Some (adding Own (rows_for v others))
edit_with world v word others = None

-- ---- writes of ranges

-- what a write of a range, or its clearing, is at the base; none for other calls
abbrev pub reach_of : World → View → Call → Option Reach
reach_of world v (call.Ask Clear) = if is_ranges (shape_at world v) then Some (cleared v) else None
reach_of world v (call.Span AddSpan s) = Some (reached v true s)
reach_of world v (call.Span RemoveSpan s) = Some (reached v false s)
reach_of world v (call.SpanValue PutSpan s x) = Some (reached v true s)
reach_of world v (call.SpanValue PutCoalescing s x) = Some (reached_coalescing world v s x)
reach_of world v other = None

abbrev pub reach_item : View → Bool → Item → Reach
reach_item v adds (Range s) = reached v adds s
reach_item v adds other = Nothing

-- what each range of another set is at the base
abbrev pub reaches_with : View → OnOther → List Item → List Reach
reaches_with v AddSpans others = map (reach_item v true) others
reaches_with v RemoveSpans others = map (reach_item v false) others
reaches_with v word others = []

-- what the writes of a call are that reach the base so: a value is put, or there are none, or it is taken with the range
abbrev pub writes_of : Shape → Call → Reach → List RangeWrite
writes_of of (call.SpanValue word s x) found = put_writes x found
writes_of of other found = if is_range_set of then set_writes found else take_writes found

-- ---- what a call does to the base under a view

abbrev pub change_by : (Reach → List RangeWrite) → Option Reach → Option Edit → Option Change
change_by writes (Some found) edit = Some (range_writes (writes found))
change_by writes None edit = option_map an_edit edit

abbrev pub change_of : World → View → Call → Option Change
change_of world v call = change_by (writes_of (shape_at world v) call) (reach_of world v call) (edit_of world v call)

abbrev pub change_with : World → View → OnOther → List Item → Option Change
change_with world v AddSpans others = Some (range_writes (flat_map set_writes (reaches_with v AddSpans others)))
change_with world v RemoveSpans others = Some (range_writes (flat_map set_writes (reaches_with v RemoveSpans others)))
change_with world v word others = option_map an_edit (edit_with world v word others)
