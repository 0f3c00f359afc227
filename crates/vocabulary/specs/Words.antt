-- The table of words: what a word with so many arguments does on a view of a sort.
use Rattle.std.specs.Prelude.{ℕ, ◌&&◌, ◌==◌, nat_eq, List, [], ◌∷◌, Option, None, Some, if◌then◌else◌, map}
use Rattle.std.specs.Cmp.Lexicographic.{pointwise}
use Rattle.elem.specs.declared.build_kinds.BuildKind.{BuildKind}
use Rattle.elem.specs.declared.build_kinds.BuildKind.TheVariants as build
use Rattle.vocabulary.specs.declared.calls.CallForm.{CallForm}
use Rattle.vocabulary.specs.declared.calls.CallForm.TheVariants as call
use Rattle.vocabulary.specs.declared.calls.OnBuilder.{OnBuilder}
use Rattle.vocabulary.specs.declared.calls.OnBuilder.TheVariants as item
use Rattle.vocabulary.specs.declared.leaves.LeafForm.TheVariants as leaf
use Rattle.vocabulary.specs.declared.shapes.Sort.{Sort}
use Rattle.vocabulary.specs.declared.shapes.Sort.TheVariants as sort
use Rattle.vocabulary.specs.declared.steps.StepForm.{StepForm}
use Rattle.vocabulary.specs.declared.steps.StepForm.TheVariants as step
use Rattle.vocabulary.specs.declared.words.Action.{Action}
use Rattle.vocabulary.specs.declared.words.Action.TheVariants as action
use Rattle.vocabulary.specs.declared.words.Table.{Table}
use Rattle.vocabulary.specs.declared.words.Table.TheVariants as table
use Rattle.vocabulary.specs.declared.words.collections.TheConstants.{LISTS, SETS, SORTED_SETS, ELEMENTS, CHANGEABLE, BAGS, SORTED_BAGS, SORTED, COMPARED, LOCKED, SIZED, COUNTED_ROWS, PIECES, CLEARED, COPIED}
use Rattle.vocabulary.specs.declared.words.maps.TheConstants.{MAPS, PLAIN_MAPS, SORTED_MAPS, BIMAPS, MULTIMAPS, GROUPS, TABLES, ENTRIES, CELL_ROWS}
use Rattle.vocabulary.specs.declared.words.ranges.TheConstants.{LEAVES, RANGE_SET_STEPS, RANGE_SET_WRITES, RANGE_SETS, RANGE_MAPS, RANGE_ROWS, RANGE_ENTRIES}
use Rattle.vocabulary.specs.declared.words.graphs.TheConstants.{GRAPH_STEPS, GRAPHS, PAIRS}
use Rattle.vocabulary.specs.declared.words.builders.TheConstants.{ONE_BUILDERS, COUNTED_BUILDERS, ENTRY_BUILDERS, CELL_BUILDERS, SPAN_BUILDERS, SPAN_VALUE_BUILDERS, BUILT, BUILT_OR_THROWN, BUILT_KEEPING_LAST}

-- a word's spelling, and what it does
abbrev pub Row : Type 0
Row = List ℕ × Action

-- how many arguments a step takes
abbrev pub count_of_step : StepForm → ℕ
count_of_step (step.Plain word) = 0
count_of_step (step.Group side form) = 0
count_of_step (step.Leaf leaf.Part) = 1
count_of_step (step.Leaf (leaf.Near word)) = 1
count_of_step (step.Leaf word) = 0
count_of_step step.Sub = 2
count_of_step other = 1

-- how many a call to a builder takes
abbrev pub count_of_item : OnBuilder → ℕ
count_of_item item.AddOne = 1
count_of_item item.AddSpan = 1
count_of_item item.AddCopies = 2
count_of_item item.PutEntry = 2
count_of_item item.PutSpan = 2
count_of_item item.PutCell = 3

-- how many a call takes
abbrev pub count_of_call : CallForm → ℕ
count_of_call (call.Ask word) = 0
count_of_call (call.Element word) = 1
count_of_call (call.Index word) = 1
count_of_call (call.Other word) = 1
count_of_call (call.Span word) = 1
count_of_call (call.Indexed word) = 2
count_of_call (call.Counted word) = 2
count_of_call (call.Pair word) = 2
count_of_call (call.SpanValue word) = 2
count_of_call (call.Values word) = 2
count_of_call (call.Triple word) = 3
count_of_call (call.Build word) = count_of_item word

abbrev pub count_of : Action → ℕ
count_of (action.Step form) = count_of_step form
count_of (action.Call form) = count_of_call form
count_of (action.Make word) = 0

-- the action of the first row that fits
unfoldable pub chosen : List ℕ → ℕ → List Row → Option Action
chosen word count [] = None
chosen word count (row ∷ rows) = if pointwise nat_eq row.0 word && count_of row.1 == count then Some row.1 else chosen word count rows

-- the rows of a part
unfoldable pub rows_of : Table → List Row
rows_of table.Lists = map (λ row. (row.0.now, row.1)) LISTS
rows_of table.Pieces = map (λ row. (row.0.now, row.1)) PIECES
rows_of table.Sets = map (λ row. (row.0.now, row.1)) SETS
rows_of table.SortedSets = map (λ row. (row.0.now, row.1)) SORTED_SETS
rows_of table.Elements = map (λ row. (row.0.now, row.1)) ELEMENTS
rows_of table.Changeable = map (λ row. (row.0.now, row.1)) CHANGEABLE
rows_of table.Bags = map (λ row. (row.0.now, row.1)) BAGS
rows_of table.SortedBags = map (λ row. (row.0.now, row.1)) SORTED_BAGS
rows_of table.Sorted = map (λ row. (row.0.now, row.1)) SORTED
rows_of table.Compared = map (λ row. (row.0.now, row.1)) COMPARED
rows_of table.Locked = map (λ row. (row.0.now, row.1)) LOCKED
rows_of table.Copied = map (λ row. (row.0.now, row.1)) COPIED
rows_of table.Sized = map (λ row. (row.0.now, row.1)) SIZED
rows_of table.Cleared = map (λ row. (row.0.now, row.1)) CLEARED
rows_of table.CountedRows = map (λ row. (row.0.now, row.1)) COUNTED_ROWS
rows_of table.Maps = map (λ row. (row.0.now, row.1)) MAPS
rows_of table.PlainMaps = map (λ row. (row.0.now, row.1)) PLAIN_MAPS
rows_of table.SortedMaps = map (λ row. (row.0.now, row.1)) SORTED_MAPS
rows_of table.Bimaps = map (λ row. (row.0.now, row.1)) BIMAPS
rows_of table.Multimaps = map (λ row. (row.0.now, row.1)) MULTIMAPS
rows_of table.Groups = map (λ row. (row.0.now, row.1)) GROUPS
rows_of table.Tables = map (λ row. (row.0.now, row.1)) TABLES
rows_of table.Entries = map (λ row. (row.0.now, row.1)) ENTRIES
rows_of table.CellRows = map (λ row. (row.0.now, row.1)) CELL_ROWS
rows_of table.Leaves = map (λ row. (row.0.now, row.1)) LEAVES
rows_of table.RangeSetSteps = map (λ row. (row.0.now, row.1)) RANGE_SET_STEPS
rows_of table.RangeSetWrites = map (λ row. (row.0.now, row.1)) RANGE_SET_WRITES
rows_of table.RangeSets = map (λ row. (row.0.now, row.1)) RANGE_SETS
rows_of table.RangeMaps = map (λ row. (row.0.now, row.1)) RANGE_MAPS
rows_of table.RangeRows = map (λ row. (row.0.now, row.1)) RANGE_ROWS
rows_of table.RangeEntries = map (λ row. (row.0.now, row.1)) RANGE_ENTRIES
rows_of table.GraphSteps = map (λ row. (row.0.now, row.1)) GRAPH_STEPS
rows_of table.Graphs = map (λ row. (row.0.now, row.1)) GRAPHS
rows_of table.Pairs = map (λ row. (row.0.now, row.1)) PAIRS
rows_of table.OneBuilders = map (λ row. (row.0.now, row.1)) ONE_BUILDERS
rows_of table.CountedBuilders = map (λ row. (row.0.now, row.1)) COUNTED_BUILDERS
rows_of table.EntryBuilders = map (λ row. (row.0.now, row.1)) ENTRY_BUILDERS
rows_of table.CellBuilders = map (λ row. (row.0.now, row.1)) CELL_BUILDERS
rows_of table.SpanBuilders = map (λ row. (row.0.now, row.1)) SPAN_BUILDERS
rows_of table.SpanValueBuilders = map (λ row. (row.0.now, row.1)) SPAN_VALUE_BUILDERS
rows_of table.Built = map (λ row. (row.0.now, row.1)) BUILT
rows_of table.BuiltOrThrown = map (λ row. (row.0.now, row.1)) BUILT_OR_THROWN
rows_of table.BuiltKeepingLast = map (λ row. (row.0.now, row.1)) BUILT_KEEPING_LAST

-- the parts that have the words of a builder
abbrev pub tables_of_builder : BuildKind → List Table
tables_of_builder build.List = table.OneBuilders ∷ table.Built ∷ []
tables_of_builder build.Set = table.OneBuilders ∷ table.Built ∷ []
tables_of_builder build.Multiset = table.CountedBuilders ∷ table.Built ∷ []
tables_of_builder build.Map = table.EntryBuilders ∷ table.BuiltOrThrown ∷ table.BuiltKeepingLast ∷ []
tables_of_builder build.BiMap = table.EntryBuilders ∷ table.BuiltOrThrown ∷ []
tables_of_builder build.ListMultimap = table.EntryBuilders ∷ table.Built ∷ []
tables_of_builder build.SetMultimap = table.EntryBuilders ∷ table.Built ∷ []
tables_of_builder build.Table = table.CellBuilders ∷ table.Built ∷ []
tables_of_builder build.RangeSet = table.SpanBuilders ∷ table.Built ∷ []
tables_of_builder build.RangeMap = table.SpanValueBuilders ∷ table.Built ∷ []

-- the parts that have the words of a sort
abbrev pub tables_of : Sort → List Table
tables_of sort.List = table.Sized ∷ table.Cleared ∷ table.Lists ∷ table.Elements ∷ table.Changeable ∷ table.Compared ∷ table.Locked ∷ table.Copied ∷ []
tables_of sort.Set = table.Sized ∷ table.Cleared ∷ table.Sets ∷ table.Elements ∷ table.Changeable ∷ table.Compared ∷ table.Locked ∷ table.Copied ∷ []
tables_of sort.SortedSet = table.Sized ∷ table.Cleared ∷ table.SortedSets ∷ table.Sorted ∷ table.Sets ∷ table.Elements ∷ table.Changeable ∷ table.Compared ∷ table.Locked ∷ table.Copied ∷ []
tables_of sort.Coll = table.Sized ∷ table.Cleared ∷ table.Elements ∷ table.Changeable ∷ table.Locked ∷ table.Copied ∷ []
tables_of sort.EntryRows = table.Sized ∷ table.Cleared ∷ table.Entries ∷ []
tables_of sort.GroupRows = table.Sized ∷ table.Cleared ∷ []
tables_of sort.CountedRows = table.Sized ∷ table.Cleared ∷ table.CountedRows ∷ []
tables_of sort.CellRows = table.Sized ∷ table.Cleared ∷ table.CellRows ∷ []
tables_of sort.Map = table.Sized ∷ table.Cleared ∷ table.Maps ∷ table.PlainMaps ∷ table.Compared ∷ table.Locked ∷ table.Copied ∷ []
tables_of sort.SortedMap = table.Sized ∷ table.Cleared ∷ table.SortedMaps ∷ table.Sorted ∷ table.Maps ∷ table.PlainMaps ∷ table.Compared ∷ table.Locked ∷ table.Copied ∷ []
tables_of sort.Groups = table.Sized ∷ table.Cleared ∷ table.Groups ∷ []
tables_of sort.Bag = table.Sized ∷ table.Cleared ∷ table.Bags ∷ table.Elements ∷ table.Compared ∷ table.Locked ∷ table.Copied ∷ []
tables_of sort.SortedBag = table.Sized ∷ table.Cleared ∷ table.SortedBags ∷ table.Sorted ∷ table.Bags ∷ table.Elements ∷ table.Compared ∷ table.Locked ∷ table.Copied ∷ []
tables_of sort.BiMap = table.Sized ∷ table.Cleared ∷ table.Bimaps ∷ table.Maps ∷ table.Compared ∷ table.Locked ∷ table.Copied ∷ []
tables_of sort.Multimap = table.Sized ∷ table.Cleared ∷ table.Multimaps ∷ table.Locked ∷ table.Copied ∷ []
tables_of sort.Table = table.Sized ∷ table.Cleared ∷ table.Tables ∷ table.Locked ∷ table.Copied ∷ []
tables_of sort.Pieces = table.Pieces ∷ table.Sized ∷ []
tables_of sort.RangeSet = table.RangeSetSteps ∷ table.RangeSets ∷ table.RangeSetWrites ∷ table.Compared ∷ table.Leaves ∷ table.Copied ∷ table.Cleared ∷ []
tables_of sort.RangeRows = table.Sized ∷ table.Cleared ∷ table.RangeRows ∷ []
tables_of sort.RangeMap = table.RangeMaps ∷ table.Leaves ∷ table.Copied ∷ table.Cleared ∷ []
tables_of sort.RangeEntryRows = table.Sized ∷ table.Cleared ∷ table.RangeEntries ∷ []
tables_of sort.Graph = table.GraphSteps ∷ table.Graphs ∷ table.Leaves ∷ table.Copied ∷ []
tables_of sort.PairRows = table.Sized ∷ table.Cleared ∷ table.Pairs ∷ []
tables_of (sort.Builder kind) = tables_of_builder kind

-- the first of two actions that is there
abbrev pub first_of : Option Action → Option Action → Option Action
first_of None later = later
first_of (Some found) later = Some found

-- the first row that fits, in the first part that has one
abbrev pub in_tables : List ℕ → ℕ → List Table → Option Action
in_tables word count [] = None
in_tables word count (part ∷ parts) = first_of (chosen word count (rows_of part)) (in_tables word count parts)

-- what a word with so many arguments does on a view of a sort
unfoldable pub signature : Sort → List ℕ → ℕ → Option Action
signature on word count = in_tables word count (tables_of on)
