-- The sorts of shapes, and which shapes are sorted, go by key, or are collections of elements.
use Rattle.std.specs.Prelude.{Bool, true, false}
use Rattle.vocabulary.specs.declared.items.Side.{Side}
use Rattle.vocabulary.specs.declared.items.Side.TheVariants.{First, Second}
use Rattle.vocabulary.specs.declared.shapes.GroupSort.{GroupSort}
use Rattle.vocabulary.specs.declared.shapes.GroupSort.TheVariants.{Values, RowCells, ColumnCells}
use Rattle.vocabulary.specs.declared.shapes.RowSort.TheVariants as rows
use Rattle.vocabulary.specs.declared.shapes.Shape.{Shape}
use Rattle.vocabulary.specs.declared.shapes.Shape.TheVariants as shape
use Rattle.vocabulary.specs.declared.shapes.Sort.{Sort}
use Rattle.vocabulary.specs.declared.shapes.Sort.TheVariants as sort
use Rattle.vocabulary.specs.declared.shapes.ValueShape.{ValueShape}
use Rattle.vocabulary.specs.declared.shapes.ValueShape.TheVariants as values

-- a shape as far as words ask for it
abbrev pub sort_of : Shape → Sort
sort_of shape.List = sort.List
sort_of (shape.Set false) = sort.Set
sort_of (shape.Set true) = sort.SortedSet
sort_of shape.Coll = sort.Coll
sort_of (shape.Rows rows.Entry) = sort.EntryRows
sort_of (shape.Rows rows.MultiEntry) = sort.EntryRows
sort_of (shape.Rows rows.Group) = sort.GroupRows
sort_of (shape.Rows rows.Counted) = sort.CountedRows
sort_of (shape.Rows rows.Cell) = sort.CellRows
sort_of (shape.Map false) = sort.Map
sort_of (shape.Map true) = sort.SortedMap
sort_of (shape.Groups of) = sort.Groups
sort_of (shape.Bag false) = sort.Bag
sort_of (shape.Bag true) = sort.SortedBag
sort_of shape.BiMap = sort.BiMap
sort_of (shape.Multimap values sorted) = sort.Multimap
sort_of (shape.Table mirrored sorted) = sort.Table
sort_of shape.Pieces = sort.Pieces
sort_of shape.RangeSet = sort.RangeSet
sort_of (shape.Rows rows.Range) = sort.RangeRows
sort_of shape.RangeMap = sort.RangeMap
sort_of (shape.Rows rows.RangeEntry) = sort.RangeEntryRows
sort_of (shape.Graph directed) = sort.Graph
sort_of (shape.Rows (rows.Pair directed)) = sort.PairRows
sort_of (shape.Builder kind) = sort.Builder kind

-- whether a view of the shape is sorted
abbrev pub is_sorted : Shape → Bool
is_sorted (shape.Set sorted) = sorted
is_sorted (shape.Map sorted) = sorted
is_sorted (shape.Bag sorted) = sorted
is_sorted (shape.Multimap values sorted) = sorted
is_sorted (shape.Table mirrored sorted) = sorted
is_sorted other = false

-- whether no two items of such a view have the same key
abbrev pub is_keyed : Shape → Bool
is_keyed (shape.Set sorted) = true
is_keyed (shape.Rows rows.Entry) = true
is_keyed (shape.Rows rows.Group) = true
is_keyed (shape.Rows rows.Counted) = true
is_keyed (shape.Map sorted) = true
is_keyed (shape.Groups of) = true
is_keyed shape.BiMap = true
is_keyed other = false

abbrev pub is_list : Shape → Bool
is_list shape.List = true
is_list other = false

abbrev pub is_set : Shape → Bool
is_set (shape.Set sorted) = true
is_set other = false

abbrev pub is_bag : Shape → Bool
is_bag (shape.Bag sorted) = true
is_bag other = false

-- a collection of elements
abbrev pub is_elements : Shape → Bool
is_elements shape.List = true
is_elements (shape.Set sorted) = true
is_elements shape.Coll = true
is_elements (shape.Bag sorted) = true
is_elements other = false

-- a map or a bimap
abbrev pub is_map : Shape → Bool
is_map (shape.Map sorted) = true
is_map shape.BiMap = true
is_map other = false

abbrev pub is_bimap : Shape → Bool
is_bimap shape.BiMap = true
is_bimap other = false

-- whether no two items of such a view share this part: the keys where it goes by key, and in a bimap the values, too
abbrev pub is_unique : Shape → Side → Bool
is_unique of First = is_keyed of
is_unique of Second = is_bimap of

abbrev pub is_multimap : Shape → Bool
is_multimap (shape.Multimap values sorted) = true
is_multimap other = false

abbrev pub is_table : Shape → Bool
is_table (shape.Table mirrored sorted) = true
is_table other = false

abbrev pub is_groups : Shape → Bool
is_groups (shape.Groups of) = true
is_groups other = false

abbrev pub is_range_set : Shape → Bool
is_range_set shape.RangeSet = true
is_range_set other = false

-- a range set or a range map
abbrev pub is_ranges : Shape → Bool
is_ranges shape.RangeSet = true
is_ranges shape.RangeMap = true
is_ranges other = false

abbrev pub is_graph : Shape → Bool
is_graph (shape.Graph directed) = true
is_graph other = false

-- whether edges have directions in such a view
abbrev pub is_directed : Shape → Bool
is_directed (shape.Graph directed) = directed
is_directed (shape.Rows (rows.Pair directed)) = directed
is_directed other = false

-- whether equal items stand in such a view once: in a set, and among the pairs of a multimap with sets of values
abbrev pub has_each_once : Shape → Bool
has_each_once (shape.Set sorted) = true
has_each_once (shape.Multimap values.Set sorted) = true
has_each_once (shape.Multimap values.SortedSet sorted) = true
has_each_once other = false

-- ---- what stands in a group

-- the values of a key of a multimap
abbrev pub shape_of_values : ValueShape → Shape
shape_of_values values.List = shape.List
shape_of_values values.Set = shape.Set false
shape_of_values values.SortedSet = shape.Set true
shape_of_values values.Coll = shape.Coll

abbrev pub shape_of_group : GroupSort → Shape
shape_of_group (Values of) = shape_of_values of
shape_of_group (RowCells sorted) = shape.Map sorted
shape_of_group ColumnCells = shape.Map false
