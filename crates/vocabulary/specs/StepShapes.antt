-- The table of steps, its first column: the shape that a step gives on a view of a shape, where the table has it.
use Rattle.std.specs.Prelude.{Bool, false, not, Option, None, Some, if◌then◌else◌}
use Rattle.vocabulary.specs.declared.items.Side.TheVariants.{First}
use Rattle.vocabulary.specs.declared.shapes.GroupSort.{GroupSort}
use Rattle.vocabulary.specs.declared.shapes.GroupSort.TheVariants as groups
use Rattle.vocabulary.specs.declared.shapes.RowSort.TheVariants as rows
use Rattle.vocabulary.specs.declared.shapes.Shape.{Shape}
use Rattle.vocabulary.specs.declared.shapes.Shape.TheVariants as shape
use Rattle.vocabulary.specs.declared.shapes.ValueShape.{ValueShape}
use Rattle.vocabulary.specs.declared.shapes.ValueShape.TheVariants as values
use Rattle.vocabulary.specs.declared.steps.PlainStep.TheVariants.{Reverse, KeySet, Values, EntrySet, Keys, Descending, Inverse, Transpose, ForMap, Unmodifiable}
use Rattle.vocabulary.specs.declared.steps.FilterStep.TheVariants as filter
use Rattle.vocabulary.specs.declared.steps.ChangeStep.TheVariants.{Transform, TransformValues, AsMap}
use Rattle.vocabulary.specs.declared.steps.GroupForm.TheVariants as group
use Rattle.vocabulary.specs.declared.steps.JoinStep.{JoinStep}
use Rattle.vocabulary.specs.declared.steps.JoinStep.TheVariants.{Union, Intersection, Difference, SymmetricDifference, BagUnion, BagSum, BagIntersection, BagDifference}
use Rattle.vocabulary.specs.declared.steps.Step.{Step}
use Rattle.vocabulary.specs.declared.steps.StepForm.{StepForm}
use Rattle.vocabulary.specs.declared.steps.StepForm.TheVariants as form
use Rattle.vocabulary.specs.LeafShapes.{leaf_shape}
use Rattle.vocabulary.specs.Shapes.{is_set, is_bag, shape_of_values, shape_of_group}
use Rattle.vocabulary.specs.Steps.{form_of_step, is_columns}

abbrev pub where_sorted : Bool → Shape → Option Shape
where_sorted sorted given = if sorted then Some given else None

abbrev pub on_list : StepForm → Option Shape
on_list (form.Plain Reverse) = Some shape.List
on_list (form.Change Transform) = Some shape.List
on_list (form.Filter filter.Filter) = Some shape.Coll
on_list (form.Plain Unmodifiable) = Some shape.List
on_list form.Sub = Some shape.List
on_list form.Partition = Some shape.Pieces
on_list form.Piece = Some shape.List
on_list step = None

abbrev pub on_coll : StepForm → Option Shape
on_coll (form.Filter filter.Filter) = Some shape.Coll
on_coll (form.Change Transform) = Some shape.Coll
on_coll (form.Plain Unmodifiable) = Some shape.Coll
on_coll step = None

abbrev pub on_set : Bool → StepForm → Option Shape
on_set sorted (form.Change Transform) = Some shape.Coll
on_set sorted (form.Filter filter.Filter) = Some (shape.Set sorted)
on_set sorted form.Within = where_sorted sorted (shape.Set sorted)
on_set sorted (form.Plain Descending) = where_sorted sorted (shape.Set sorted)
on_set sorted (form.Change AsMap) = Some (shape.Map sorted)
on_set sorted (form.Plain Unmodifiable) = Some (shape.Set sorted)
on_set sorted (form.Join Union) = Some (shape.Set false)
on_set sorted (form.Join Intersection) = Some (shape.Set false)
on_set sorted (form.Join Difference) = Some (shape.Set false)
on_set sorted (form.Join SymmetricDifference) = Some (shape.Set false)
on_set sorted step = None

abbrev pub on_bag : Bool → StepForm → Option Shape
on_bag sorted (form.Filter filter.Filter) = Some (shape.Bag false)
on_bag sorted form.Within = where_sorted sorted (shape.Bag sorted)
on_bag sorted (form.Plain Descending) = where_sorted sorted (shape.Bag sorted)
on_bag sorted (form.Group First group.Keys) = Some (shape.Set sorted)
on_bag sorted (form.Group First group.Counts) = Some (shape.Rows rows.Counted)
on_bag sorted (form.Plain Unmodifiable) = Some (shape.Bag sorted)
on_bag sorted (form.Join BagUnion) = Some (shape.Bag false)
on_bag sorted (form.Join BagSum) = Some (shape.Bag false)
on_bag sorted (form.Join BagIntersection) = Some (shape.Bag false)
on_bag sorted (form.Join BagDifference) = Some (shape.Bag false)
on_bag sorted step = None

abbrev pub on_map : Bool → StepForm → Option Shape
on_map sorted form.Within = where_sorted sorted (shape.Map sorted)
on_map sorted (form.Plain Descending) = where_sorted sorted (shape.Map sorted)
on_map sorted (form.Plain KeySet) = Some (shape.Set sorted)
on_map sorted (form.Plain Values) = Some shape.Coll
on_map sorted (form.Plain EntrySet) = Some (shape.Rows rows.Entry)
on_map sorted (form.Filter filter.FilterKeys) = Some (shape.Map sorted)
on_map sorted (form.Filter filter.FilterValues) = Some (shape.Map sorted)
on_map sorted form.FilterPairs = Some (shape.Map sorted)
on_map sorted (form.Change TransformValues) = Some (shape.Map sorted)
on_map sorted (form.Plain ForMap) = Some (shape.Multimap values.Set false)
on_map sorted (form.Plain Unmodifiable) = Some (shape.Map sorted)
on_map sorted step = None

abbrev pub on_bimap : StepForm → Option Shape
on_bimap (form.Plain KeySet) = Some (shape.Set false)
on_bimap (form.Plain Values) = Some (shape.Set false)
on_bimap (form.Plain EntrySet) = Some (shape.Rows rows.Entry)
on_bimap (form.Filter filter.FilterKeys) = Some shape.BiMap
on_bimap (form.Filter filter.FilterValues) = Some shape.BiMap
on_bimap form.FilterPairs = Some shape.BiMap
on_bimap (form.Change TransformValues) = Some (shape.Map false)
on_bimap (form.Plain ForMap) = Some (shape.Multimap values.Set false)
on_bimap (form.Plain Inverse) = Some shape.BiMap
on_bimap (form.Plain Unmodifiable) = Some shape.BiMap
on_bimap step = None

abbrev pub on_groups : GroupSort → StepForm → Option Shape
on_groups of (form.Plain KeySet) = Some (shape.Set false)
on_groups of (form.Plain EntrySet) = Some (shape.Rows rows.Group)
on_groups of (form.Filter filter.FilterKeys) = Some (shape.Groups of)
on_groups of form.Member = Some (shape_of_group of)
on_groups of step = None

-- the values of a key where keys are filtered, where values are, and where values are made others
abbrev pub filtered_by_key : ValueShape → ValueShape
filtered_by_key values.SortedSet = values.Set
filtered_by_key of = of

abbrev pub filtered_by_value : ValueShape → ValueShape
filtered_by_value values.List = values.Coll
filtered_by_value values.SortedSet = values.Set
filtered_by_value of = of

abbrev pub made_others : ValueShape → ValueShape
made_others values.List = values.List
made_others of = values.Coll

-- a multimap whose keys are not sorted
abbrev pub unsorted : ValueShape → Shape
unsorted of = shape.Multimap of false

abbrev pub on_multimap : ValueShape → Bool → StepForm → Option Shape
on_multimap of sorted (form.At First) = Some (shape_of_values of)
on_multimap of sorted (form.Group First group.Keys) = Some (shape.Set sorted)
on_multimap of sorted (form.Plain Keys) = Some (shape.Bag false)
on_multimap of sorted (form.Plain Values) = Some shape.Coll
on_multimap of sorted (form.Plain EntrySet) = Some (shape.Rows rows.MultiEntry)
on_multimap of sorted (form.Group First group.Members) = Some (shape.Groups (groups.Values of))
on_multimap of sorted (form.Filter filter.FilterKeys) = Some (unsorted (filtered_by_key of))
on_multimap of sorted (form.Filter filter.FilterValues) = Some (unsorted (filtered_by_value of))
on_multimap of sorted form.FilterPairs = Some (unsorted (filtered_by_value of))
on_multimap of sorted (form.Change TransformValues) = Some (unsorted (made_others of))
on_multimap of sorted (form.Plain Unmodifiable) = Some (shape.Multimap of sorted)
on_multimap of sorted step = None

-- rows, and the cells of one; only those of a table that is not mirrored may be sorted
abbrev pub cells_at : Bool → Bool → Shape
cells_at is_column sorted = shape.Map (if is_column then false else sorted)

abbrev pub keys_along : Bool → Bool → Shape
keys_along is_column sorted = shape.Set (if is_column then false else sorted)

abbrev pub groups_along : Bool → Bool → GroupSort
groups_along is_column sorted = if is_column then groups.ColumnCells else groups.RowCells sorted

abbrev pub on_table : Bool → Bool → StepForm → Option Shape
on_table mirrored sorted (form.At side) = Some (cells_at (is_columns mirrored side) sorted)
on_table mirrored sorted (form.Group side group.Keys) = Some (keys_along (is_columns mirrored side) sorted)
on_table mirrored sorted (form.Group side group.Members) = Some (shape.Groups (groups_along (is_columns mirrored side) sorted))
on_table mirrored sorted (form.Plain EntrySet) = Some (shape.Rows rows.Cell)
on_table mirrored sorted (form.Plain Values) = Some shape.Coll
on_table mirrored sorted (form.Plain Transpose) = Some (shape.Table (not mirrored) false)
on_table mirrored sorted (form.Change TransformValues) = Some (shape.Table mirrored false)
on_table mirrored sorted (form.Plain Unmodifiable) = Some (shape.Table mirrored sorted)
on_table mirrored sorted step = None

-- a piece is a list; what it is a step over is the list under the partition
abbrev pub on_pieces : StepForm → Option Shape
on_pieces form.Piece = Some shape.List
on_pieces step = None

abbrev pub on_leaf : Shape → StepForm → Option Shape
on_leaf of (form.Leaf step) = leaf_shape of step
on_leaf of step = None

abbrev pub apply_form : Shape → StepForm → Option Shape
apply_form shape.List step = on_list step
apply_form (shape.Set sorted) step = on_set sorted step
apply_form shape.Coll step = on_coll step
apply_form (shape.Rows sort) step = None
apply_form (shape.Map sorted) step = on_map sorted step
apply_form (shape.Groups of) step = on_groups of step
apply_form (shape.Bag sorted) step = on_bag sorted step
apply_form shape.BiMap step = on_bimap step
apply_form (shape.Multimap of sorted) step = on_multimap of sorted step
apply_form (shape.Table mirrored sorted) step = on_table mirrored sorted step
apply_form shape.Pieces step = on_pieces step
apply_form shape.RangeSet step = on_leaf shape.RangeSet step
apply_form shape.RangeMap step = on_leaf shape.RangeMap step
apply_form (shape.Graph directed) step = on_leaf (shape.Graph directed) step
apply_form (shape.Builder kind) step = None

abbrev pub apply : Shape → Step → Option Shape
apply of step = apply_form of (form_of_step step)

-- the shape of a step with another view, which has the shape of the receiver but for the order
abbrev pub is_alike : Shape → Shape → Bool
is_alike (shape.Set a) other = is_set other
is_alike (shape.Bag a) other = is_bag other
is_alike on other = false

abbrev pub apply_join : Shape → JoinStep → Shape → Option Shape
apply_join on word other = if is_alike on other then apply_form on (form.Join word) else None
