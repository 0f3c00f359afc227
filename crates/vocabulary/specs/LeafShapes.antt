-- Steps at the foot of a path: the shape that each gives on a range set, a range map or a graph.
use Rattle.std.specs.Prelude.{Bool, false, Option, None, Some}
use Rattle.vocabulary.specs.declared.leaves.LeafForm.{LeafForm}
use Rattle.vocabulary.specs.declared.leaves.LeafForm.TheVariants as leaf
use Rattle.vocabulary.specs.declared.leaves.LeafStep.{LeafStep}
use Rattle.vocabulary.specs.declared.leaves.LeafStep.TheVariants as step
use Rattle.vocabulary.specs.declared.leaves.Near.TheVariants as near
use Rattle.vocabulary.specs.declared.shapes.RowSort.TheVariants as rows
use Rattle.vocabulary.specs.declared.shapes.Shape.{Shape}
use Rattle.vocabulary.specs.declared.shapes.Shape.TheVariants as shape

abbrev pub on_range_set : LeafForm → Option Shape
on_range_set leaf.Complement = Some shape.RangeSet
on_range_set leaf.Part = Some shape.RangeSet
on_range_set leaf.Lock = Some shape.RangeSet
on_range_set leaf.Ranges = Some (shape.Rows rows.Range)
on_range_set other = None

abbrev pub on_range_map : LeafForm → Option Shape
on_range_map leaf.Part = Some shape.RangeMap
on_range_map leaf.Lock = Some shape.RangeMap
on_range_map leaf.Ranges = Some (shape.Rows rows.RangeEntry)
on_range_map other = None

abbrev pub on_graph : Bool → LeafForm → Option Shape
on_graph directed leaf.Transpose = Some (shape.Graph directed)
on_graph directed leaf.Lock = Some (shape.Graph directed)
on_graph directed leaf.Edges = Some (shape.Rows (rows.Pair directed))
on_graph directed (leaf.Near near.Incident) = Some (shape.Rows (rows.Pair directed))
on_graph directed leaf.Nodes = Some (shape.Set false)
on_graph directed (leaf.Near word) = Some (shape.Set false)
on_graph directed other = None

abbrev pub leaf_shape : Shape → LeafForm → Option Shape
leaf_shape shape.RangeSet word = on_range_set word
leaf_shape shape.RangeMap word = on_range_map word
leaf_shape (shape.Graph directed) word = on_graph directed word
leaf_shape other word = None

-- a step without its arguments
abbrev pub form_of_leaf_step : LeafStep → LeafForm
form_of_leaf_step step.Complement = leaf.Complement
form_of_leaf_step (step.Part w) = leaf.Part
form_of_leaf_step step.Ranges = leaf.Ranges
form_of_leaf_step step.Nodes = leaf.Nodes
form_of_leaf_step step.Edges = leaf.Edges
form_of_leaf_step step.Transpose = leaf.Transpose
form_of_leaf_step (step.Near word a) = leaf.Near word
form_of_leaf_step step.Lock = leaf.Lock
