-- The shapes of lists, sets, maps and bimaps, and of the known views of them.
use Rattle.std.specs.Prelude.{Bool, true, false}
use Rattle.vocabulary.specs.declared.shapes.RowSort.TheVariants as rows
use Rattle.vocabulary.specs.declared.shapes.Shape.{Shape}
use Rattle.vocabulary.specs.declared.shapes.Shape.TheVariants as shape

abbrev pub is_known_shape : Shape → Bool
is_known_shape shape.List = true
is_known_shape (shape.Set sorted) = true
is_known_shape shape.Coll = true
is_known_shape (shape.Rows rows.Entry) = true
is_known_shape (shape.Map sorted) = true
is_known_shape shape.BiMap = true
is_known_shape other = false
