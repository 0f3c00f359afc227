-- What a step tells of the items of a view, by the view's shape alone; and the narrowing of lanes by what is told so.
use Rattle.std.specs.Prelude.{◌≡◌, Bool, true, false, not, ◌&&◌, ◌||◌, if◌then◌else◌, Option, None}
use Rattle.vocabulary.specs.declared.items.Item.{Item}
use Rattle.vocabulary.specs.declared.items.Side.{Side}
use Rattle.vocabulary.specs.declared.items.Side.TheVariants.{First, Second}
use Rattle.vocabulary.specs.declared.shapes.RowSort.TheVariants as rows
use Rattle.vocabulary.specs.declared.shapes.Shape.{Shape}
use Rattle.vocabulary.specs.declared.shapes.Shape.TheVariants as shape
use Rattle.vocabulary.specs.declared.steps.ChangeStep.TheVariants.{TransformValues}
use Rattle.vocabulary.specs.declared.steps.PlainStep.TheVariants.{Values, Inverse, Transpose}
use Rattle.vocabulary.specs.declared.steps.Step.{Step}
use Rattle.vocabulary.specs.declared.steps.Step.TheVariants as step
use Rattle.view_laws.specs.declared.lanes.GroupOrder.{GroupOrder}
use Rattle.view_laws.specs.declared.lanes.Lane.{Lane}
use Rattle.view_laws.specs.ItemForms.{has_form}
use Rattle.view_laws.specs.Narrowing.{asks_part, narrow, tells}

-- ---- which items a view of a shape may show

abbrev pub may_have_cells : Shape → Bool
may_have_cells (shape.Table mirrored sorted) = true
may_have_cells (shape.Rows rows.Cell) = true
may_have_cells (shape.Builder kind) = true
may_have_cells other = false

abbrev pub may_have_entries : Shape → Bool
may_have_entries (shape.Map sorted) = true
may_have_entries shape.BiMap = true
may_have_entries (shape.Multimap of sorted) = true
may_have_entries (shape.Rows rows.Entry) = true
may_have_entries (shape.Rows rows.MultiEntry) = true
may_have_entries (shape.Builder kind) = true
may_have_entries other = false

-- items with a value and no key
abbrev pub may_lack_keys : Shape → Bool
may_lack_keys shape.RangeMap = true
may_lack_keys (shape.Rows rows.RangeEntry) = true
may_lack_keys (shape.Graph directed) = true
may_lack_keys (shape.Builder kind) = true
may_lack_keys other = false

-- ---- whether a part above a step comes from the part below that the table says, for each item of a view of a shape
abbrev pub tells_on : Shape → Step → Side → Bool
tells_on of (step.Plain Values) side = not (may_have_cells of)
tells_on of (step.Plain Inverse) side = not (may_lack_keys of)
tells_on of (step.Plain Transpose) side = not (may_lack_keys of)
tells_on of (step.Change TransformValues f) Second = not (may_have_entries of)
tells_on of (step.At First k n) First = not (may_lack_keys of)
tells_on of (step.At First k n) Second = not (may_have_cells of)
tells_on of (step.At Second k n) Second = not (may_have_cells of || may_lack_keys of)
tells_on of it side = true

-- whether that is so of a part, if a lane asks of it
abbrev pub told_if_asked : Shape → Step → Lane → Side → Bool
told_if_asked of it lane side = not (asks_part lane side) || tells_on of it side

-- the lane below a step on a view of a shape, where each part that the lane above asks of is told
abbrev pub narrow_on : Shape → GroupOrder → Step → Lane → Option Lane
narrow_on of order it lane = if told_if_asked of it lane First && told_if_asked of it lane Second then narrow order it lane else None

-- what is told of a shape is told of each of its items
abbrev pub ToldOnShape : Type 0
ToldOnShape = (of : Shape) (it : Step) (side : Side) (item : Item) → has_form of item ≡ true → tells_on of it side ≡ true → tells it side item ≡ true
