-- In which order a step puts keys, by what code can ask of the view below it.
use Rattle.std.specs.Prelude.{◌≡◌, Bool, true, false}
use Rattle.vocabulary.specs.declared.items.Side.{Side}
use Rattle.vocabulary.specs.declared.kinds.Kind.{Kind}
use Rattle.vocabulary.specs.declared.kinds.Kind.TheVariants.{LinkedListMultimap, LinkedHashMultimap, TreeBasedTable}
use Rattle.vocabulary.specs.declared.orders.Order.TheVariants.{Natural}
use Rattle.vocabulary.specs.declared.shapes.Shape.{Shape}
use Rattle.vocabulary.specs.declared.shapes.Shape.TheVariants as shape
use Rattle.vocabulary.specs.declared.steps.PlainStep.TheVariants.{Keys}
use Rattle.vocabulary.specs.declared.steps.Step.{Step}
use Rattle.vocabulary.specs.declared.steps.Step.TheVariants.{Plain, Group}
use Rattle.vocabulary.specs.Steps.{is_columns}
use Rattle.machine.specs.Bases.{World}
use Rattle.machine.specs.Views.{View, has_for_map, order_over, root, shape_at}
use Rattle.view_laws.specs.declared.lanes.GroupOrder.{GroupOrder}
use Rattle.view_laws.specs.declared.lanes.GroupOrder.TheVariants.{AsTheyCome, ByFirst, OfBase, Sorted}
use Rattle.view_laws.specs.Lanes.{order_in}

-- the keys of a multimap view: its base's kind tells, unless a map was made a multimap on the way
abbrev pub order_of_keys : Kind → Bool → GroupOrder
order_of_keys kind true = ByFirst
order_of_keys LinkedHashMultimap false = OfBase
order_of_keys LinkedListMultimap false = AsTheyCome
order_of_keys kind false = ByFirst

-- the rows and the columns of a table view
abbrev pub order_of_lines : Kind → Bool → GroupOrder
order_of_lines TreeBasedTable true = Sorted Natural
order_of_lines kind is_column = ByFirst

abbrev pub order_of_groups : Kind → Bool → Shape → Side → GroupOrder
order_of_groups kind for_map (shape.Multimap of sorted) side = order_of_keys kind for_map
order_of_groups kind for_map (shape.Table mirrored sorted) side = order_of_lines kind (is_columns mirrored side)
order_of_groups kind for_map other side = ByFirst

-- over a view of this shape, whose base is of this kind
abbrev pub order_on : Kind → Bool → Shape → Step → GroupOrder
order_on kind for_map of (Plain Keys) = order_of_keys kind for_map
order_on kind for_map of (Group side made) = order_of_groups kind for_map of side
order_on kind for_map of it = ByFirst

abbrev pub group_order_at : World → View → Step → GroupOrder
group_order_at world v it = order_on (root world v).kind (has_for_map v) (shape_at world v) it

-- it is the order in which the step puts them, where the base keeps keys as it does
abbrev pub OrderAt : Type 0
OrderAt = (world : World) (v : View) (it : Step) → order_over world v it ≡ order_in (root world v).keys (group_order_at world v it)
