-- The table of orders of keys: what code can ask of a view tells the order in which a step puts its keys.
use Rattle.std.proofs.Common.{◌≡◌, Bool, true, false, cond, List, refl}
use Rattle.elem.specs.declared.elements.Elem.{Elem}
use Rattle.vocabulary.specs.declared.items.Side.{Side}
use Rattle.vocabulary.specs.declared.kinds.Kind.{Kind}
use Rattle.vocabulary.specs.declared.kinds.Kind.TheVariants.{LinkedListMultimap, LinkedHashMultimap, TreeBasedTable}
use Rattle.vocabulary.specs.declared.shapes.Shape.{Shape}
use Rattle.vocabulary.specs.declared.shapes.Shape.TheVariants as shape
use Rattle.vocabulary.specs.declared.steps.PlainStep.TheVariants.{Keys}
use Rattle.vocabulary.specs.declared.steps.Step.{Step}
use Rattle.vocabulary.specs.declared.steps.Step.TheVariants as step
use Rattle.vocabulary.specs.Steps.{is_columns}
use Rattle.machine.specs.Bases.{World}
use Rattle.machine.specs.KeyOrders as keys
use Rattle.machine.specs.Views.{View, group_order, has_for_map, kept_order, line_order, order_over, root, shape_at}
use Rattle.view_laws.specs.GroupOrders.{group_order_at, order_of_groups, order_of_keys, order_of_lines}
use Rattle.view_laws.specs.Lanes.{order_in}

keys_at : (kind : Kind) (for_map : Bool) (ks : List Elem) → cond for_map keys.ByFirst (kept_order kind ks) ≡ order_in ks (order_of_keys kind for_map)
keys_at kind true ks = refl
keys_at LinkedHashMultimap false ks = refl
keys_at LinkedListMultimap false ks = refl
keys_at kind false ks = refl

lines_at : (kind : Kind) (is_column : Bool) (ks : List Elem) → line_order kind is_column ≡ order_in ks (order_of_lines kind is_column)
lines_at TreeBasedTable true ks = refl
lines_at TreeBasedTable false ks = refl
lines_at kind is_column ks = refl

groups_at : (world : World) (v : View) (of : Shape) (side : Side) → group_order world v of side ≡ order_in (root world v).keys (order_of_groups (root world v).kind (has_for_map v) of side)
groups_at world v (shape.Multimap values sorted) side = keys_at (root world v).kind (has_for_map v) (root world v).keys
groups_at world v (shape.Table mirrored sorted) side = lines_at (root world v).kind (is_columns mirrored side) (root world v).keys
groups_at world v other side = refl

pub order_at : (world : World) (v : View) (it : Step) → order_over world v it ≡ order_in (root world v).keys (group_order_at world v it)
order_at world v (step.Plain Keys) = keys_at (root world v).kind (has_for_map v) (root world v).keys
order_at world v (step.Plain word) = refl
order_at world v (step.Group side made) = groups_at world v (shape_at world v) side
order_at world v it = refl
