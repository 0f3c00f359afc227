-- Views: what they show, what they are, and what they allow.
use Rattle.std.specs.Prelude.{ℕ, ◌+◌, max, Bool, true, false, not, ◌||◌, if◌then◌else◌, List, [], map, filter, Option, None, Some, ◌∷◌, length, ◌++◌}
use Rattle.std.specs.Option.{option_and_then, unwrap_or}
use Rattle.elem.specs.declared.elements.Elem.{Elem}
use Rattle.vocabulary.specs.declared.items.Item.{Item}
use Rattle.vocabulary.specs.declared.items.Side.{Side}
use Rattle.vocabulary.specs.declared.kinds.Kind.{Kind}
use Rattle.vocabulary.specs.declared.kinds.Kind.TheVariants.{LinkedListMultimap, LinkedHashMultimap, TreeBasedTable}
use Rattle.vocabulary.specs.declared.orders.Order.TheVariants.{Natural}
use Rattle.vocabulary.specs.declared.shapes.Shape.{Shape}
use Rattle.vocabulary.specs.declared.shapes.Shape.TheVariants as shape
use Rattle.vocabulary.specs.declared.steps.Flags.{Flags}
use Rattle.vocabulary.specs.declared.steps.JoinStep.{JoinStep}
use Rattle.vocabulary.specs.declared.steps.PlainStep.TheVariants.{Keys, ForMap}
use Rattle.vocabulary.specs.declared.steps.Step.{Step}
use Rattle.vocabulary.specs.declared.steps.Step.TheVariants.{Plain, Group}
use Rattle.vocabulary.specs.Steps as table
use Rattle.machine.specs.Bases.{Base, World, base_at}
use Rattle.machine.specs.Candidates.{Candidate, in_family, is_seen, item_in, of_rows}
use Rattle.machine.specs.Joins.{in_join}
use Rattle.machine.specs.KeyOrders.{AsTheyCome, ByFirst, Kept, KeyOrder, Sorted}
use Rattle.machine.specs.Leaves.{Leaf, leaf_at}
use Rattle.vocabulary.specs.Kinds.{shape_of_kind}
use Rattle.vocabulary.specs.StepShapes.{apply, apply_join}
use Rattle.vocabulary.specs.Steps.{family_of, is_columns, steps_in}

-- a view: what stands at a leaf, a step over a view, or a step over two views
pub data View : Type 0 where
  base : Leaf → View
  over : Step → View → View
  both : JoinStep → View → View → View

-- ---- where a view stands

-- the leaf under a view; under two views, that of the first
abbrev pub base_under : View → Leaf
base_under (base l) = l
base_under (over step v) = base_under v
base_under (both word v u) = base_under v

-- the base under a view
abbrev pub root : World → View → Base
root world v = base_at world (base_under v).number

-- the numbers of the bases that a view is read from, from left to right
abbrev pub bases_of : View → List ℕ
bases_of (base l) = l.number ∷ []
bases_of (over step v) = bases_of v
bases_of (both word v u) = bases_of v ++ bases_of u

-- how many steps lead to a view, along the longer way where there are two
abbrev pub path : View → ℕ
path (base l) = length l.steps
path (over step v) = path v + steps_in step
path (both word v u) = max (path v) (path u) + 1

-- how many bases a view is read from, each as often as it is named
abbrev pub weight : View → ℕ
weight (base l) = 1
weight (over step v) = weight v
weight (both word v u) = weight v + weight u

-- ---- what a view is

-- a step that the table doesn't have leaves the shape
abbrev pub shape_after : Shape → Option Shape → Shape
shape_after below given = unwrap_or given below

-- the shape of a view
abbrev pub shape_at : World → View → Shape
shape_at world (base l) = shape_of_kind (leaf_at world l).kind
shape_at world (over step v) = shape_after (shape_at world v) (apply (shape_at world v) step)
shape_at world (both word v u) = shape_after (shape_at world v) (apply_join (shape_at world v) word (shape_at world u))

-- what a view allows: a base everything unless it is frozen, each step as the table says, and two views together nothing
abbrev pub flags_at : World → View → Flags
flags_at world (base l) = let open_base = not (leaf_at world l).frozen in record { add = open_base; remove = open_base; iterate = open_base }
flags_at world (over step v) = table.flags_after (shape_at world v) step (flags_at world v)
flags_at world (both word v u) = table.nothing

-- ---- how keys go

-- whether a map was made a multimap on the way
abbrev pub is_for_map : Step → Bool
is_for_map (Plain ForMap) = true
is_for_map step = false

abbrev pub has_for_map : View → Bool
has_for_map (base l) = false
has_for_map (over step v) = is_for_map step || has_for_map v
has_for_map (both word v u) = has_for_map v || has_for_map u

-- the keys of a multimap that is a base of a kind and keeps these keys
abbrev pub kept_order : Kind → List Elem → KeyOrder
kept_order LinkedHashMultimap keys = Kept keys
kept_order LinkedListMultimap keys = AsTheyCome
kept_order kind keys = ByFirst

-- the keys of a multimap view: as its base keeps them, unless a map was made a multimap on the way
abbrev pub key_order : World → View → KeyOrder
key_order world v = if has_for_map v then ByFirst else kept_order (root world v).kind (root world v).keys

-- the rows and the columns of a table view: only the columns of a sorted base are in an order of their own
abbrev pub line_order : Kind → Bool → KeyOrder
line_order TreeBasedTable true = Sorted Natural
line_order kind is_column = ByFirst

-- the keys of the groups of a view
abbrev pub group_order : World → View → Shape → Side → KeyOrder
group_order world v (shape.Multimap of sorted) side = key_order world v
group_order world v (shape.Table mirrored sorted) side = line_order (root world v).kind (is_columns mirrored side)
group_order world v other side = ByFirst

-- in which order a step over a view puts keys
abbrev pub order_over : World → View → Step → KeyOrder
order_over world v (Plain Keys) = key_order world v
order_over world v (Group side made) = group_order world v (shape_at world v) side
order_over world v step = ByFirst

-- ---- what a view shows

-- the candidates of a view, in the order of its walk
abbrev pub candidates : World → View → List Candidate
candidates world (base l) = of_rows 0 (leaf_at world l).rows
candidates world (over step v) = in_family (family_of step) step (order_over world v step) (candidates world v)
candidates world (both word v u) = in_join word (candidates world v) (candidates world u)

-- the items shown, in order
abbrev pub shown : World → View → List Item
shown world v = map item_in (filter is_seen (candidates world v))

-- the row that an added item means, where each step lets it through
abbrev pub lift : View → Item → Option Item
lift (base l) item = Some item
lift (over step v) item = option_and_then (lift v) (table.lifted step item)
lift (both word v u) item = None
