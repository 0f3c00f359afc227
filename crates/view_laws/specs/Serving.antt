-- The lanes of a base along which it is walked, one call a row.
use Rattle.std.specs.Prelude.{◌≡◌, Bool, true, ◌||◌}
use Rattle.elem.specs.declared.elements.Elem.{Elem}
use Rattle.vocabulary.specs.declared.items.Side.{Side}
use Rattle.vocabulary.specs.declared.items.Side.TheVariants.{First, Second}
use Rattle.vocabulary.specs.declared.kinds.Kind.{Kind}
use Rattle.vocabulary.specs.Kinds.{order_of_kind, shape_of_kind}
use Rattle.vocabulary.specs.Orders.{upto}
use Rattle.vocabulary.specs.Shapes.{is_sorted, is_unique}
use Rattle.view_laws.specs.declared.lanes.Lane.{Lane}
use Rattle.view_laws.specs.declared.lanes.PartAsk.{PartAsk}
use Rattle.view_laws.specs.declared.lanes.PartAsk.TheVariants.{Any, Is, Within, Nothing}
use Rattle.view_laws.specs.declared.lanes.Pick.TheVariants.{Each}
use Rattle.view_laws.specs.Narrowing.{asking, is_any}

-- what may be asked of a part of its rows: one element where no two rows share that part, a window of keys where it is
-- sorted in that order
abbrev pub ServesPart : Kind → Side → PartAsk → Type 0
ServesPart kind side Any = Unit {0}
ServesPart kind side (Is x) = is_unique (shape_of_kind kind) side ≡ true
ServesPart kind First (Within order w) = (is_sorted (shape_of_kind kind) ≡ true) × (order ≡ order_of_kind kind) × (upto order w.lo w.hi ≡ true)
ServesPart kind Second (Within order w) = ⊥
ServesPart kind side Nothing = Unit {0}

-- a lane of a base of a kind, which asks of one part at most
pub record Serves (kind : Kind) (lane : Lane) : Type 0 where
  pub keys : ServesPart kind First lane.first
  pub values : ServesPart kind Second lane.second
  pub one : is_any lane.first || is_any lane.second ≡ true
  pub each : lane.pick ≡ Each

-- the lane that asks for one element in a part
abbrev pub of_part : Side → Elem → Lane
of_part First x = asking (Is x) Any
of_part Second x = asking Any (Is x)
