-- The lanes of a table along which it is walked, one call a row.
use Rattle.std.specs.Prelude.{◌≡◌, true}
use Rattle.vocabulary.specs.declared.kinds.Kind.{Kind}
use Rattle.vocabulary.specs.Kinds.{order_of_kind, shape_of_kind}
use Rattle.vocabulary.specs.Orders.{upto}
use Rattle.vocabulary.specs.Shapes.{is_sorted}
use Rattle.view_laws.specs.declared.lanes.Lane.{Lane}
use Rattle.view_laws.specs.declared.lanes.PartAsk.{PartAsk}
use Rattle.view_laws.specs.declared.lanes.PartAsk.TheVariants.{Is, Within, Nothing}
use Rattle.view_laws.specs.declared.lanes.Pick.TheVariants.{Each}

-- what may be asked of the rows of the table: all, one, or none
abbrev pub ServesRows : PartAsk → Type 0
ServesRows (Within order w) = ⊥
ServesRows other = Unit {0}

-- what may be asked of its columns beside that: the same, and in one row of a sorted table a window in its order that
-- does not end before it starts
abbrev pub ServesColumns : Kind → PartAsk → PartAsk → Type 0
ServesColumns kind (Is r) (Within order w) = (is_sorted (shape_of_kind kind) ≡ true) × (order ≡ order_of_kind kind) × (upto order w.lo w.hi ≡ true)
ServesColumns kind Nothing (Within order w) = Unit {0}
ServesColumns kind rows (Within order w) = ⊥
ServesColumns kind rows other = Unit {0}

pub record ServesCells (kind : Kind) (lane : Lane) : Type 0 where
  pub rows : ServesRows lane.first
  pub columns : ServesColumns kind lane.first lane.second
  pub each : lane.pick ≡ Each
