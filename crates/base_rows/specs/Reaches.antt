-- Removals that look at a part of the rows of a base.
use Rattle.std.specs.Prelude.{◌≡◌, Bool, true, is_some}
use Rattle.elem.specs.Keyed.{value_at}
use Rattle.base_rows.specs.declared.reach.Reach.{Reach}
use Rattle.base_rows.specs.declared.reach.Reach.TheVariants.{Whole, Along, At}
use Rattle.vocabulary.specs.declared.items.Item.{Item}
use Rattle.vocabulary.specs.declared.kinds.Kind.{Kind}
use Rattle.vocabulary.specs.declared.items.Side.{Side}
use Rattle.vocabulary.specs.declared.items.Side.TheVariants.{First, Second}
use Rattle.vocabulary.specs.Items.{part_of}
use Rattle.vocabulary.specs.Kinds.{shape_of_kind}
use Rattle.vocabulary.specs.Shapes.{is_bimap}
use Rattle.view_laws.specs.ItemForms.{has_form}
use Rattle.view_laws.specs.Lanes.{takes}
use Rattle.view_laws.specs.Serving.{Serves}

-- a part by which rows are looked for: the key, and in a bimap the value, too
abbrev pub IsSideOf : Kind → Side → Type 0
IsSideOf kind First = Unit {0}
IsSideOf kind Second = is_bimap (shape_of_kind kind) ≡ true

-- the removal looks at each row of such a base that passes
abbrev pub Reaches : Kind → Reach → (Item → Bool) → Type 0
Reaches kind Whole passes = (row : Item) → passes row ≡ true
Reaches kind (Along lane) passes = Serves kind lane.now × ((row : Item) → has_form (shape_of_kind kind) row ≡ true → passes row ≡ true → takes lane.now row ≡ true)
Reaches kind (At side keys) passes = IsSideOf kind side × ((row : Item) → has_form (shape_of_kind kind) row ≡ true → passes row ≡ true → is_some (value_at keys.now (part_of side row)) ≡ true)
