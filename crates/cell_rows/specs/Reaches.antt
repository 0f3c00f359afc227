-- Removals that look at a part of the rows of a table.
use Rattle.std.specs.Prelude.{◌≡◌, Bool, true, not, ◌&&◌, List, filter, is_some}
use Rattle.elem.specs.Keyed.{value_at}
use Rattle.cell_rows.specs.declared.reach.Reach.{Reach}
use Rattle.cell_rows.specs.declared.reach.Reach.TheVariants.{Whole, Along, At}
use Rattle.cell_rows.specs.Serving.{ServesCells}
use Rattle.vocabulary.specs.declared.items.Item.{Item}
use Rattle.vocabulary.specs.declared.kinds.Kind.{Kind}
use Rattle.vocabulary.specs.Items.{part_of}
use Rattle.vocabulary.specs.Kinds.{shape_of_kind}
use Rattle.view_laws.specs.ItemForms.{has_form}
use Rattle.view_laws.specs.Lanes.{takes}

-- the rows without those within a reach that pass
abbrev pub but : (passes within : Item → Bool) → List Item → List Item
but passes within rows = filter (λ row. not (within row && passes row)) rows

-- the removal looks at each row of such a table that passes
abbrev pub Reaches : Kind → Reach → (Item → Bool) → Type 0
Reaches kind Whole passes = (row : Item) → passes row ≡ true
Reaches kind (Along lane) passes = ServesCells kind lane.now × ((row : Item) → has_form (shape_of_kind kind) row ≡ true → passes row ≡ true → takes lane.now row ≡ true)
Reaches kind (At side parts) passes = (row : Item) → has_form (shape_of_kind kind) row ≡ true → passes row ≡ true → is_some (value_at parts.now (part_of side row)) ≡ true
