-- The item of a row in a view that goes row by row has the form of the view's shape.
use Rattle.std.proofs.Common.{◌≡◌, true, false}
use Rattle.vocabulary.specs.declared.items.Item.{Item}
use Rattle.vocabulary.specs.declared.shapes.Shape.{Shape}
use Rattle.vocabulary.specs.declared.step_table.Family.{Family}
use Rattle.vocabulary.specs.declared.step_table.Family.TheVariants.{Same, Changed, Turned, Keyed, Hidden, Cut, Grouped, Run, Pieces}
use Rattle.vocabulary.specs.declared.steps.Step.{Step}
use Rattle.vocabulary.specs.Kinds.{shape_of_kind}
use Rattle.vocabulary.specs.StepShapes.{apply}
use Rattle.vocabulary.specs.Steps.{family_of}
use Rattle.machine.specs.Bases.{World}
use Rattle.machine.specs.KeyOrders.{KeyOrder}
use Rattle.machine.specs.Leaves.{leaf_at}
use Rattle.machine.specs.MadeViews.{IsMade}
use Rattle.machine.specs.Views.{View, base, both, over, base_under, order_over, shape_at}
use Rattle.view_laws.specs.ItemForms.{has_form, is_pieces, stands_on_pieces}
use Rattle.view_laws.specs.RowForm.{RowForm, form_of, form_over, goes_by_row, is_by_row}
use Rattle.view_laws.proofs.FormLemmas.{given_shape}
use Rattle.view_laws.proofs.FormTable.{FormIn, form_after}
use Rattle.view_laws.proofs.ListLemmas.{both_true, neither_true}

item_over_form : (of : Family) (it : Step) (order : KeyOrder) (below given : Shape) (f : RowForm) (row : Item) → goes_by_row of order ≡ true → FormIn of it below given → has_form below (f.item row) ≡ true → has_form given ((form_over of it f).item row) ≡ true
item_over_form Same it order below given f row ok form h = form (f.item row) h
item_over_form Changed it order below given f row ok form h = form (f.item row) h
item_over_form Turned it order below given f row ok form h = form (f.item row) h
item_over_form Keyed it order below given f row ok form h = form (f.item row) h
item_over_form Hidden it order below given f row ok form h = form (f.item row) h
item_over_form Cut it order below given f row ok form h = form (f.item row) h
item_over_form Grouped it order below given f row ok form h = absurd (cc)
item_over_form Run it order below given f row ok form h = absurd (cc)
item_over_form Pieces it order below given f row ok form h = absurd (cc)

pub item_form : (world : World) (v : View) (row : Item) → IsMade world v → stands_on_pieces world v ≡ false → is_by_row world v ≡ true → has_form (shape_of_kind (leaf_at world (base_under v)).kind) row ≡ true
    → has_form (shape_at world v) ((form_of v).item row) ≡ true
item_form world (base l) row made apart ok h = h
item_form world (over it v) row made apart ok h =
    let parts = both_true (goes_by_row (family_of it) (order_over world v it)) (is_by_row world v) ok in
    let free = neither_true (is_pieces (shape_at world v)) (stands_on_pieces world v) apart in
    item_over_form (family_of it) it (order_over world v it) (shape_at world v) (shape_at world (over it v)) (form_of v) row parts.0
    (given_shape (FormIn (family_of it) it (shape_at world v)) (shape_at world v) (apply (shape_at world v) it) made.0.given (form_after (shape_at world v) it free.0))
    (item_form world v row made.1 free.1 parts.1 h)
item_form world (both word v u) row made apart ok h = absurd (cc)
