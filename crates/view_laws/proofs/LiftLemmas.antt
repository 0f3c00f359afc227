-- The row that an added item means is shown as that item, family by family.
use Rattle.std.proofs.Common.{◌≡◌, true, ◌&&◌, refl, ap, sym, ◌∙◌}
use Rattle.std.specs.Prelude.{Some}
use Rattle.std.proofs.lemmas.Option.{same_Some, option_and_then_some}
use Rattle.vocabulary.specs.declared.items.Item.{Item}
use Rattle.vocabulary.specs.declared.step_table.Family.{Family}
use Rattle.vocabulary.specs.declared.step_table.Family.TheVariants.{Same, Changed, Turned, Keyed, Hidden, Cut, Grouped, Run, Pieces}
use Rattle.vocabulary.specs.declared.steps.Step.{Step}
use Rattle.vocabulary.specs.Steps.{family_of, item_of, lifted, passes}
use Rattle.machine.specs.Bases.{World}
use Rattle.machine.specs.KeyOrders.{KeyOrder}
use Rattle.machine.specs.Views.{View, base, both, over, flags_at, lift, order_over, shape_at}
use Rattle.view_laws.specs.RowForm.{IsShownAs, IsUndone, RowForm, form_of, form_over, goes_by_row, goes_down, has_room, is_by_row, room_in}
use Rattle.view_laws.proofs.LiftTable.{adds_below, leaves_items, left_items, lift_undone}
use Rattle.view_laws.proofs.ListLemmas.{both_true}

-- a step that makes items shows what is below as its own item
made_shown : (step : Step) (f : RowForm) (row item below : Item) → IsShownAs f row below → IsUndone step item below → item_of step (f.item row) ≡ item
made_shown step f row item below s u = ap (item_of step) s.same ∙ u.back

passed_shown : (step : Step) (f : RowForm) (row item below : Item) → IsShownAs f row below → IsUndone step item below → passes step (f.item row) ≡ true
passed_shown step f row item below s u = ap (passes step) s.same ∙ u.passed

-- a step that leaves items shows what is below as it is
left_shown : (step : Step) (f : RowForm) (row item below : Item) → leaves_items (family_of step) ≡ true → IsShownAs f row below → IsUndone step item below → f.item row ≡ item
left_shown step f row item below h s u = s.same ∙ sym (left_items step below h) ∙ u.back

family_shown : (family : Family) (step : Step) → family_of step ≡ family → (order : KeyOrder) → goes_by_row family order ≡ true → (f : RowForm) (row item below : Item) → IsShownAs f row below → IsUndone step item below → IsShownAs (form_over family step f) row item
family_shown Same step is order ok f row item below s u = record { taken = s.taken; seen = s.seen; same = left_shown step f row item below (ap leaves_items is) s u }
family_shown Changed step is order ok f row item below s u = record { taken = s.taken; seen = s.seen; same = made_shown step f row item below s u }
family_shown Keyed step is order ok f row item below s u = record { taken = s.taken; seen = s.seen; same = made_shown step f row item below s u }
family_shown Turned step is order ok f row item below s u = record { taken = s.taken; seen = s.seen; same = left_shown step f row item below (ap leaves_items is) s u }
family_shown Hidden step is order ok f row item below s u =
    record { taken = s.taken; seen = (λ i. s.seen i && passed_shown step f row item below s u i); same = left_shown step f row item below (ap leaves_items is) s u }
family_shown Cut step is order ok f row item below s u =
    record { taken = (λ i. s.taken i && passed_shown step f row item below s u i); seen = s.seen; same = made_shown step f row item below s u }
family_shown Grouped step is order ok f row item below s u = absurd (cc)
family_shown Run step is order ok f row item below s u = absurd (cc)
family_shown Pieces step is order ok f row item below s u = absurd (cc)

pub lift_law : (world : World) (v : View) (item row : Item) → is_by_row world v ≡ true → (flags_at world v).add ≡ true → room_in v item ≡ true → lift v item ≡ Some row → IsShownAs (form_of v) row item
lift_law world (base l) item row ok adds room is = record { taken = refl; seen = refl; same = sym (same_Some item row is) }
lift_law world (both word v u) item row ok adds room is = absurd (cc)
lift_law world (over step v) item row ok adds room is =
    let parts = both_true (goes_by_row (family_of step) (order_over world v step)) (is_by_row world v) ok in
    let rooms = both_true (has_room step item) (goes_down (room_in v) (lifted step item)) room in
    option_and_then_some (lift v) (lifted step item) row is
    (λ below first rest.
    family_shown (family_of step) step refl (order_over world v step) parts.0 (form_of v) row item below
    (lift_law world v below row parts.1 (adds_below (shape_at world v) (flags_at world v) step adds) (sym (ap (goes_down (room_in v)) first) ∙ rooms.1) rest)
    (lift_undone (shape_at world v) (flags_at world v) step item below adds rooms.0 first))
