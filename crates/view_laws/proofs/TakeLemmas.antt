-- A row that a view has in a lane stands in the lane of the base to which that comes down.
use Rattle.std.proofs.Common.{◌≡◌, Bool, true, false, cond, ◌&&◌, refl, ap, sym, ◌∙◌}
use Rattle.std.specs.Prelude.{Some, None}
use Rattle.std.specs.Option.{IfSome}
use Rattle.std.proofs.lemmas.Option.{option_and_then_some, some_pair_parts}
use Rattle.vocabulary.specs.declared.items.Item.{Item}
use Rattle.vocabulary.specs.declared.items.Side.{Side}
use Rattle.vocabulary.specs.declared.items.Side.TheVariants.{First, Second}
use Rattle.vocabulary.specs.declared.shapes.Shape.{Shape}
use Rattle.vocabulary.specs.declared.step_table.Family.{Family}
use Rattle.vocabulary.specs.declared.step_table.Family.TheVariants.{Same, Changed, Turned, Keyed, Hidden, Cut, Grouped, Run, Pieces}
use Rattle.vocabulary.specs.declared.steps.Step.{Step}
use Rattle.vocabulary.specs.Kinds.{shape_of_kind}
use Rattle.vocabulary.specs.Steps.{family_of, item_of, passes}
use Rattle.machine.specs.Bases.{World}
use Rattle.machine.specs.KeyOrders.{KeyOrder}
use Rattle.machine.specs.Leaves.{leaf_at}
use Rattle.machine.specs.MadeViews.{IsMade}
use Rattle.machine.specs.Views.{View, base, both, over, base_under, order_over, shape_at}
use Rattle.view_laws.specs.declared.lanes.GroupOrder.{GroupOrder}
use Rattle.view_laws.specs.declared.lanes.GroupOrder.TheVariants as group
use Rattle.view_laws.specs.declared.lanes.Lane.{Lane}
use Rattle.view_laws.specs.declared.lanes.PartAsk.TheVariants.{Any}
use Rattle.view_laws.specs.declared.lanes.Pick.{Pick}
use Rattle.view_laws.specs.declared.lanes.Pick.TheVariants.{Each, Firsts, Lasts, Run as OfRun}
use Rattle.view_laws.specs.GroupOrders.{group_order_at}
use Rattle.view_laws.specs.ItemForms.{has_form, is_pieces, stands_on_pieces}
use Rattle.view_laws.specs.Lanes.{takes}
use Rattle.view_laws.specs.LanesDown.{lane_down}
use Rattle.view_laws.specs.Narrowing.{asked_by, asking, asks_moved, asks_part, cut_asks, flipped, is_run, narrow, narrow_changed, narrow_in, narrow_keyed, narrow_turned, only_each, pick_moved, pick_turned, source_of, tells, with_pick}
use Rattle.view_laws.specs.RowForm.{RowForm, form_of, form_over, goes_by_row, is_by_row, passes_over}
use Rattle.view_laws.specs.ShapeNarrowing.{narrow_on, told_if_asked}
use Rattle.view_laws.proofs.AskLemmas.{asks_takes}
use Rattle.view_laws.proofs.DownLemmas.{if_told, told_each}
use Rattle.view_laws.proofs.ItemLemmas.{item_form}
use Rattle.view_laws.proofs.LineLemmas.{asked_part}
use Rattle.view_laws.proofs.ListLemmas.{both_true, neither_true}
use Rattle.view_laws.proofs.OptionLemmas.{if_any, if_as, if_is, if_map, if_then}
use Rattle.view_laws.proofs.PartTable.{asked_passes, part_told}
use Rattle.view_laws.proofs.TellTable.{told_on_shape}

-- ---- one item below a step

-- each part of an item of which a lane asks is told
abbrev TellsOf : Step → Lane → Item → Type 0
TellsOf it lane item = (side : Side) → asks_part lane side ≡ true → tells it side item ≡ true

-- a lane below takes an item where the lane above takes what the step makes of it
abbrev TakesAsAbove : Lane → Item → Item → Lane → Type 0
TakesAsAbove lane item up below = takes lane up ≡ true → takes below item ≡ true

moved_asks : (it : Step) (lane start : Lane) (item : Item) → TellsOf it lane item
    → IfSome (asks_moved (source_of it First) (source_of it Second) lane start) (λ below. takes below item ≡ (takes start item && takes lane (item_of it item)))
moved_asks it lane start item told =
    asks_takes (source_of it First) (source_of it Second) lane start item (item_of it item) (λ asked. part_told it First item (told First (asked_part lane First asked))) (λ asked. part_told it Second item (told Second (asked_part lane Second asked)))

changed_takes : (it : Step) (lane : Lane) (item : Item) → TellsOf it lane item → IfSome (narrow_changed it lane) (TakesAsAbove lane item (item_of it item))
changed_takes it lane item told =
    if_then (λ pick. asks_moved (source_of it First) (source_of it Second) lane (with_pick (asking Any Any) pick)) (λ pick. Unit {0}) (TakesAsAbove lane item (item_of it item)) (pick_moved it lane.pick)
    (if_any (λ pick. Unit {0}) (pick_moved it lane.pick) (λ pick. tt))
    (λ pick u.
    if_as (λ below. takes below item ≡ takes lane (item_of it item)) (TakesAsAbove lane item (item_of it item)) (asks_moved (source_of it First) (source_of it Second) lane (with_pick (asking Any Any) pick))
    (moved_asks it lane (with_pick (asking Any Any) pick) item told) (λ below e h. e ∙ h))

keyed_takes : (order : GroupOrder) (it : Step) (lane : Lane) (item : Item) → TellsOf it lane item → IfSome (narrow_keyed order it lane) (TakesAsAbove lane item (item_of it item))
keyed_takes group.AsTheyCome it lane item told = changed_takes it lane item told
keyed_takes group.ByFirst it lane item told = tt
keyed_takes group.OfBase it lane item told = tt
keyed_takes (group.Sorted order) it lane item told = tt

turned_takes : (lane : Lane) (item : Item) → IfSome (narrow_turned lane) (TakesAsAbove lane item item)
turned_takes lane item = if_map (with_pick lane) (λ pick. Unit {0}) (TakesAsAbove lane item item) (pick_turned lane.pick) (if_any (λ pick. Unit {0}) (pick_turned lane.pick) (λ pick. tt)) (λ pick u h. h)

hidden_takes : (lane : Lane) (item : Item) (b : Bool) → IfSome (cond b None (Some lane)) (TakesAsAbove lane item item)
hidden_takes lane item true = tt
hidden_takes lane item false = λ h. h

cut_takes : (it : Step) (lane : Lane) (item : Item) (pick : Pick) → family_of it ≡ Cut → passes it item ≡ true → TellsOf it lane item → IfSome (only_each pick (cut_asks it lane)) (TakesAsAbove lane item (item_of it item))
cut_takes it lane item Each is passing told =
    if_as (λ below. takes below item ≡ (takes (asked_by it) item && takes lane (item_of it item))) (TakesAsAbove lane item (item_of it item)) (cut_asks it lane) (moved_asks it lane (asked_by it) item told)
    (λ below e h. e ∙ (λ i. (sym (asked_passes it item is) ∙ passing) i && h i))
cut_takes it lane item (Firsts side order) is passing told = tt
cut_takes it lane item (Lasts side) is passing told = tt
cut_takes it lane item (OfRun r) is passing told = tt

-- ---- one step down

-- below a step over a form, a lane takes the item of a row, and the form takes the row
abbrev TakesRow : RowForm → Item → Lane → Type 0
TakesRow f row below = (f.takes row ≡ true) × (takes below (f.item row) ≡ true)

step_takes : (of : Family) (it : Step) → family_of it ≡ of → (keys : KeyOrder) (order : GroupOrder) (lane : Lane) (f : RowForm) (row : Item) → goes_by_row of keys ≡ true → TellsOf it lane (f.item row)
    → (form_over of it f).takes row ≡ true → takes lane ((form_over of it f).item row) ≡ true → IfSome (narrow_in of order it lane) (TakesRow f row)
step_takes Same it is keys order lane f row ok told t h = (t, h)
step_takes Changed it is keys order lane f row ok told t h = if_as (TakesAsAbove lane (f.item row) (item_of it (f.item row))) (TakesRow f row) (narrow_changed it lane) (changed_takes it lane (f.item row) told) (λ below g. (t, g h))
step_takes Turned it is keys order lane f row ok told t h = if_as (TakesAsAbove lane (f.item row) (f.item row)) (TakesRow f row) (narrow_turned lane) (turned_takes lane (f.item row)) (λ below g. (t, g h))
step_takes Keyed it is keys order lane f row ok told t h = if_as (TakesAsAbove lane (f.item row) (item_of it (f.item row))) (TakesRow f row) (narrow_keyed order it lane) (keyed_takes order it lane (f.item row) told) (λ below g. (t, g h))
step_takes Hidden it is keys order lane f row ok told t h = if_as (TakesAsAbove lane (f.item row) (f.item row)) (TakesRow f row) (cond (is_run lane.pick) None (Some lane)) (hidden_takes lane (f.item row) (is_run lane.pick)) (λ below g. (t, g h))
step_takes Cut it is keys order lane f row ok told t h =
    let passed = both_true (f.takes row) (passes_over it f row) t in
    if_as (TakesAsAbove lane (f.item row) (item_of it (f.item row))) (TakesRow f row) (only_each lane.pick (cut_asks it lane)) (cut_takes it lane (f.item row) lane.pick is passed.1 told) (λ below g. (passed.0, g h))
step_takes Grouped it is keys order lane f row ok told t h = absurd (cc)
step_takes Run it is keys order lane f row ok told t h = absurd (cc)
step_takes Pieces it is keys order lane f row ok told t h = absurd (cc)

told_of : (of : Shape) (it : Step) (lane : Lane) (item : Item) → has_form of item ≡ true → told_if_asked of it lane First ≡ true → told_if_asked of it lane Second ≡ true → TellsOf it lane item
told_of of it lane item form first second side asked = told_on_shape of it side item form (told_each of it lane first second side asked)

-- ---- the whole way

pub takes_down : (world : World) (v : View) (lane below : Lane) (back b : Bool) (row : Item) → IsMade world v → stands_on_pieces world v ≡ false → is_by_row world v ≡ true
    → has_form (shape_of_kind (leaf_at world (base_under v)).kind) row ≡ true → lane_down world v lane back ≡ Some (below, b)
    → (form_of v).takes row ≡ true → takes lane ((form_of v).item row) ≡ true → takes below row ≡ true
takes_down world (base l) lane below back b row made apart ok h is t taken = ap (λ (l : Lane). takes l row) (sym (some_pair_parts lane below back b is).0) ∙ taken
takes_down world (both word v u) lane below back b row made apart ok h is t taken = absurd (cc)
takes_down world (over it v) lane below back b row made apart ok h is t taken =
    let parts = both_true (goes_by_row (family_of it) (order_over world v it)) (is_by_row world v) ok in
    let free = neither_true (is_pieces (shape_at world v)) (stands_on_pieces world v) apart in
    option_and_then_some (λ next. lane_down world v next (flipped it back)) (narrow_on (shape_at world v) (group_order_at world v it) it lane) (below, b) is
    (λ next first rest.
    let narrowed = if_told (told_if_asked (shape_at world v) it lane First && told_if_asked (shape_at world v) it lane Second) (narrow (group_order_at world v it) it lane) next first in
    let told = both_true (told_if_asked (shape_at world v) it lane First) (told_if_asked (shape_at world v) it lane Second) narrowed.0 in
    let below_it = if_is (TakesRow (form_of v) row) (narrow (group_order_at world v it) it lane) next narrowed.1
    (step_takes (family_of it) it refl (order_over world v it) (group_order_at world v it) lane (form_of v) row parts.0
    (told_of (shape_at world v) it lane ((form_of v).item row) (item_form world v row made.1 free.1 parts.1 h) told.0 told.1) t taken) in
    takes_down world v next below (flipped it back) b row made.1 free.1 parts.1 h rest below_it.0 below_it.1)
