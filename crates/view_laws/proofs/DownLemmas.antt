-- A walk along a lane of a view is one along a lane of its base, step by step.
use Rattle.std.proofs.Common.{◌≡◌, Bool, true, false, cond, not, ◌&&◌, ◌||◌, refl, ◌∙◌}
use Rattle.std.specs.Prelude.{Option, Some, None}
use Rattle.std.proofs.lemmas.Option.{option_and_then_some, some_pair_parts}
use Rattle.vocabulary.specs.declared.items.Side.{Side}
use Rattle.vocabulary.specs.declared.items.Side.TheVariants.{First, Second}
use Rattle.vocabulary.specs.declared.shapes.Shape.{Shape}
use Rattle.vocabulary.specs.declared.steps.Step.{Step}
use Rattle.machine.specs.Bases.{World}
use Rattle.machine.specs.Views.{View, base, both, over, base_under, shape_at}
use Rattle.view_laws.specs.declared.lanes.Lane.{Lane}
use Rattle.view_laws.specs.GroupOrders.{group_order_at}
use Rattle.view_laws.specs.ItemForms.{IsFormed}
use Rattle.view_laws.specs.Lanes.{line}
use Rattle.view_laws.specs.LanesDown.{lane_down}
use Rattle.view_laws.specs.LineLaws.{IsTold}
use Rattle.view_laws.specs.Narrowing.{asks_part, flipped, narrow}
use Rattle.view_laws.specs.ShapeNarrowing.{narrow_on, tells_on, told_if_asked}
use Rattle.view_laws.specs.Spots.{Spots}
use Rattle.view_laws.proofs.FormLemmas.{formed_below, show_fits}
use Rattle.view_laws.proofs.LineLemmas.{line-over}
use Rattle.view_laws.proofs.ListLemmas.{both_true}
use Rattle.view_laws.proofs.OrderTable.{order_at}
use Rattle.view_laws.proofs.TellTable.{told_on_shape}

-- ---- one step down

told_is : (a t : Bool) → not a || t ≡ true → a ≡ true → t ≡ true
told_is true t h asked = h
told_is false t h asked = absurd (cc)

-- each part of which a lane asks is told of the shape
pub told_each : (of : Shape) (it : Step) (lane : Lane) → told_if_asked of it lane First ≡ true → told_if_asked of it lane Second ≡ true → (side : Side) → asks_part lane side ≡ true → tells_on of it side ≡ true
told_each of it lane first second First asked = told_is (asks_part lane First) (tells_on of it First) first asked
told_each of it lane first second Second asked = told_is (asks_part lane Second) (tells_on of it Second) second asked

told_where_asked : (world : World) (spots : Spots) (v : View) (it : Step) (lane : Lane) → IsFormed world v → told_if_asked (shape_at world v) it lane First ≡ true → told_if_asked (shape_at world v) it lane Second ≡ true → IsTold world spots v it lane
told_where_asked world spots v it lane f first second side asked p d is = told_on_shape (shape_at world v) it side d.item (show_fits world spots v p d f is) (told_each (shape_at world v) it lane first second side asked)

pub if_told : (b : Bool) (o : Option Lane) (below : Lane) → cond b o None ≡ Some below → (b ≡ true) × (o ≡ Some below)
if_told true o below h = (refl, h)
if_told false o below h = absurd (cc)

pub line_on : (world : World) (spots : Spots) (it : Step) (v : View) (lane below : Lane) (back : Bool) → IsFormed world v → narrow_on (shape_at world v) (group_order_at world v it) it lane ≡ Some below
    → line world spots (over it v) lane back ≡ line world spots v below (flipped it back)
line_on world spots it v lane below back f is =
    let parts = if_told (told_if_asked (shape_at world v) it lane First && told_if_asked (shape_at world v) it lane Second) (narrow (group_order_at world v it) it lane) below is in
    let told = both_true (told_if_asked (shape_at world v) it lane First) (told_if_asked (shape_at world v) it lane Second) parts.0 in
    line-over world spots it v (group_order_at world v it) lane below back (order_at world v it) (told_where_asked world spots v it lane f told.0 told.1) parts.1

-- ---- the whole way

pub line_down : (world : World) (spots : Spots) (v : View) (lane below : Lane) (back b : Bool) → IsFormed world v → lane_down world v lane back ≡ Some (below, b)
    → line world spots v lane back ≡ line world spots (base (base_under v)) below b
line_down world spots (base l) lane below back b f is = let parts = some_pair_parts lane below back b is in (λ i. line world spots (base l) (parts.0 i) (parts.1 i))
line_down world spots (both word v u) lane below back b f is = absurd (cc)
line_down world spots (over it v) lane below back b f is =
    option_and_then_some (λ next. lane_down world v next (flipped it back)) (narrow_on (shape_at world v) (group_order_at world v it) it lane) (below, b) is
    (λ next first rest.
    line_on world spots it v lane next back (formed_below world it v f) first ∙ line_down world spots v next below (flipped it back) b (formed_below world it v f) rest)
