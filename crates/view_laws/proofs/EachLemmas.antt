-- Below each step that goes row by row, a lane of each candidate is one of each.
use Rattle.std.proofs.Common.{◌≡◌, Bool, true, false, cond, ◌&&◌, refl, ap, sym, ◌∙◌}
use Rattle.std.specs.Prelude.{Some, None, option_map}
use Rattle.std.specs.Option.{IfSome, option_and_then}
use Rattle.std.proofs.lemmas.Option.{option_and_then_some, some_pair_parts}
use Rattle.vocabulary.specs.declared.items.Side.TheVariants.{First, Second}
use Rattle.vocabulary.specs.declared.step_table.Family.{Family}
use Rattle.vocabulary.specs.declared.step_table.Family.TheVariants.{Same, Changed, Turned, Keyed, Hidden, Cut, Grouped, Run, Pieces}
use Rattle.vocabulary.specs.declared.steps.Step.{Step}
use Rattle.vocabulary.specs.Steps.{family_of}
use Rattle.machine.specs.Bases.{World}
use Rattle.machine.specs.KeyOrders.{KeyOrder}
use Rattle.machine.specs.Views.{View, base, both, over, order_over, shape_at}
use Rattle.view_laws.specs.declared.lanes.GroupOrder.{GroupOrder}
use Rattle.view_laws.specs.declared.lanes.GroupOrder.TheVariants as group
use Rattle.view_laws.specs.declared.lanes.Lane.{Lane}
use Rattle.view_laws.specs.declared.lanes.PartAsk.TheVariants.{Any}
use Rattle.view_laws.specs.declared.lanes.Pick.{Pick}
use Rattle.view_laws.specs.declared.lanes.Pick.TheVariants.{Each, Firsts, Lasts, Run as OfRun}
use Rattle.view_laws.specs.GroupOrders.{group_order_at}
use Rattle.view_laws.specs.LanesDown.{lane_down}
use Rattle.view_laws.specs.Narrowing.{asked_by, asking, asks_moved, cut_asks, flipped, is_run, narrow, narrow_in, narrow_keyed, only_each, pick_moved, pick_turned, source_of, with_pick}
use Rattle.view_laws.specs.RowForm.{goes_by_row, is_by_row}
use Rattle.view_laws.specs.ShapeNarrowing.{narrow_on, told_if_asked}
use Rattle.view_laws.proofs.AskLemmas.{asks_pick}
use Rattle.view_laws.proofs.DownLemmas.{if_told}
use Rattle.view_laws.proofs.ListLemmas.{both_true}
use Rattle.view_laws.proofs.OptionLemmas.{if_as, if_is}
use Rattle.view_laws.proofs.PartTable.{asked_each}

abbrev IsEach : Lane → Type 0
IsEach lane = lane.pick ≡ Each

changed_each : (it : Step) (lane : Lane) (pick : Pick) → pick ≡ Each → IfSome (option_and_then (λ below. asks_moved (source_of it First) (source_of it Second) lane (with_pick (asking Any Any) below)) (pick_moved it pick)) IsEach
changed_each it lane Each e = asks_pick (source_of it First) (source_of it Second) lane (with_pick (asking Any Any) Each)
changed_each it lane (Firsts side order) e = absurd (cc)
changed_each it lane (Lasts side) e = absurd (cc)
changed_each it lane (OfRun r) e = absurd (cc)

keyed_each : (order : GroupOrder) (it : Step) (lane : Lane) → IsEach lane → IfSome (narrow_keyed order it lane) IsEach
keyed_each group.AsTheyCome it lane e = changed_each it lane lane.pick e
keyed_each group.ByFirst it lane e = tt
keyed_each group.OfBase it lane e = tt
keyed_each (group.Sorted order) it lane e = tt

turned_each : (lane : Lane) (pick : Pick) → pick ≡ Each → IfSome (option_map (with_pick lane) (pick_turned pick)) IsEach
turned_each lane Each e = refl
turned_each lane (Firsts side order) e = absurd (cc)
turned_each lane (Lasts side) e = absurd (cc)
turned_each lane (OfRun r) e = absurd (cc)

hidden_each : (lane : Lane) (b : Bool) → IsEach lane → IfSome (cond b None (Some lane)) IsEach
hidden_each lane true e = tt
hidden_each lane false e = e

cut_each : (it : Step) (lane : Lane) (pick : Pick) → IfSome (only_each pick (cut_asks it lane)) IsEach
cut_each it lane Each =
    if_as (λ (l : Lane). l.pick ≡ (asked_by it).pick) IsEach (asks_moved (source_of it First) (source_of it Second) lane (asked_by it)) (asks_pick (source_of it First) (source_of it Second) lane (asked_by it)) (λ l e. e ∙ asked_each it)
cut_each it lane (Firsts side order) = tt
cut_each it lane (Lasts side) = tt
cut_each it lane (OfRun r) = tt

each_in : (of : Family) (keys : KeyOrder) (order : GroupOrder) (it : Step) (lane : Lane) → goes_by_row of keys ≡ true → IsEach lane → IfSome (narrow_in of order it lane) IsEach
each_in Same keys order it lane ok e = e
each_in Changed keys order it lane ok e = changed_each it lane lane.pick e
each_in Turned keys order it lane ok e = turned_each lane lane.pick e
each_in Keyed keys order it lane ok e = keyed_each order it lane e
each_in Hidden keys order it lane ok e = hidden_each lane (is_run lane.pick) e
each_in Cut keys order it lane ok e = cut_each it lane lane.pick
each_in Grouped keys order it lane ok e = absurd (cc)
each_in Run keys order it lane ok e = absurd (cc)
each_in Pieces keys order it lane ok e = absurd (cc)

pub each_down : (world : World) (v : View) (lane below : Lane) (back b : Bool) → is_by_row world v ≡ true → lane.pick ≡ Each → lane_down world v lane back ≡ Some (below, b) → below.pick ≡ Each
each_down world (base l) lane below back b ok e is = ap (λ (l : Lane). l.pick) (sym (some_pair_parts lane below back b is).0) ∙ e
each_down world (both word v u) lane below back b ok e is = absurd (cc)
each_down world (over it v) lane below back b ok e is =
    let parts = both_true (goes_by_row (family_of it) (order_over world v it)) (is_by_row world v) ok in
    option_and_then_some (λ next. lane_down world v next (flipped it back)) (narrow_on (shape_at world v) (group_order_at world v it) it lane) (below, b) is
    (λ next first rest.
    let narrowed = if_told (told_if_asked (shape_at world v) it lane First && told_if_asked (shape_at world v) it lane Second) (narrow (group_order_at world v it) it lane) next first in
    each_down world v next below (flipped it back) b parts.1
    (if_is IsEach (narrow (group_order_at world v it) it lane) next narrowed.1 (each_in (family_of it) (order_over world v it) (group_order_at world v it) it lane parts.0 e)) rest)
