-- The laws of lines: a walk along a lane of a step over a view is a walk along the narrower lane of that view.
use Rattle.std.specs.Prelude.{◌≡◌, Bool, true, false, ◌++◌, map, filter, Some}
use Rattle.vocabulary.specs.declared.items.Side.{Side}
use Rattle.vocabulary.specs.declared.step_table.JoinFamily.TheVariants.{Hidden, Joined}
use Rattle.vocabulary.specs.declared.steps.JoinStep.{JoinStep}
use Rattle.vocabulary.specs.declared.steps.Step.{Step}
use Rattle.vocabulary.specs.Joins.{join_family}
use Rattle.machine.specs.Bases.{World}
use Rattle.machine.specs.Views.{View, both, over, candidates, order_over, root, weight}
use Rattle.view_laws.specs.declared.lanes.GroupOrder.{GroupOrder}
use Rattle.view_laws.specs.declared.lanes.Lane.{Lane}
use Rattle.view_laws.specs.declared.lanes.Pick.TheVariants.{Each}
use Rattle.view_laws.specs.declared.places.Found.{Found}
use Rattle.view_laws.specs.declared.places.Place.{Place}
use Rattle.view_laws.specs.Lanes.{all, line, order_in, takes, turned_if}
use Rattle.view_laws.specs.Narrowing.{asks_part, flipped, is_run, narrow, tells}
use Rattle.view_laws.specs.Places.{found_in, shifted}
use Rattle.view_laws.specs.Spots.{Spots, TellAll}
use Rattle.view_laws.specs.ViewPlaces.{places, show}

-- each part that a lane of a step over a view asks of comes from the part below that the table says
abbrev pub IsTold : World → Spots → View → Step → Lane → Type 0
IsTold world spots v step lane = (side : Side) → asks_part lane side ≡ true → (p : Place) (d : Found) → show world spots v p ≡ Some d → tells step side d.item ≡ true

-- a walk along a lane of a step over a view is a walk along the narrower lane of that view
abbrev pub LineOver : Type 0
LineOver =
    (world : World) (spots : Spots) (step : Step) (v : View) (order : GroupOrder) (lane below : Lane) (back : Bool) → order_over world v step ≡ order_in (root world v).keys order → IsTold world spots v step lane
    → narrow order step lane ≡ Some below → line world spots (over step v) lane back ≡ line world spots v below (flipped step back)

-- where the second view only hides, a walk along a lane of both is one of the first
abbrev pub LineHidden : Type 0
LineHidden =
    (world : World) (spots : Spots) (word : JoinStep) (v u : View) (lane : Lane) (back : Bool) → join_family word ≡ Hidden → is_run lane.pick ≡ false
    → line world spots (both word v u) lane back ≡ line world spots v lane back

-- where the second comes behind the first, a walk along a lane of both is one of the first and then one of the second
abbrev pub LineJoined : Type 0
LineJoined =
    (world : World) (spots : Spots) (word : JoinStep) (v u : View) (lane : Lane) (back : Bool) → join_family word ≡ Joined → lane.pick ≡ Each
    → line world spots (both word v u) lane back ≡ turned_if back (line world spots v lane false ++ map (shifted (weight v)) (line world spots u lane false))

-- the walk of a view is its line in the lane that takes all
abbrev pub WholeLine : Type 0
WholeLine = (world : World) (spots : Spots) (v : View) → TellAll world spots → line world spots v all false ≡ places world spots v

-- in a lane a view has what those candidates show whose items the lane takes
abbrev pub FoundInLane : Type 0
FoundInLane =
    (world : World) (spots : Spots) (v : View) (lane : Lane) → TellAll world spots → lane.pick ≡ Each
    → map (show world spots v) (line world spots v lane false) ≡ map Some (filter (λ (d : Found). takes lane d.item) (map found_in (candidates world v)))
