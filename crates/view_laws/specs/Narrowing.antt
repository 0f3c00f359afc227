-- The lane below a step that gives what a lane above it takes: by the step's family, and by columns that say what the
-- step makes of each part of an item.
use Rattle.std.specs.Prelude.{ℕ, ◌+◌, ◌-◌, ◌^◌, ◌<◌, min, Bool, true, false, not, ◌||◌, if◌then◌else◌, Option, None, Some, option_map}
use Rattle.std.specs.Option.{option_and_then}
use Rattle.elem.specs.Elements.{same}
use Rattle.vocabulary.specs.declared.items.Item.{Item}
use Rattle.vocabulary.specs.declared.items.Item.TheVariants.{Entry, Cell, RangeEntry, Edge}
use Rattle.vocabulary.specs.declared.items.Side.{Side}
use Rattle.vocabulary.specs.declared.items.Side.TheVariants.{First, Second}
use Rattle.vocabulary.specs.declared.step_table.Family.{Family}
use Rattle.vocabulary.specs.declared.step_table.Family.TheVariants as family
use Rattle.vocabulary.specs.declared.steps.ChangeStep.TheVariants.{Transform, TransformValues, AsMap}
use Rattle.vocabulary.specs.declared.steps.PlainStep.TheVariants.{KeySet, Values, Keys, Inverse, Transpose}
use Rattle.vocabulary.specs.declared.steps.Step.{Step}
use Rattle.vocabulary.specs.declared.steps.Step.TheVariants as step
use Rattle.vocabulary.specs.declared.sublists.Sublist.{Sublist}
use Rattle.vocabulary.specs.Orders.{encloses, lies_in, same_order}
use Rattle.vocabulary.specs.Steps.{family_of, run_in, side_of}
use Rattle.view_laws.specs.declared.lanes.GroupOrder.{GroupOrder}
use Rattle.view_laws.specs.declared.lanes.GroupOrder.TheVariants.{AsTheyCome, ByFirst}
use Rattle.view_laws.specs.declared.lanes.Lane.{Lane}
use Rattle.view_laws.specs.declared.lanes.PartAsk.{PartAsk}
use Rattle.view_laws.specs.declared.lanes.PartAsk.TheVariants.{Any, Is, Within, Nothing}
use Rattle.view_laws.specs.declared.lanes.Pick.{Pick}
use Rattle.view_laws.specs.declared.lanes.Pick.TheVariants as pick
use Rattle.view_laws.specs.declared.lanes.Run.{Run}
use Rattle.view_laws.specs.Lanes.{asked_of}

-- ---- what a step makes of each part

abbrev pub other : Side → Side
other First = Second
other Second = First

-- from which part of the item below a part of the item above comes, where one tells it
abbrev pub source_of : Step → Side → Option Side
source_of (step.Plain KeySet) side = Some First
source_of (step.Plain Keys) side = Some First
source_of (step.Plain Values) side = Some Second
source_of (step.Plain Inverse) side = Some (other side)
source_of (step.Plain Transpose) side = Some (other side)
source_of (step.Change Transform f) side = None
source_of (step.Change AsMap f) First = Some First
source_of (step.Change AsMap f) Second = None
source_of (step.At given k n) side = Some (other given)
source_of it side = Some side

abbrev pub is_cell : Item → Bool
is_cell (Cell r c v) = true
is_cell other = false

abbrev pub is_entry : Item → Bool
is_entry (Entry k v) = true
is_entry other = false

-- whether an item has a value and no key
abbrev pub lacks_key : Item → Bool
lacks_key (RangeEntry s v) = true
lacks_key (Edge a b v) = true
lacks_key other = false

-- the items of which the part above comes from that part: of the values of cells it doesn't, nor of a new value
abbrev pub tells : Step → Side → Item → Bool
tells (step.Plain Values) side item = not (is_cell item)
tells (step.Plain Inverse) side item = not (lacks_key item)
tells (step.Plain Transpose) side item = not (lacks_key item)
tells (step.Change TransformValues f) Second item = not (is_entry item)
tells (step.At First k n) First item = not (lacks_key item)
tells (step.At First k n) Second item = not (is_cell item)
tells (step.At Second k n) Second item = not (is_cell item || lacks_key item)
tells it side item = true

-- ---- what is asked

abbrev pub asking : PartAsk → PartAsk → Lane
asking first second = record { first = first; second = second; pick = pick.Each }

-- what a step that leaves items out asks of those that it leaves
abbrev pub asked_by : Step → Lane
asked_by (step.At First k n) = asking (Is k) Any
asked_by (step.At Second k n) = asking Any (Is k)
asked_by (step.Within order w) = asking (Within order w) Any
asked_by it = asking Any Any

-- what both ask, where one of the four kinds of asks says it
abbrev pub both_asks : PartAsk → PartAsk → Option PartAsk
both_asks Any b = Some b
both_asks Nothing b = Some Nothing
both_asks a Any = Some a
both_asks a Nothing = Some Nothing
both_asks (Is x) (Is y) = Some (if same x y then Is x else Nothing)
both_asks (Is x) (Within order w) = Some (if lies_in order w x then Is x else Nothing)
both_asks (Within order w) (Is y) = Some (if lies_in order w y then Is y else Nothing)
both_asks (Within order outer) (Within another inner) =
    if not (same_order order another) then None
    else if encloses order outer inner then Some (Within another inner)
    else if encloses order inner outer then Some (Within order outer) else None

abbrev pub with_first : Lane → PartAsk → Lane
with_first lane ask = record { first = ask; second = lane.second; pick = lane.pick }

abbrev pub with_second : Lane → PartAsk → Lane
with_second lane ask = record { first = lane.first; second = ask; pick = lane.pick }

abbrev pub with_pick : Lane → Pick → Lane
with_pick lane pick = record { first = lane.first; second = lane.second; pick = pick }

-- a lane that asks one thing more
abbrev pub with_ask : Side → PartAsk → Lane → Option Lane
with_ask First ask lane = option_map (with_first lane) (both_asks ask lane.first)
with_ask Second ask lane = option_map (with_second lane) (both_asks ask lane.second)

-- a lane below that asks, too, what is asked above of a part that comes from a part below
abbrev pub moved : Option Side → PartAsk → Lane → Option Lane
moved source Any lane = Some lane
moved source Nothing lane = with_ask First Nothing lane
moved None ask lane = None
moved (Some side) ask lane = with_ask side ask lane

-- a lane below that asks, too, what a lane above asks of both parts
abbrev pub asks_moved : Option Side → Option Side → Lane → Lane → Option Lane
asks_moved first second lane start = option_and_then (moved second lane.second) (moved first lane.first start)

-- what a lane asks below a step that leaves items out: what it asks above, and what the step asks
abbrev pub cut_asks : Step → Lane → Option Lane
cut_asks it lane = asks_moved (source_of it First) (source_of it Second) lane (asked_by it)

-- ---- which candidates are walked

abbrev pub firsts_by : GroupOrder → Side → Pick
firsts_by order side = pick.Firsts side order

-- below a step that makes other items
abbrev pub pick_moved : Step → Pick → Option Pick
pick_moved it (pick.Firsts side order) = option_map (firsts_by order) (source_of it side)
pick_moved it (pick.Lasts side) = option_map pick.Lasts (source_of it side)
pick_moved it other = Some other

-- below a step that turns the walk round
abbrev pub pick_turned : Pick → Option Pick
pick_turned pick.Each = Some pick.Each
pick_turned (pick.Firsts side ByFirst) = Some (pick.Lasts side)
pick_turned (pick.Firsts side order) = None
pick_turned (pick.Lasts side) = Some (pick.Firsts side ByFirst)
pick_turned (pick.Run r) = Some (pick.Run (record { start = r.start; len = r.len; from_back = not r.from_back }))

abbrev pub is_run : Pick → Bool
is_run (pick.Run r) = true
is_run other = false

-- a run of a run starts where a number can say it
abbrev pub StartFits : Pick → ℕ → Type 0
StartFits (pick.Run r) start = r.start + start < 2 ^ 64
StartFits other start = Unit {0}

-- the run that is what a pick takes of a sublist; one counted from the back would need to know how much is seen
abbrev pub run_within : Sublist → Pick → Option Run
run_within s pick.Each = Some (record { start = s.start; len = s.len; from_back = false })
run_within s (pick.Run r) = if r.from_back then None else Some (record { start = r.start + s.start; len = min r.len (s.len - r.start); from_back = false })
run_within s other = None

-- ---- what is asked of each part

abbrev pub is_any : PartAsk → Bool
is_any Any = true
is_any ask = false

abbrev pub is_by : Pick → Side → Bool
is_by (pick.Firsts First order) First = true
is_by (pick.Firsts Second order) Second = true
is_by (pick.Lasts First) First = true
is_by (pick.Lasts Second) Second = true
is_by other side = false

-- whether a lane tells items apart by a part
abbrev pub asks_part : Lane → Side → Bool
asks_part lane side = not (is_any (asked_of side lane)) || is_by lane.pick side

-- ---- by families

abbrev pub narrow_changed : Step → Lane → Option Lane
narrow_changed it lane = option_and_then (λ below. asks_moved (source_of it First) (source_of it Second) lane (with_pick (asking Any Any) below)) (pick_moved it lane.pick)

abbrev pub narrow_turned : Lane → Option Lane
narrow_turned lane = option_map (with_pick lane) (pick_turned lane.pick)

abbrev pub narrow_keyed : GroupOrder → Step → Lane → Option Lane
narrow_keyed AsTheyCome it lane = narrow_changed it lane
narrow_keyed order it lane = None

-- a lane below, where each candidate is walked
abbrev pub only_each : Pick → Option Lane → Option Lane
only_each pick.Each below = below
only_each other below = None

abbrev pub narrow_cut : Step → Lane → Option Lane
narrow_cut it lane = only_each lane.pick (cut_asks it lane)

abbrev pub narrow_grouped : GroupOrder → Side → Lane → Option Lane
narrow_grouped order side lane = only_each lane.pick (asks_moved (Some side) (Some side) lane (with_pick (asking Any Any) (pick.Firsts side order)))

abbrev pub run_lane : Run → Lane
run_lane r = with_pick (asking Any Any) (pick.Run r)

abbrev pub narrow_run_of : PartAsk → PartAsk → Sublist → Pick → Option Lane
narrow_run_of Any Any s pick = option_map run_lane (run_within s pick)
narrow_run_of first second s pick = None

abbrev pub narrow_run : Sublist → Lane → Option Lane
narrow_run s lane = narrow_run_of lane.first lane.second s lane.pick

abbrev pub narrow_in : Family → GroupOrder → Step → Lane → Option Lane
narrow_in family.Same order it lane = Some lane
narrow_in family.Changed order it lane = narrow_changed it lane
narrow_in family.Turned order it lane = narrow_turned lane
narrow_in family.Keyed order it lane = narrow_keyed order it lane
narrow_in family.Hidden order it lane = if is_run lane.pick then None else Some lane
narrow_in family.Cut order it lane = narrow_cut it lane
narrow_in family.Grouped order it lane = narrow_grouped order (side_of it) lane
narrow_in family.Run order it lane = narrow_run (run_in it) lane
narrow_in family.Pieces order it lane = None

-- the lane below a step, where the step puts keys in this order
abbrev pub narrow : GroupOrder → Step → Lane → Option Lane
narrow order it lane = narrow_in (family_of it) order it lane

abbrev pub flipped_in : Family → Bool → Bool
flipped_in family.Turned back = not back
flipped_in other back = back

-- whether the walk comes from the back below a step
abbrev pub flipped : Step → Bool → Bool
flipped it back = flipped_in (family_of it) back
