-- Look-ups: whether a view shows an item with the parts that are asked for, by what the views below it show.
use Rattle.std.specs.Prelude.{◌≡◌, Bool, true, false, not, ◌&&◌, ◌||◌, List, Option, None, Some}
use Rattle.std.specs.List.{list_any, AllByRecursion}
use Rattle.elem.specs.declared.elements.Elem.{Elem}
use Rattle.fn_lang.specs.Meaning.{pred_holds, pair_holds}
use Rattle.vocabulary.specs.declared.items.Item.{Item}
use Rattle.vocabulary.specs.declared.items.Item.TheVariants.{One}
use Rattle.vocabulary.specs.declared.items.Side.{Side}
use Rattle.vocabulary.specs.declared.items.Side.TheVariants.{First, Second}
use Rattle.vocabulary.specs.declared.step_table.Family.{Family}
use Rattle.vocabulary.specs.declared.step_table.Family.TheVariants as family
use Rattle.vocabulary.specs.declared.step_table.JoinFamily.TheVariants as join
use Rattle.vocabulary.specs.declared.steps.FilterStep.TheVariants.{Filter, FilterKeys, FilterValues}
use Rattle.vocabulary.specs.declared.steps.JoinStep.{JoinStep}
use Rattle.vocabulary.specs.declared.steps.Step.{Step}
use Rattle.vocabulary.specs.declared.steps.Step.TheVariants as step
use Rattle.vocabulary.specs.Items.{part_of}
use Rattle.vocabulary.specs.Joins.{join_family, stays}
use Rattle.vocabulary.specs.Steps.{family_of, side_of}
use Rattle.machine.specs.Bases.{World}
use Rattle.machine.specs.Candidates.{Candidate, keys_in}
use Rattle.machine.specs.KeyOrders.{KeyOrder, Kept, is_among}
use Rattle.machine.specs.Leaves.{Leaf, leaf_at}
use Rattle.machine.specs.Views.{View, base, both, over, candidates, order_over}
use Rattle.view_laws.specs.declared.lanes.Lane.{Lane}
use Rattle.view_laws.specs.declared.lanes.PartAsk.{PartAsk}
use Rattle.view_laws.specs.declared.lanes.PartAsk.TheVariants.{Any, Is}
use Rattle.view_laws.specs.Lanes.{asked_of, takes}
use Rattle.view_laws.specs.Narrowing.{cut_asks, asking, asks_moved, is_any, is_cell, source_of, tells}

-- whether some candidates show an item that a lane takes
abbrev pub shows_in : Lane → List Candidate → Bool
shows_in lane cs = list_any (λ (c : Candidate). c.seen && takes lane c.item) cs

-- ---- steps that show what the view below shows of other parts

-- what is asked of the view below, by the step's family
abbrev pub look_in : Family → Step → Lane → Option Lane
look_in family.Same it lane = Some lane
look_in family.Changed it lane = asks_moved (source_of it First) (source_of it Second) lane (asking Any Any)
look_in family.Turned it lane = Some lane
look_in family.Cut it lane = cut_asks it lane
look_in family.Grouped it lane = asks_moved (Some (side_of it)) (Some (side_of it)) lane (asking Any Any)
look_in other it lane = None

abbrev pub look_below : Step → Lane → Option Lane
look_below it lane = look_in (family_of it) it lane

-- each part that is asked of comes from the part below that the table says
abbrev pub TellsEach : Step → Lane → List Candidate → Type 0
TellsEach it lane cs = AllByRecursion (λ (c : Candidate). (side : Side) → is_any (asked_of side lane) ≡ false → tells it side c.item ≡ true) cs

-- a step that groups has a group for each of them
abbrev pub HasGroups : World → View → Step → Type 0
HasGroups world v it = AllByRecursion (λ (c : Candidate). is_among (keys_in (side_of it) (order_over world v it) (candidates world v)) (part_of (side_of it) c.item) ≡ true) (candidates world v)

-- an order of keys that leaves none out
abbrev pub leaves_none : KeyOrder → Bool
leaves_none (Kept ks) = false
leaves_none order = true

abbrev pub GroupsThere : Type 0
GroupsThere = (world : World) (v : View) (it : Step) → leaves_none (order_over world v it) ≡ true → HasGroups world v it

abbrev pub ShowsOver : Type 0
ShowsOver =
    (world : World) (it : Step) (v : View) (lane below : Lane) → TellsEach it lane (candidates world v) → HasGroups world v it → look_below it lane ≡ Some below
    → shows_in lane (candidates world (over it v)) ≡ shows_in below (candidates world v)

-- ---- steps that hide

-- the element that is asked for
abbrev pub asked_element : PartAsk → Option Elem
asked_element (Is x) = Some x
asked_element ask = None

abbrev pub test_of : (Elem → Bool) → PartAsk → Option Bool
test_of p (Is x) = Some (p x)
test_of p ask = None

abbrev pub pair_test_of : (Elem → Elem → Bool) → PartAsk → PartAsk → Option Bool
pair_test_of q (Is k) (Is v) = Some (q k v)
pair_test_of q first second = None

-- whether what is asked for passes a step that hides, where that tells
abbrev pub decided : Step → Lane → Option Bool
decided (step.Filter Filter p) lane = test_of (pred_holds p) lane.second
decided (step.Filter FilterKeys p) lane = test_of (pred_holds p) lane.first
decided (step.Filter FilterValues p) lane = test_of (pred_holds p) lane.second
decided (step.FilterPairs q) lane = pair_test_of (pair_holds q) lane.first lane.second
decided it lane = Some true

-- the test of a filter, of what is asked for, where no value of a cell is
abbrev pub ShowsHidden : Type 0
ShowsHidden =
    (world : World) (it : Step) (v : View) (lane : Lane) (b : Bool) → family_of it ≡ family.Hidden → AllByRecursion (λ (c : Candidate). is_cell c.item ≡ false) (candidates world v) → decided it lane ≡ Some b
    → shows_in lane (candidates world (over it v)) ≡ (b && shows_in lane (candidates world v))

-- ---- sets together

-- an element of a set
abbrev pub of_element : Elem → Lane
of_element x = asking (Is x) Any

abbrev pub is_one : Item → Bool
is_one (One x) = true
is_one other = false

abbrev pub AreElements : List Candidate → Type 0
AreElements cs = AllByRecursion (λ (c : Candidate). is_one c.item ≡ true) cs

abbrev pub ShowsFirst : Type 0
ShowsFirst =
    (world : World) (word : JoinStep) (v u : View) (x : Elem) → join_family word ≡ join.Hidden → AreElements (candidates world v) → AreElements (candidates world u)
    → shows_in (of_element x) (candidates world (both word v u)) ≡ (stays word (shows_in (of_element x) (candidates world u)) && shows_in (of_element x) (candidates world v))

abbrev pub ShowsBoth : Type 0
ShowsBoth =
    (world : World) (word : JoinStep) (v u : View) (x : Elem) → join_family word ≡ join.Joined → AreElements (candidates world v) → AreElements (candidates world u)
    → shows_in (of_element x) (candidates world (both word v u))
    ≡ ((stays word (shows_in (of_element x) (candidates world u)) && shows_in (of_element x) (candidates world v)) || (not (shows_in (of_element x) (candidates world v)) && shows_in (of_element x) (candidates world u)))

-- ---- a base

abbrev pub ShowsRow : Type 0
ShowsRow = (world : World) (l : Leaf) (lane : Lane) → shows_in lane (candidates world (base l)) ≡ list_any (takes lane) (leaf_at world l).rows
