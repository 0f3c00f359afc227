-- The row form of a view: what each row of its leaf is to it, told from that row alone; and the laws of this form.
use Rattle.std.specs.Prelude.{◌≡◌, Bool, true, false, ◌&&◌, not, List, map, filter, Option, None, Some}
use Rattle.vocabulary.specs.declared.items.Item.{Item}
use Rattle.vocabulary.specs.declared.items.Item.TheVariants.{One, Entry}
use Rattle.vocabulary.specs.declared.shapes.Shape.{Shape}
use Rattle.vocabulary.specs.declared.step_table.Family.{Family}
use Rattle.vocabulary.specs.declared.step_table.Family.TheVariants.{Changed, Turned, Keyed, Hidden, Cut, Grouped, Run, Pieces}
use Rattle.vocabulary.specs.declared.steps.Flags.{Flags}
use Rattle.vocabulary.specs.declared.steps.Step.{Step}
use Rattle.vocabulary.specs.declared.steps.Step.TheVariants.{At}
use Rattle.vocabulary.specs.Steps.{family_of, flags_after, item_of, lifted, passes}
use Rattle.machine.specs.Bases.{World}
use Rattle.machine.specs.Candidates.{Candidate, changed, cut, hidden, of_rows}
use Rattle.machine.specs.KeyOrders.{AsTheyCome, KeyOrder}
use Rattle.machine.specs.Leaves.{leaf_at}
use Rattle.machine.specs.Views.{View, base, both, over, base_under, candidates, flags_at, lift, order_over, shown}
use Rattle.view_laws.specs.declared.places.Found.{Found}
use Rattle.view_laws.specs.Lanes.{turned_if}
use Rattle.view_laws.specs.Places.{found_in}

-- whether a row is a candidate, whether it is seen, its item, and whether the walk is turned round
pub record RowForm : Type 0 where
  pub takes : Item → Bool
  pub sees : Item → Bool
  pub item : Item → Item
  pub turned : Bool

-- a leaf shows each row as it is
abbrev pub of_leaf : RowForm
of_leaf = record { takes = λ row. true; sees = λ row. true; item = λ row. row; turned = false }

abbrev pub item_over : Step → RowForm → Item → Item
item_over step f row = item_of step (f.item row)

abbrev pub passes_over : Step → RowForm → Item → Bool
passes_over step f row = passes step (f.item row)

-- the form of a step over a view, by the step's family; a family that does not go row by row leaves the form
abbrev pub form_over : Family → Step → RowForm → RowForm
form_over Changed step f = record { takes = f.takes; sees = f.sees; item = item_over step f; turned = f.turned }
form_over Keyed step f = record { takes = f.takes; sees = f.sees; item = item_over step f; turned = f.turned }
form_over Turned step f = record { takes = f.takes; sees = f.sees; item = f.item; turned = not f.turned }
form_over Hidden step f = record { takes = f.takes; sees = λ row. f.sees row && passes_over step f row; item = f.item; turned = f.turned }
form_over Cut step f = record { takes = λ row. f.takes row && passes_over step f row; sees = f.sees; item = item_over step f; turned = f.turned }
form_over other step f = f

abbrev pub form_of : View → RowForm
form_of (base l) = of_leaf
form_of (over step v) = form_over (family_of step) step (form_of v)
form_of (both word v u) = of_leaf

abbrev pub come_as_they_are : KeyOrder → Bool
come_as_they_are AsTheyCome = true
come_as_they_are order = false

-- the families that go row by row: keys where they go as they come
abbrev pub goes_by_row : Family → KeyOrder → Bool
goes_by_row Keyed order = come_as_they_are order
goes_by_row Grouped order = false
goes_by_row Run order = false
goes_by_row Pieces order = false
goes_by_row other order = true

-- whether each step of a view goes row by row
abbrev pub is_by_row : World → View → Bool
is_by_row world (base l) = true
is_by_row world (over step v) = goes_by_row (family_of step) (order_over world v step) && is_by_row world v
is_by_row world (both word v u) = false

-- the candidates that a form makes of rows
abbrev pub candidates_by : RowForm → List Item → List Candidate
candidates_by f rows = turned_if f.turned (changed f.item (hidden f.sees (cut f.takes (of_rows 0 rows))))

-- what these candidates show
abbrev pub found_row_by : RowForm → Item → Found
found_row_by f row = record { item = f.item row; seen = f.sees row }

abbrev pub found_by : RowForm → List Item → List Found
found_by f rows = turned_if f.turned (map (found_row_by f) (filter f.takes rows))

-- whether a form shows a row
abbrev pub shows : RowForm → Item → Bool
shows f row = f.takes row && f.sees row

-- the items of the rows that a form shows
abbrev pub shown_by : RowForm → List Item → List Item
shown_by f rows = turned_if f.turned (map f.item (filter (shows f) rows))

-- ---- a view is what its form makes of the rows of its leaf

abbrev pub RowLaw : Type 0
RowLaw = (world : World) (v : View) → is_by_row world v ≡ true → candidates world v ≡ candidates_by (form_of v) (leaf_at world (base_under v)).rows

abbrev pub FoundLaw : Type 0
FoundLaw = (world : World) (v : View) → is_by_row world v ≡ true → map found_in (candidates world v) ≡ found_by (form_of v) (leaf_at world (base_under v)).rows

abbrev pub ShownLaw : Type 0
ShownLaw = (world : World) (v : View) → is_by_row world v ≡ true → shown world v ≡ shown_by (form_of v) (leaf_at world (base_under v)).rows

-- ---- adding

-- whether an item can be given the part that a step leaves out: an element or an entry can
abbrev pub has_room : Step → Item → Bool
has_room (At side k n) (One x) = true
has_room (At side k n) (Entry c v) = true
has_room (At side k n) item = false
has_room step item = true

-- what a step makes of the item that an added item is below it is that item, and it passes
pub record IsUndone (step : Step) (item below : Item) : Type 0 where
  pub back : item_of step below ≡ item
  pub passed : passes step below ≡ true

abbrev pub LiftUndone : Type 0
LiftUndone = (of : Shape) (flags : Flags) (step : Step) (item below : Item) → (flags_after of step flags).add ≡ true → has_room step item ≡ true → lifted step item ≡ Some below → IsUndone step item below

-- whether there is room on the whole way down
abbrev pub goes_down : (Item → Bool) → Option Item → Bool
goes_down room None = true
goes_down room (Some item) = room item

abbrev pub room_in : View → Item → Bool
room_in (base l) item = true
room_in (over step v) item = has_room step item && goes_down (room_in v) (lifted step item)
room_in (both word v u) item = true

-- a row that is shown, as this item
pub record IsShownAs (f : RowForm) (row item : Item) : Type 0 where
  pub taken : f.takes row ≡ true
  pub seen : f.sees row ≡ true
  pub same : f.item row ≡ item

-- the row that an added item means is shown, as that item, by a view that allows adding
abbrev pub LiftLaw : Type 0
LiftLaw =
    (world : World) (v : View) (item row : Item) → is_by_row world v ≡ true → (flags_at world v).add ≡ true → room_in v item ≡ true → lift v item ≡ Some row → IsShownAs (form_of v) row item
