-- Lanes: the places of a view that a walk visits.
use Rattle.std.specs.Prelude.{Bool, true, false, ◌&&◌, if◌then◌else◌, List, filter, reverse, take, drop, Option}
use Rattle.elem.specs.declared.elements.Elem.{Elem}
use Rattle.elem.specs.Elements.{same}
use Rattle.vocabulary.specs.declared.items.Item.{Item}
use Rattle.vocabulary.specs.declared.items.Side.{Side}
use Rattle.vocabulary.specs.declared.items.Side.TheVariants.{First, Second}
use Rattle.vocabulary.specs.Items.{key_of, second_of}
use Rattle.vocabulary.specs.Orders.{lies_in}
use Rattle.machine.specs.Bases.{World}
use Rattle.machine.specs.KeyOrders as keys
use Rattle.machine.specs.Views.{View, root}
use Rattle.view_laws.specs.declared.lanes.GroupOrder.{GroupOrder}
use Rattle.view_laws.specs.declared.lanes.GroupOrder.TheVariants.{AsTheyCome, ByFirst, OfBase, Sorted}
use Rattle.view_laws.specs.declared.lanes.Lane.{Lane}
use Rattle.view_laws.specs.declared.lanes.PartAsk.{PartAsk}
use Rattle.view_laws.specs.declared.lanes.PartAsk.TheVariants.{Any, Is, Within, Nothing}
use Rattle.view_laws.specs.declared.lanes.Pick.{Pick}
use Rattle.view_laws.specs.declared.lanes.Pick.TheVariants as pick
use Rattle.view_laws.specs.declared.lanes.Run.{Run}
use Rattle.view_laws.specs.declared.places.Found.{Found}
use Rattle.view_laws.specs.declared.places.Place.{Place}
use Rattle.view_laws.specs.Places.{heads, is_seen_at, passes_at}
use Rattle.view_laws.specs.Spots.{Spots}
use Rattle.view_laws.specs.ViewPlaces.{places, show}

-- ---- what is asked of items

abbrev pub meets : PartAsk → Elem → Bool
meets Any x = true
meets (Is y) x = same y x
meets (Within order w) x = lies_in order w x
meets Nothing x = false

abbrev pub asked_of : Side → Lane → PartAsk
asked_of First lane = lane.first
asked_of Second lane = lane.second

-- whether a lane takes an item, by its two parts
abbrev pub takes : Lane → Item → Bool
takes lane item = meets lane.first (key_of item) && meets lane.second (second_of item)

abbrev pub all : Lane
all = record { first = Any; second = Any; pick = pick.Each }

-- ---- which candidates are walked

-- the order of keys, where the base keeps these
abbrev pub order_in : List Elem → GroupOrder → keys.KeyOrder
order_in ks AsTheyCome = keys.AsTheyCome
order_in ks ByFirst = keys.ByFirst
order_in ks OfBase = keys.Kept ks
order_in ks (Sorted order) = keys.Sorted order

abbrev pub turned_if : {X : Type 0} → Bool → List X → List X
turned_if t xs = if t then reverse xs else xs

abbrev pub run_picked : Run → List Place → List Place
run_picked r ps = turned_if r.from_back (take r.len (drop r.start (turned_if r.from_back ps)))

abbrev pub picked : Pick → List Elem → (Place → Option Found) → List Place → List Place
picked pick.Each ks at ps = ps
picked (pick.Firsts side order) ks at ps = heads side (order_in ks order) at ps
picked (pick.Lasts side) ks at ps = reverse (heads side keys.ByFirst at (reverse ps))
picked (pick.Run r) ks at ps = run_picked r (filter (λ p. is_seen_at (at p)) ps)

-- those of some places that a lane takes, from the front or from the back
abbrev pub line_of : Lane → List Elem → Bool → (Place → Option Found) → List Place → List Place
line_of lane ks back at ps = turned_if back (filter (λ p. passes_at (takes lane) (at p)) (picked lane.pick ks at ps))

-- the places of a view in a lane, from the front or from the back
abbrev pub line : World → Spots → View → Lane → Bool → List Place
line world spots v lane back = line_of lane (root world v).keys back (show world spots v) (places world spots v)
