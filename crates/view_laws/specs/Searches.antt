-- Searches: what is found in a lane that asks for one element, and that the first thing found there decides.
use Rattle.std.specs.Prelude.{◌≡◌, ◌≤◌, ℕ, Bool, true, false, List, [], ◌∷◌, length, Option, Some, slice_get}
use Rattle.std.specs.List.{IsDistinct}
use Rattle.elem.specs.declared.elements.Elem.{Elem}
use Rattle.elem.specs.Elements.{same}
use Rattle.vocabulary.specs.declared.items.Item.{Item}
use Rattle.vocabulary.specs.declared.items.Item.TheVariants.{One}
use Rattle.vocabulary.specs.Items.{key_of}
use Rattle.vocabulary.specs.Shapes.{is_elements}
use Rattle.machine.specs.Bases.{World}
use Rattle.machine.specs.Leaves.{leaf_at}
use Rattle.machine.specs.Shown.{is_shown}
use Rattle.machine.specs.Views.{View, base, base_under, candidates, shape_at, shown}
use Rattle.view_laws.specs.declared.lanes.Lane.{Lane}
use Rattle.view_laws.specs.declared.lanes.PartAsk.TheVariants.{Is}
use Rattle.view_laws.specs.declared.lanes.Pick.TheVariants.{Each}
use Rattle.view_laws.specs.declared.places.Found.{Found}
use Rattle.view_laws.specs.declared.places.Place.{Place}
use Rattle.view_laws.specs.ItemForms.{IsFormed}
use Rattle.view_laws.specs.Lanes.{line}
use Rattle.view_laws.specs.LanesDown.{lane_down}
use Rattle.view_laws.specs.LookUps.{of_element, shows_in}
use Rattle.view_laws.specs.Places.{is_seen_at}
use Rattle.view_laws.specs.RowForm.{is_by_row}
use Rattle.view_laws.specs.Spots.{Spots, TellAll}
use Rattle.view_laws.specs.ViewPlaces.{show}

-- what is found at some places is the same item, and seen or not as one
abbrev pub AreAlike : (Place → Option Found) → List Place → Type 0
AreAlike at ps = (i j : ℕ) (p q : Place) → slice_get ps i ≡ Some p → slice_get ps j ≡ Some q → at p ≡ at q

-- whether what is found first is seen
abbrev pub first_seen : (Place → Option Found) → List Place → Bool
first_seen at [] = false
first_seen at (p ∷ ps) = is_seen_at (at p)

-- where all that is found in a lane is alike, the first decides whether the view shows what the lane asks for
abbrev pub FirstDecides : Type 0
FirstDecides =
    (world : World) (spots : Spots) (v : View) (lane : Lane) (back : Bool) → TellAll world spots → lane.pick ≡ Each → AreAlike (show world spots v) (line world spots v lane back)
    → shows_in lane (candidates world v) ≡ first_seen (show world spots v) (line world spots v lane back)

-- a view of elements shows an element where it shows what is asked for by the lane of that element
abbrev pub ElementShown : Type 0
ElementShown = (world : World) (v : View) (x : Elem) → IsFormed world v → is_elements (shape_at world v) ≡ true → is_shown (shown world v) (One x) ≡ shows_in (of_element x) (candidates world v)

-- where a lane comes down to one of an element, over elements, all that is found in it is alike
abbrev pub AlikeInLane : Type 0
AlikeInLane =
    (world : World) (spots : Spots) (v : View) (lane below : Lane) (back b : Bool) (y : Elem) → IsFormed world v → is_by_row world v ≡ true → is_elements (shape_at world (base (base_under v))) ≡ true
    → lane_down world v lane back ≡ Some (below, b) → below.first ≡ Is y → AreAlike (show world spots v) (line world spots v lane back)

abbrev pub same_key : Item → Item → Bool
same_key a b = same (key_of a) (key_of b)

-- where it comes down to one of a key, over rows no two of which have the same key, there is one place in it, if any
abbrev pub OneInLane : Type 0
OneInLane =
    (world : World) (spots : Spots) (v : View) (lane below : Lane) (back b : Bool) (y : Elem) → IsFormed world v → TellAll world spots → IsDistinct same_key (leaf_at world (base_under v)).rows
    → lane_down world v lane back ≡ Some (below, b) → below.first ≡ Is y → below.pick ≡ Each → length (line world spots v lane back) ≤ 1

-- what is found at one place is alike
abbrev pub OneAlike : Type 0
OneAlike = (at : Place → Option Found) (ps : List Place) → length ps ≤ 1 → AreAlike at ps
