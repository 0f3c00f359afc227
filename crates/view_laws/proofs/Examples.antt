-- Examples: lanes that come down, in a multimap, in a sorted set that is turned round, and in a table; and places in a set
-- that is turned round, where an element comes and goes.
use Rattle.std.proofs.Common.{◌≡◌, ℕ, true, false, not, List, [], ◌∷◌, map, refl}
use Rattle.std.specs.Prelude.{filter, pos, Some, None}
use Rattle.elem.specs.declared.elements.Elem.{Elem}
use Rattle.elem.specs.declared.elements.Elem.TheVariants.{Int}
use Rattle.elem.specs.Elements as elements
use Rattle.vocabulary.specs.declared.items.Item.{Item}
use Rattle.vocabulary.specs.declared.items.Item.TheVariants.{One, Entry, Cell}
use Rattle.vocabulary.specs.declared.items.Side.TheVariants.{First}
use Rattle.vocabulary.specs.declared.kinds.Kind.TheVariants.{LinkedListMultimap, TreeBasedTable, TreeSet}
use Rattle.vocabulary.specs.declared.shapes.Shape.TheVariants as shape
use Rattle.vocabulary.specs.declared.steps.GroupForm.TheVariants as group
use Rattle.vocabulary.specs.declared.steps.PlainStep.TheVariants.{Descending, Values}
use Rattle.vocabulary.specs.declared.steps.Step.TheVariants.{Plain, At, Group}
use Rattle.vocabulary.specs.Items.{key_of}
use Rattle.machine.specs.Bases.{Base, World, empty_base}
use Rattle.machine.specs.Leaves.{leaf_at, stored}
use Rattle.machine.specs.Views.{View, base, over}
use Rattle.view_laws.specs.declared.lanes.GroupOrder.TheVariants as keys
use Rattle.view_laws.specs.declared.lanes.PartAsk.TheVariants.{Any, Is}
use Rattle.view_laws.specs.declared.lanes.Pick.TheVariants.{Firsts}
use Rattle.view_laws.specs.declared.places.Place.{Place}
use Rattle.view_laws.specs.declared.places.RowSpot.TheVariants.{Key}
use Rattle.view_laws.specs.ItemForms.{has_form}
use Rattle.view_laws.specs.Lanes.{all, line}
use Rattle.view_laws.specs.LanesDown.{lane_down}
use Rattle.view_laws.specs.LookUps.{of_element}
use Rattle.view_laws.specs.Narrowing.{asking, with_pick}
use Rattle.view_laws.specs.RowChanges.{with_place}
use Rattle.view_laws.specs.Searches.{first_seen}
use Rattle.view_laws.specs.Spots.{Spots, same_spot}
use Rattle.view_laws.specs.ViewPlaces.{place_of, places, show}

-- a multimap, a sorted set and a sorted table
abbrev three : World
three = empty_base LinkedListMultimap ∷ empty_base TreeSet ∷ empty_base TreeBasedTable ∷ []

value_of_key : (k v : Elem) → lane_down three (over (At First k 0) (base (stored 0))) (asking (Is v) Any) false ≡ Some (asking (Is k) (Is v), false)
value_of_key k v = refl

turned_set : (x : Elem) → lane_down three (over (Plain Descending) (base (stored 1))) (asking (Is x) Any) false ≡ Some (asking (Is x) Any, true)
turned_set x = refl

values_of_cells : (x : Elem) → lane_down three (over (Plain Values) (base (stored 2))) (asking (Is x) Any) false ≡ None
values_of_cells x = refl

keys_of_pairs : lane_down three (over (Group First group.Keys) (base (stored 0))) all true ≡ Some (with_pick (asking Any Any) (Firsts First keys.AsTheyCome), true)
keys_of_pairs = refl

cells_of_tables : (r c v : Elem) → has_form (shape.Table false true) (Cell r c v) ≡ true
cells_of_tables r c v = refl

no_entries_of_tables : (k v : Elem) → has_form (shape.Table false true) (Entry k v) ≡ false
no_entries_of_tables k v = refl

abbrev holding : List Item → Base
holding rows = record { kind = TreeSet; rows = rows; keys = []; change = 0; frozen = false }

-- a set that is turned round, before and after 5 comes between 3 and 7
abbrev number : ℕ → Elem
number n = Int (pos n)

abbrev before : World
before = holding (One (number 3) ∷ One (number 7) ∷ []) ∷ []

abbrev after : World
after = holding (One (number 3) ∷ One (number 5) ∷ One (number 7) ∷ []) ∷ []

abbrev by_key : World → Spots
by_key world l = map (λ row. Key (key_of row)) (leaf_at world l).rows

abbrev turned : View
turned = over (Plain Descending) (base (stored 0))

five_comes : places after (by_key after) turned ≡ with_place true 1 (place_of (Key (number 5))) (places before (by_key before) turned)
five_comes = refl

five_goes : places before (by_key before) turned ≡ filter (λ (p : Place). not (same_spot (Key (number 5)) p.spot)) (places after (by_key after) turned)
unfolding elements.same
five_goes = refl

five_is_found : first_seen (show after (by_key after) turned) (line after (by_key after) turned (of_element (number 5)) false) ≡ true
unfolding elements.same
five_is_found = refl
