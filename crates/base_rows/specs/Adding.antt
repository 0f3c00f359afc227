-- Whether a row that comes to a base is one more, and why one does not come.
use Rattle.std.specs.Prelude.{◌≡◌, Bool, true, false, not, if◌then◌else◌, ◌&&◌, List, Option, None, Some, is_some}
use Rattle.elem.specs.declared.elements.Elem.{Elem}
use Rattle.elem.specs.Elements.{same}
use Rattle.base_rows.specs.BaseSpots.{row_of_key, row_of_part}
use Rattle.base_rows.specs.declared.place_fault.PlaceFault.{PlaceFault}
use Rattle.base_rows.specs.declared.place_fault.PlaceFault.TheVariants as fault
use Rattle.vocabulary.specs.declared.edits.Spot.{Spot}
use Rattle.vocabulary.specs.declared.edits.Spot.TheVariants.{Own, Swapped, Instead}
use Rattle.vocabulary.specs.declared.items.Item.{Item}
use Rattle.vocabulary.specs.declared.items.Side.TheVariants.{Second}
use Rattle.vocabulary.specs.declared.kinds.Kind.{Kind}
use Rattle.vocabulary.specs.Items.{key_of, second_of}
use Rattle.vocabulary.specs.Kinds.{shape_of_kind}
use Rattle.vocabulary.specs.Shapes.{is_bimap, is_keyed}
use Rattle.machine.specs.Placing.{takes_row}

-- a row is one more unless it takes the place of one, as that of the same key in a set or a map does, and the pair of the
-- same value in a bimap whose values tell its place
abbrev pub is_one_more : Kind → Spot → List Item → Item → Bool
is_one_more kind Own rows new = if is_keyed (shape_of_kind kind) then not (is_some (row_of_key rows (key_of new))) else true
is_one_more kind Swapped rows new = not (is_some (row_of_part Second rows (second_of new)))
is_one_more kind (Instead i) rows new = false
is_one_more kind other rows new = true

-- a pair that is forced is one more where neither of its parts is there
abbrev pub is_forced_more : List Item → Item → Bool
is_forced_more rows new = not (is_some (row_of_key rows (key_of new))) && not (is_some (row_of_part Second rows (second_of new)))

-- a row does not come where the base refuses it, or for want of memory, which only one more row wants, and a bimap
abbrev pub IsPlaceFault : Kind → Spot → List Item → Item → PlaceFault → Type 0
IsPlaceFault kind spot rows new fault.Refused = takes_row kind spot rows new ≡ false
IsPlaceFault kind spot rows new fault.NoMemory = (takes_row kind spot rows new ≡ true) × (is_bimap (shape_of_kind kind) ≡ false → is_one_more kind spot rows new ≡ true)

-- whether there is one, and it is another
abbrev pub is_other : Option Elem → Elem → Bool
is_other None x = false
is_other (Some y) x = not (same x y)
