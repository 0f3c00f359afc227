-- Worked examples: what a table of three cells shows along its lanes, and what a put makes of it.
use Rattle.std.proofs.Common.{◌≡◌, true, false, List, [], ◌∷◌, refl}
use Rattle.std.specs.Prelude.{pos}
use Rattle.elem.specs.declared.elements.Elem.{Elem}
use Rattle.elem.specs.declared.elements.Elem.TheVariants.{Int}
use Rattle.elem.specs.Elements.{same}
use Rattle.vocabulary.specs.declared.items.Item.{Item}
use Rattle.vocabulary.specs.declared.items.Item.TheVariants as item
use Rattle.vocabulary.specs.declared.items.Side.TheVariants.{First, Second}
use Rattle.vocabulary.specs.declared.kinds.Kind.TheVariants.{LinkedTable}
use Rattle.machine.specs.Placing.{placed}
use Rattle.view_laws.specs.declared.places.RowSpot.TheVariants as spot
use Rattle.view_laws.specs.Lanes.{all}
use Rattle.view_laws.specs.Serving.{of_part}
use Rattle.cell_rows.specs.CellSpots.{cell_line}

abbrev one : Elem
one = Int (pos 1)

abbrev two : Elem
two = Int (pos 2)

abbrev ten : Elem
ten = Int (pos 10)

abbrev eleven : Elem
eleven = Int (pos 11)

-- 2 and 11, 1 and 11, 1 and 10, in the order of their putting
abbrev three : List Item
three = item.Cell two eleven (Int (pos 200)) ∷ item.Cell one eleven (Int (pos 100)) ∷ item.Cell one ten (Int (pos 101)) ∷ []

-- all cells from the back
from_the_back : cell_line three all true ≡ spot.Cell one ten ∷ spot.Cell one eleven ∷ spot.Cell two eleven ∷ []
from_the_back = refl

-- row 1, and column 11 from the back
row_one : cell_line three (of_part First one) false ≡ spot.Cell one eleven ∷ spot.Cell one ten ∷ []
unfolding same
row_one = refl

column_eleven : cell_line three (of_part Second eleven) true ≡ spot.Cell one eleven ∷ spot.Cell two eleven ∷ []
unfolding same
column_eleven = refl

-- a new cell goes last in its row
last_in_its_row : placed LinkedTable three (item.Cell two ten (Int (pos 7))) ≡ item.Cell two eleven (Int (pos 200)) ∷ item.Cell two ten (Int (pos 7)) ∷ item.Cell one eleven (Int (pos 100)) ∷ item.Cell one ten (Int (pos 101)) ∷ []
unfolding same
last_in_its_row = refl

-- and a value takes the place of the one before
in_place : placed LinkedTable three (item.Cell one eleven (Int (pos 7))) ≡ item.Cell two eleven (Int (pos 200)) ∷ item.Cell one eleven (Int (pos 7)) ∷ item.Cell one ten (Int (pos 101)) ∷ []
unfolding same
in_place = refl
