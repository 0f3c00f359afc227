-- Spots: what tells the rows of a base from one another, and the row at a spot.
use Rattle.std.specs.Prelude.{◌≡◌, Bool, false, ◌&&◌, nat_eq, if◌then◌else◌, List, [], ◌∷◌, length, Option, None, Some}
use Rattle.std.specs.List.{IsDistinct}
use Rattle.elem.specs.Elements.{same}
use Rattle.vocabulary.specs.declared.items.Item.{Item}
use Rattle.machine.specs.Bases.{World}
use Rattle.machine.specs.Leaves.{Leaf, leaf_at}
use Rattle.view_laws.specs.declared.places.RowSpot.{RowSpot}
use Rattle.view_laws.specs.declared.places.RowSpot.TheVariants.{Index, Key, Pair, Cell, Nth}

abbrev pub same_spot : RowSpot → RowSpot → Bool
same_spot (Index i) (Index j) = nat_eq i j
same_spot (Key k) (Key l) = same k l
same_spot (Pair i) (Pair j) = nat_eq i j
same_spot (Cell r c) (Cell s d) = same r s && same c d
same_spot (Nth x i) (Nth y j) = same x y && nat_eq i j
same_spot a b = false

-- the spots of the rows at each leaf, in their order
abbrev pub Spots : Type 0
Spots = Leaf → List RowSpot

-- the row at a spot
abbrev pub row_at : List RowSpot → List Item → RowSpot → Option Item
row_at [] rows s = None
row_at (t ∷ spots) [] s = None
row_at (t ∷ spots) (row ∷ rows) s = if same_spot t s then Some row else row_at spots rows s

-- each row has a spot, and no two have the same
pub record TellRows (spots : List RowSpot) (rows : List Item) : Type 0 where
  pub as_many : length spots ≡ length rows
  pub apart : IsDistinct same_spot spots

abbrev pub TellAll : World → Spots → Type 0
TellAll world spots = (l : Leaf) → TellRows (spots l) (leaf_at world l).rows
