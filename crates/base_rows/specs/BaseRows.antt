-- What the types of the bases mean as rows.
use Rattle.std.specs.Prelude.{◌≡◌, ℕ, ◌<◌, ◌≤◌, Bool, true, false, List, [], ◌∷◌, map}
use Rattle.elem.specs.declared.elements.Elem.{Elem}
use Rattle.base_rows.specs.BaseSpots.{spots_of}
use Rattle.base_rows.specs.declared.base_rows.BaseRows.{BaseRows}
use Rattle.base_rows.specs.declared.base_rows.BaseRows.TheVariants as types
use Rattle.vocabulary.specs.declared.edits.Spot.{Spot}
use Rattle.vocabulary.specs.declared.edits.Spot.TheVariants.{Own, Swapped, Before, Instead}
use Rattle.vocabulary.specs.declared.items.Item.{Item}
use Rattle.vocabulary.specs.declared.items.Item.TheVariants.{One, Entry}
use Rattle.vocabulary.specs.declared.kinds.Kind.{Kind}
use Rattle.vocabulary.specs.declared.kinds.Kind.TheVariants as kind
use Rattle.view_laws.specs.declared.lanes.Lane.{Lane}
use Rattle.view_laws.specs.declared.places.RowSpot.{RowSpot}
use Rattle.vocabulary.specs.declared.shapes.Shape.{Shape}
use Rattle.vocabulary.specs.declared.shapes.Shape.TheVariants as shape
use Rattle.vocabulary.specs.Kinds.{shape_of_kind}
use Rattle.view_laws.specs.BaseLines.{spot_line}
use Rattle.vocabulary.specs.Shapes.{is_bimap, is_keyed}
use Rattle.machine.specs.Bases.{Base}

-- the rows of a list, of a set and of a map
abbrev pub items : List Elem → List Item
items xs = map One xs

abbrev pub entry_of : Elem × Elem → Item
entry_of row = Entry row.0 row.1

abbrev pub entries : List (Elem × Elem) → List Item
entries rows = map entry_of rows

abbrev pub member_of : Elem × Unit {0} → Item
member_of row = One row.0

abbrev pub members : List (Elem × Unit {0}) → List Item
members rows = map member_of rows

abbrev pub kind_of : BaseRows → Kind
kind_of (types.ArrayList rows) = kind.ArrayList
kind_of (types.LinkedHashSet rows) = kind.LinkedHashSet
kind_of (types.TreeSet rows) = kind.TreeSet
kind_of (types.TreeSetReverse rows) = kind.TreeSetReverse
kind_of (types.TreeSetLength rows) = kind.TreeSetLength
kind_of (types.LinkedHashMap rows) = kind.LinkedHashMap
kind_of (types.TreeMap rows) = kind.TreeMap
kind_of (types.TreeMapReverse rows) = kind.TreeMapReverse
kind_of (types.TreeMapLength rows) = kind.TreeMapLength
kind_of (types.HashBiMap rows) = kind.HashBiMap

abbrev pub rows_of : BaseRows → List Item
rows_of (types.ArrayList rows) = items rows
rows_of (types.LinkedHashSet rows) = members rows
rows_of (types.TreeSet rows) = members rows
rows_of (types.TreeSetReverse rows) = members rows
rows_of (types.TreeSetLength rows) = members rows
rows_of (types.LinkedHashMap rows) = entries rows
rows_of (types.TreeMap rows) = entries rows
rows_of (types.TreeMapReverse rows) = entries rows
rows_of (types.TreeMapLength rows) = entries rows
rows_of (types.HashBiMap rows) = entries rows

-- the rows as a base that was not changed yet
abbrev pub plain : BaseRows → Base
plain r = record { kind = kind_of r; rows = rows_of r; keys = []; change = 0; frozen = false }

-- the spots of the rows, and those of them in a lane, from the front or from the back
abbrev pub base_spots : BaseRows → List RowSpot
base_spots r = spots_of (kind_of r) (rows_of r)

abbrev pub base_line : BaseRows → Lane → Bool → List RowSpot
base_line r lane back = spot_line (base_spots r) (rows_of r) lane back

-- a row of a list or a set is an element, and one of a map or a bimap an entry
abbrev pub IsRowIn : Shape → Item → Type 0
IsRowIn (shape.Map sorted) (Entry k v) = Unit {0}
IsRowIn (shape.Map sorted) other = ⊥
IsRowIn shape.BiMap (Entry k v) = Unit {0}
IsRowIn shape.BiMap other = ⊥
IsRowIn of (One x) = Unit {0}
IsRowIn of other = ⊥

abbrev pub IsRowOf : Kind → Item → Type 0
IsRowOf k row = IsRowIn (shape_of_kind k) row

-- a spot in a base that has so many rows: only a list has spots by number, and only the values of a bimap tell a place
abbrev pub IsSpotIn : Kind → ℕ → Spot → Type 0
IsSpotIn k size Own = Unit {0}
IsSpotIn k size Swapped = is_bimap (shape_of_kind k) ≡ true
IsSpotIn k size (Before i) = (is_keyed (shape_of_kind k) ≡ false) × (i ≤ size)
IsSpotIn k size (Instead i) = (is_keyed (shape_of_kind k) ≡ false) × (i < size)
IsSpotIn k size other = ⊥

-- rows that all fit a kind
abbrev pub AreRowsOf : Kind → List Item → Type 0
AreRowsOf k [] = Unit {0}
AreRowsOf k (row ∷ rows) = IsRowOf k row × AreRowsOf k rows

-- a spot to which rows come, and from which none goes
abbrev pub IsFree : Spot → Type 0
IsFree Own = Unit {0}
IsFree (Before i) = Unit {0}
IsFree other = ⊥
