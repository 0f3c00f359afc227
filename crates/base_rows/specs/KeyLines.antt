-- Lines of keys: what a walk of a set or a map visits.
use Rattle.std.specs.Prelude.{◌≡◌, ℕ, Bool, true, false, List, [], filter, Option, None, Some, option_map, IfSome}
use Rattle.std.specs.Map.{keys_of}
use Rattle.elem.specs.declared.elements.Elem.{Elem}
use Rattle.elem.specs.declared.cuts.Cut.TheVariants.{Below, Above}
use Rattle.elem.specs.declared.windows.Window.{Window}
use Rattle.elem.specs.Cuts.{cut_upto}
use Rattle.elem.specs.Keyed.{value_at}
use Rattle.base_rows.specs.declared.base_rows.BaseRows.{BaseRows}
use Rattle.base_rows.specs.declared.base_rows.BaseRows.TheVariants as types
use Rattle.view_laws.specs.declared.lanes.PartAsk.{PartAsk}
use Rattle.view_laws.specs.declared.lanes.PartAsk.TheVariants.{Within}
use Rattle.view_laws.specs.declared.places.RowSpot.{RowSpot}
use Rattle.view_laws.specs.declared.places.RowSpot.TheVariants.{Index, Key}
use Rattle.view_laws.specs.Lanes.{meets, turned_if}
use Rattle.vocabulary.specs.Orders.{before}

-- the keys of the rows of a set or a map
abbrev pub keys_in : BaseRows → List Elem
keys_in (types.ArrayList rows) = []
keys_in (types.LinkedHashSet rows) = keys_of rows
keys_in (types.TreeSet rows) = keys_of rows
keys_in (types.TreeSetReverse rows) = keys_of rows
keys_in (types.TreeSetLength rows) = keys_of rows
keys_in (types.LinkedHashMap rows) = keys_of rows
keys_in (types.TreeMap rows) = keys_of rows
keys_in (types.TreeMapReverse rows) = keys_of rows
keys_in (types.TreeMapLength rows) = keys_of rows
keys_in (types.HashBiMap rows) = keys_of rows

-- those of some keys that are as asked, from the front or from the back
abbrev pub key_line : PartAsk → Bool → List Elem → List Elem
key_line ask back ks = turned_if back (filter (meets ask) ks)

-- none, or one of some rows, by its key and its value
abbrev pub IsOneOf : {V : Type 0} → List (Elem × V) → Option (Elem × V) → Type 0
IsOneOf rows found = IfSome found (λ row. value_at rows row.0 ≡ Some row.1)

-- the key of a row, if there is one
abbrev pub key_in : {V : Type 0} → Option (Elem × V) → Option Elem
key_in found = option_map (λ row. row.0) found

-- the key that a spot is
abbrev pub key_at : RowSpot → Option Elem
key_at (Key k) = Some k
key_at other = None

-- the index that a spot is
abbrev pub index_at : RowSpot → Option ℕ
index_at (Index i) = Some i
index_at other = None

-- the part of a window behind a key, or all of it
abbrev pub rest_of : Window → Bool → Option Elem → Window
rest_of w back None = w
rest_of w false (Some k) = record { lo = Above k; hi = w.hi }
rest_of w true (Some k) = record { lo = w.lo; hi = Below k }

-- that no window is asked for
abbrev pub HasNoWindow : PartAsk → Type 0
HasNoWindow (Within order w) = ⊥
HasNoWindow other = Unit {0}

-- that a window, if one is asked for, is read in an order and does not end before it starts
abbrev pub HasWindowIn : (Elem → Elem → Bool) → PartAsk → Type 0
HasWindowIn test (Within order w) = (before order ≡ test) × (cut_upto test w.lo w.hi ≡ true)
HasWindowIn test other = Unit {0}
