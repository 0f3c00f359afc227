-- What the fields of linked pairs mean.
use Rattle.std.specs.Prelude.{ℕ, List, Option}
use Rattle.std.specs.Map.{keys_of}
use Rattle.elem.specs.declared.elements.Elem.{Elem}
use Rattle.mm_base.specs.PairRows.{Row}
use Rattle.mm_base.specs.KeyedRows.{KeyedRows, AreKeysOf, HasDistinctPairs}
use Rattle.mm_base.specs.declared.key_values.KeyValue.{KeyValue}
use Rattle.mm_base.specs.PairPlaces.{FindsPairs}

abbrev pub keyed_rows : {V : Type 0} → List Row → List (Elem × V) → KeyedRows
keyed_rows rows keys = record { rows = rows; keys = keys_of keys }

-- the keys are those of the rows, and no pair stands twice
pub record AreLinked {V : Type 0} (rows : List Row) (keys : List (Elem × V)) : Type 0 where
  pub keyed : AreKeysOf rows (keys_of keys)
  pub pairs : HasDistinctPairs rows

-- and each pair is found at its place, and no other
pub record AreLinkedPairs {V : Type 0} (rows : List Row) (keys : List (Elem × V)) (find : KeyValue → Option ℕ) : Type 0 where
  pub linked : AreLinked rows keys
  pub found : FindsPairs rows find
