-- The place of each pair, found by its key and value.
use Rattle.std.specs.Prelude.{◌≡◌, ℕ, List, Option}
use Rattle.elem.specs.declared.elements.Elem.{Elem}
use Rattle.elem.specs.Rows.{first_key}
use Rattle.mm_base.specs.declared.key_values.KeyValue.{KeyValue}
use Rattle.mm_base.specs.KeyValues.{key_value}
use Rattle.mm_base.specs.PairRows.{Row, rows_of_pair}

-- what finds the id of each pair that is there, and of no other
abbrev pub FindsPairs : List Row → (KeyValue → Option ℕ) → Type 0
FindsPairs rows find = (k v : Elem) → find (key_value k v) ≡ first_key (rows_of_pair k v rows)
