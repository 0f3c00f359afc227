-- Rows by their elements: the words of the contract of keyed rows.
use Rattle.std.specs.Prelude.{◌≡◌, ℕ, List, Option, None, insert, IsSome}
use Rattle.std.specs.Map.{lookup, remove_entry, set_value, keys_of}
use Rattle.std.specs.List.{IsDistinct}
use Rattle.elem.specs.declared.elements.Elem.{Elem}
use Rattle.elem.specs.Elements.{same}

module _ {V : Type 0} where
  -- the value of a key
  abbrev pub value_at : List (Elem × V) → Elem → Option V
  value_at rows k = lookup (same k) rows

  abbrev pub IsPresent : List (Elem × V) → Elem → Type 0
  IsPresent rows k = IsSome (value_at rows k)

  abbrev pub IsAbsent : List (Elem × V) → Elem → Type 0
  IsAbsent rows k = value_at rows k ≡ None

  -- no key stands twice
  abbrev pub HasDistinctKeys : List (Elem × V) → Type 0
  HasDistinctKeys rows = IsDistinct same (keys_of rows)

  -- the rows with v as the value of the key k
  abbrev pub with_value : List (Elem × V) → Elem → V → List (Elem × V)
  with_value rows k v = set_value (same k) rows v

  -- the rows without that of k
  abbrev pub without : List (Elem × V) → Elem → List (Elem × V)
  without rows k = remove_entry (same k) rows

  -- the rows with one more, at some place
  abbrev pub AddsRow : List (Elem × V) → List (Elem × V) → Elem → V → Type 0
  AddsRow old new k v = (i : ℕ) × (new ≡ insert old i (k, v))
