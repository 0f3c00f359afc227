-- Rows of pairs in a tree: each is a key with a value and nothing beside it. A pair is its own id.
use Rattle.std.specs.Prelude.{ℕ, Bool, List, length, Option, is_some, slice_get}
use Rattle.std.specs.Option.{option_map}
use Rattle.std.specs.Map.{keys_of}
use Rattle.elem.specs.declared.elements.Elem.{Elem}
use Rattle.elem.specs.Keyed.{value_at}
use Rattle.plain_base.specs.TwoKeys.{group, HasBoth}

-- a key and a value
abbrev pub Row : Type 0
Row = Elem × (Elem × Unit {0})

-- whether the key has the value
abbrev pub has_pair : Elem → Elem → List Row → Bool
has_pair k v rows = is_some (value_at (group k rows) v)

-- the pair is there
abbrev pub IsLive : List Row → Elem × Elem → Type 0
IsLive rows p = HasBoth rows p.0 p.1

-- how many pairs a key has
abbrev pub count_of : Elem → List Row → ℕ
count_of k rows = length (group k rows)

-- the pair of a key and a value, where there is a value
abbrev pub pair_in : Elem → Option Elem → Option (Elem × Elem)
pair_in k v = option_map (λ (x : Elem). (k, x)) v

-- a key's pair number i
abbrev pub id_of : Elem → ℕ → List Row → Option (Elem × Elem)
id_of k i rows = pair_in k (slice_get (keys_of (group k rows)) i)
