-- Lists of keys, each once, and the orders in which the keys of groups go.
use Rattle.std.specs.Prelude.{Bool, not, ◌++◌, List, [], ◌∷◌, if◌then◌else◌}
use Rattle.std.specs.List.{filter, list_any}
use Rattle.elem.specs.declared.elements.Elem.{Elem}
use Rattle.elem.specs.Elements.{same}
use Rattle.vocabulary.specs.declared.orders.Order.{Order}
use Rattle.vocabulary.specs.Orders.{before}

abbrev pub is_among : List Elem → Elem → Bool
is_among ks k = list_any (same k) ks

abbrev pub without_key : Elem → List Elem → List Elem
without_key k ks = filter (λ l. not (same k l)) ks

-- each key once, where it stands first
abbrev pub each_once : List Elem → List Elem
each_once [] = []
each_once (k ∷ ks) = k ∷ without_key k (each_once ks)

-- the keys with one more, which goes last where it is new
abbrev pub with_key : List Elem → Elem → List Elem
with_key ks k = if is_among ks k then ks else ks ++ k ∷ []

-- a key before the first that it comes before
abbrev pub inserted : Order → Elem → List Elem → List Elem
inserted order k [] = k ∷ []
inserted order k (l ∷ ks) = if before order k l then k ∷ l ∷ ks else l ∷ inserted order k ks

abbrev pub in_order : Order → List Elem → List Elem
in_order order [] = []
in_order order (k ∷ ks) = inserted order k (in_order order ks)

-- how the keys of some candidates go: as the candidates come, pair by pair; by the first candidate of each; as a base
-- keeps them; or in an order
pub data KeyOrder : Type 0 where
  AsTheyCome : KeyOrder
  ByFirst : KeyOrder
  Kept : List Elem → KeyOrder
  Sorted : Order → KeyOrder

-- keys, each of which stands there once by its first candidate, as they go
abbrev pub arranged : KeyOrder → List Elem → List Elem
arranged AsTheyCome ks = ks
arranged ByFirst ks = ks
arranged (Kept order) ks = filter (is_among ks) order
arranged (Sorted order) ks = in_order order ks
