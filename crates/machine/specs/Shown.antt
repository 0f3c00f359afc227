-- What is found among the items that a view shows.
use Rattle.std.specs.Prelude.{ℕ, Bool, true, false, ◌&&◌, List, [], ◌∷◌, length, map, filter, reverse, find, slice_get, Option}
use Rattle.std.specs.List.{list_any}
use Rattle.std.specs.Option.{option_map, option_and_then}
use Rattle.elem.specs.declared.elements.Elem.{Elem}
use Rattle.elem.specs.Elements.{same}
use Rattle.vocabulary.specs.declared.items.Item.{Item}
use Rattle.vocabulary.specs.declared.items.Item.TheVariants.{One}
use Rattle.vocabulary.specs.Items.{key_of, same_item, second_of, value_of}

abbrev pub has_key : Elem → Item → Bool
has_key k item = same k (key_of item)

abbrev pub has_column : Elem → Item → Bool
has_column c item = same c (second_of item)

abbrev pub has_value : Elem → Item → Bool
has_value v item = same v (value_of item)

abbrev pub is_at : Elem → Elem → Item → Bool
is_at r c item = has_key r item && has_column c item

-- whether an item is shown
abbrev pub is_shown : List Item → Item → Bool
is_shown items item = list_any (same_item item) items

-- how often it is
abbrev pub times_shown : List Item → Item → ℕ
times_shown items item = length (filter (same_item item) items)

-- the value shown at a key, and at a row and a column
abbrev pub value_shown : List Item → Elem → Option Elem
value_shown items k = option_map value_of (find (has_key k) items)

abbrev pub cell_shown : List Item → Elem → Elem → Option Elem
cell_shown items r c = option_map value_of (find (is_at r c) items)

-- the values shown of a key
abbrev pub values_shown : List Item → Elem → List Item
values_shown items k = map (λ item. One (value_of item)) (filter (has_key k) items)

-- the item shown at an index; no item is at a negative one
abbrev pub item_shown : List Item → Option ℕ → Option Item
item_shown items i = option_and_then (slice_get items) i

abbrev pub first_shown : List Item → Option Item
first_shown items = slice_get items 0

abbrev pub last_shown : List Item → Option Item
last_shown items = slice_get (reverse items) 0

abbrev pub is_empty : {X : Type 0} → List X → Bool
is_empty [] = true
is_empty (x ∷ xs) = false
