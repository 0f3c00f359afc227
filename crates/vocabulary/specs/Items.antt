-- Items: their parts, and when two are the same.
use Rattle.std.specs.Prelude.{Bool, false, ◌&&◌, nat_eq, pos}
use Rattle.elem.specs.declared.elements.Elem.{Elem}
use Rattle.elem.specs.declared.elements.Elem.TheVariants.{Int}
use Rattle.elem.specs.declared.spans.Span.{Span}
use Rattle.elem.specs.Cuts.{same_cut}
use Rattle.elem.specs.Elements.{same}
use Rattle.vocabulary.specs.declared.items.Item.{Item}
use Rattle.vocabulary.specs.declared.items.Item.TheVariants.{One, Entry, Counted, Cell, Group, Piece, Range, RangeEntry, Pair, Edge}
use Rattle.vocabulary.specs.declared.items.Side.{Side}
use Rattle.vocabulary.specs.declared.items.Side.TheVariants.{First, Second}

-- what stands for the key or the value of an item that has none
abbrev pub no_element : Elem
no_element = Int (pos 0)

-- an element is its own key and its own value; the key of a cell is its row
abbrev pub key_of : Item → Elem
key_of (One x) = x
key_of (Entry k v) = k
key_of (Counted x n) = x
key_of (Cell r c v) = r
key_of (Group k) = k
key_of other = no_element

abbrev pub value_of : Item → Elem
value_of (One x) = x
value_of (Entry k v) = v
value_of (Counted x n) = x
value_of (Cell r c v) = v
value_of (Group k) = k
value_of (RangeEntry s v) = v
value_of (Edge a b v) = v
value_of other = no_element

-- what tells items of one key apart: the value of an entry, the column of a cell
abbrev pub second_of : Item → Elem
second_of (Cell r c v) = c
second_of item = value_of item

abbrev pub part_of : Side → Item → Elem
part_of First item = key_of item
part_of Second item = second_of item

-- an entry or a cell with another value; any other item stays as it is
abbrev pub with_value : Item → Elem → Item
with_value (Entry k v) w = Entry k w
with_value (Cell r c v) w = Cell r c w
with_value item w = item

-- an entry without one of its parts is an element, and a cell an entry
abbrev pub without_part : Side → Item → Item
without_part First (Entry k v) = One v
without_part First (Cell r c v) = Entry c v
without_part Second (Entry k v) = One k
without_part Second (Cell r c v) = Entry r v
without_part side item = item

-- the item with a part given back
abbrev pub with_part : Side → Elem → Item → Item
with_part First x (One v) = Entry x v
with_part First x (Entry c v) = Cell x c v
with_part Second x (One k) = Entry k x
with_part Second x (Entry r v) = Cell r x v
with_part side x item = item

-- the item with both parts exchanged
abbrev pub swapped : Item → Item
swapped (Entry k v) = Entry v k
swapped (Cell r c v) = Cell c r v
swapped item = item

abbrev pub same_span : Span → Span → Bool
same_span s t = same_cut s.lo t.lo && same_cut s.hi t.hi

abbrev pub same_item : Item → Item → Bool
same_item (One x) (One y) = same x y
same_item (Entry k v) (Entry l w) = same k l && same v w
same_item (Counted x m) (Counted y n) = same x y && nat_eq m n
same_item (Cell r c v) (Cell s d w) = same r s && same c d && same v w
same_item (Group k) (Group l) = same k l
same_item (Piece i) (Piece j) = nat_eq i j
same_item (Range s) (Range t) = same_span s t
same_item (RangeEntry s v) (RangeEntry t w) = same_span s t && same v w
same_item (Pair a b) (Pair c d) = same a c && same b d
same_item (Edge a b v) (Edge c d w) = same a c && same b d && same v w
same_item a b = false
