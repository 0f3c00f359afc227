-- Rows by their elements, and which of them fit a kind of builder.
use Rattle.std.specs.Prelude.{pos, Bool, ◌&&◌, ⊤}
use Rattle.elem.specs.declared.elements.Elem.{Elem}
use Rattle.elem.specs.declared.elements.Elem.TheVariants.{Int}
use Rattle.elem.specs.declared.build_kinds.BuildKind.{BuildKind}
use Rattle.elem.specs.declared.build_kinds.BuildKind.TheVariants as kind
use Rattle.elem.specs.Elements.{same}
use Rattle.elem.specs.Spans.{IsWhole}
use Rattle.build_base.specs.declared.row.Row.{Row}
use Rattle.build_base.specs.declared.row.Row.TheVariants.{One, Counted, Pair, Cell, Range, RangeValue, Edge}
use Rattle.build_base.specs.declared.part.Part.{Part}
use Rattle.build_base.specs.declared.part.Part.TheVariants.{First, Second, Both}

-- the element, key or row of a table; 0 stands for that of a range, which has none
abbrev pub first_of : Row → Elem
first_of (One x) = x
first_of (Counted x n) = x
first_of (Pair k v) = k
first_of (Cell r c v) = r
first_of (Edge a b v) = a
first_of (Range s) = Int (pos 0)
first_of (RangeValue s v) = Int (pos 0)

-- the value or column; 0 stands for that of a row which has none
abbrev pub second_of : Row → Elem
second_of (Pair k v) = v
second_of (Cell r c v) = c
second_of (Edge a b v) = b
second_of (One x) = Int (pos 0)
second_of (Counted x n) = Int (pos 0)
second_of (Range s) = Int (pos 0)
second_of (RangeValue s v) = Int (pos 0)

-- the elements of a row in one part of it or in both
abbrev pub key_of : Part → Row → Elem × Elem
key_of First row = (first_of row, first_of row)
key_of Second row = (second_of row, second_of row)
key_of Both row = (first_of row, second_of row)

abbrev pub same_key : Elem × Elem → Elem × Elem → Bool
same_key a b = same a.0 b.0 && same a.1 b.1

-- two rows have the same elements in a part
abbrev pub alike : Part → Row → Row → Bool
alike part a b = same_key (key_of part a) (key_of part b)

-- a row is one that a builder of this kind takes, and a range in it is one of whole numbers
abbrev pub Fits : BuildKind → Row → Type 0
Fits kind.List (One x) = ⊤
Fits kind.Set (One x) = ⊤
Fits kind.Multiset (Counted x n) = ⊤
Fits kind.Map (Pair k v) = ⊤
Fits kind.BiMap (Pair k v) = ⊤
Fits kind.ListMultimap (Pair k v) = ⊤
Fits kind.SetMultimap (Pair k v) = ⊤
Fits kind.Table (Cell r c v) = ⊤
Fits kind.RangeSet (Range s) = IsWhole s
Fits kind.RangeMap (RangeValue s v) = IsWhole s
Fits k row = ⊥
