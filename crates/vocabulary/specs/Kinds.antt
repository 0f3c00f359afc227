-- The kinds of base: their names, their shapes and their orders.
use Rattle.std.specs.Prelude.{ℕ, Bool, true, false, nat_eq, List, [], ◌∷◌, Option, None, Some, if◌then◌else◌, codes}
use Rattle.std.specs.Cmp.Lexicographic.{pointwise}
use Rattle.elem.specs.declared.build_kinds.BuildKind.TheVariants as build
use Rattle.vocabulary.specs.declared.kinds.Kind.{Kind}
use Rattle.vocabulary.specs.declared.kinds.Kind.TheVariants.{ArrayList, LinkedHashSet, TreeSet, TreeSetReverse, TreeSetLength, LinkedHashMap, TreeMap, TreeMapReverse, TreeMapLength, LinkedHashMultiset, TreeMultiset, TreeMultisetReverse, TreeMultisetLength, LinkedListMultimap, LinkedArrayListMultimap, LinkedHashMultimap, TreeMultimap, HashBiMap, LinkedTable, TreeBasedTable, TreeRangeSet, TreeRangeMap, ValueGraph, Builder, Rows}
use Rattle.vocabulary.specs.declared.orders.Order.{Order}
use Rattle.vocabulary.specs.declared.orders.Order.TheVariants as order
use Rattle.vocabulary.specs.declared.shapes.Shape.{Shape}
use Rattle.vocabulary.specs.declared.shapes.Shape.TheVariants as shape
use Rattle.vocabulary.specs.declared.shapes.ValueShape.TheVariants as values

-- the kind in the first row with this word
unfoldable pub chosen : List ℕ → List (List ℕ × Kind) → Option Kind
chosen word [] = None
chosen word (row ∷ rows) = if pointwise nat_eq row.0 word then Some row.1 else chosen word rows

-- the kinds by the words that stand behind `new`
abbrev pub kind_names : List (List ℕ × Kind)
kind_names =
    (codes "ArrayList", ArrayList) ∷
    (codes "LinkedHashSet", LinkedHashSet) ∷
    (codes "TreeSet", TreeSet) ∷
    (codes "TreeSetReverse", TreeSetReverse) ∷
    (codes "TreeSetLength", TreeSetLength) ∷
    (codes "LinkedHashMap", LinkedHashMap) ∷
    (codes "TreeMap", TreeMap) ∷
    (codes "TreeMapReverse", TreeMapReverse) ∷
    (codes "TreeMapLength", TreeMapLength) ∷
    (codes "LinkedHashMultiset", LinkedHashMultiset) ∷
    (codes "TreeMultiset", TreeMultiset) ∷
    (codes "TreeMultisetReverse", TreeMultisetReverse) ∷
    (codes "TreeMultisetLength", TreeMultisetLength) ∷
    (codes "LinkedListMultimap", LinkedListMultimap) ∷
    (codes "LinkedArrayListMultimap", LinkedArrayListMultimap) ∷
    (codes "LinkedHashMultimap", LinkedHashMultimap) ∷
    (codes "TreeMultimap", TreeMultimap) ∷
    (codes "HashBiMap", HashBiMap) ∷
    (codes "LinkedTable", LinkedTable) ∷
    (codes "TreeBasedTable", TreeBasedTable) ∷
    (codes "TreeRangeSet", TreeRangeSet) ∷
    (codes "TreeRangeMap", TreeRangeMap) ∷
    (codes "DirectedValueGraph", ValueGraph true false) ∷
    (codes "UndirectedValueGraph", ValueGraph false false) ∷
    (codes "DirectedValueGraphLoops", ValueGraph true true) ∷
    (codes "UndirectedValueGraphLoops", ValueGraph false true) ∷
    (codes "ImmutableListBuilder", Builder build.List) ∷
    (codes "ImmutableSetBuilder", Builder build.Set) ∷
    (codes "ImmutableMultisetBuilder", Builder build.Multiset) ∷
    (codes "ImmutableMapBuilder", Builder build.Map) ∷
    (codes "ImmutableBiMapBuilder", Builder build.BiMap) ∷
    (codes "ImmutableListMultimapBuilder", Builder build.ListMultimap) ∷
    (codes "ImmutableSetMultimapBuilder", Builder build.SetMultimap) ∷
    (codes "ImmutableTableBuilder", Builder build.Table) ∷
    (codes "ImmutableRangeSetBuilder", Builder build.RangeSet) ∷
    (codes "ImmutableRangeMapBuilder", Builder build.RangeMap) ∷
    []

-- the kind that a word names
abbrev pub kind_named : List ℕ → Option Kind
kind_named word = chosen word kind_names

-- the shape of a base of a kind
abbrev pub shape_of_kind : Kind → Shape
shape_of_kind ArrayList = shape.List
shape_of_kind LinkedHashSet = shape.Set false
shape_of_kind TreeSet = shape.Set true
shape_of_kind TreeSetReverse = shape.Set true
shape_of_kind TreeSetLength = shape.Set true
shape_of_kind LinkedHashMap = shape.Map false
shape_of_kind TreeMap = shape.Map true
shape_of_kind TreeMapReverse = shape.Map true
shape_of_kind TreeMapLength = shape.Map true
shape_of_kind LinkedHashMultiset = shape.Bag false
shape_of_kind TreeMultiset = shape.Bag true
shape_of_kind TreeMultisetReverse = shape.Bag true
shape_of_kind TreeMultisetLength = shape.Bag true
shape_of_kind LinkedListMultimap = shape.Multimap values.List false
shape_of_kind LinkedArrayListMultimap = shape.Multimap values.List false
shape_of_kind LinkedHashMultimap = shape.Multimap values.Set false
shape_of_kind TreeMultimap = shape.Multimap values.SortedSet true
shape_of_kind HashBiMap = shape.BiMap
shape_of_kind LinkedTable = shape.Table false false
shape_of_kind TreeBasedTable = shape.Table false true
shape_of_kind TreeRangeSet = shape.RangeSet
shape_of_kind TreeRangeMap = shape.RangeMap
shape_of_kind (ValueGraph directed loops) = shape.Graph directed
shape_of_kind (Builder kind) = shape.Builder kind
shape_of_kind (Rows sort) = shape.Rows sort

-- the order of a base of a kind, in which the rows of a sorted kind stand
abbrev pub order_of_kind : Kind → Order
order_of_kind TreeSetReverse = order.Reverse
order_of_kind TreeSetLength = order.ByLength
order_of_kind TreeMapReverse = order.Reverse
order_of_kind TreeMapLength = order.ByLength
order_of_kind TreeMultisetReverse = order.Reverse
order_of_kind TreeMultisetLength = order.ByLength
order_of_kind kind = order.Natural

-- whether the rows of a kind that is not sorted stand together by their keys
abbrev pub groups_rows : Kind → Bool
groups_rows LinkedHashMultiset = true
groups_rows LinkedArrayListMultimap = true
groups_rows LinkedTable = true
groups_rows kind = false

-- whether a base of a kind keeps an order of its keys beside its rows
abbrev pub keeps_keys : Kind → Bool
keeps_keys LinkedHashMultimap = true
keeps_keys kind = false
