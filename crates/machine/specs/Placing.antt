-- Where a row goes that comes to a base, and which rows a base does not take.
use Rattle.vocabulary.specs.declared.items.Item.TheVariants.{One, Edge}
use Rattle.vocabulary.specs.declared.kinds.Kind.TheVariants.{ValueGraph, Builder}
use Rattle.std.specs.Prelude.{ℕ, ◌+◌, Bool, true, not, ◌&&◌, ◌||◌, nat_lt, if◌then◌else◌, List, [], ◌∷◌, length, map, filter, insert, slice_set, slice_get, Option, None, Some, false}
use Rattle.std.specs.List.{list_any}
use Rattle.elem.specs.declared.elements.Elem.{Elem}
use Rattle.elem.specs.Elements.{same}
use Rattle.vocabulary.specs.declared.edits.Spot.{Spot}
use Rattle.vocabulary.specs.declared.edits.Spot.TheVariants.{Own, Swapped, Before, Instead, InKey}
use Rattle.vocabulary.specs.declared.items.Item.{Item}
use Rattle.vocabulary.specs.declared.kinds.Kind.{Kind}
use Rattle.vocabulary.specs.declared.shapes.Shape.{Shape}
use Rattle.vocabulary.specs.declared.shapes.Shape.TheVariants as shape
use Rattle.vocabulary.specs.declared.shapes.ValueShape.TheVariants as values
use Rattle.machine.specs.Builders.{refuses_item}
use Rattle.machine.specs.Graphs.{is_edge, is_node, is_node_of, joins}
use Rattle.vocabulary.specs.Items.{key_of, same_item, second_of, swapped, value_of}
use Rattle.vocabulary.specs.Kinds.{groups_rows, order_of_kind, shape_of_kind}
use Rattle.vocabulary.specs.Limits.{most_count}
use Rattle.vocabulary.specs.Orders.{before}
use Rattle.vocabulary.specs.Shapes.{is_keyed, is_sorted}

-- whether a new row of a base of a shape takes the place of an old one: in a set, a map or a bimap that of the same
-- key, in a multimap with sets of values that of the same pair, in a table that of the same row and column
abbrev pub takes_place : Shape → Item → Item → Bool
takes_place (shape.Multimap values.Set sorted) new old = same_item new old
takes_place (shape.Multimap values.SortedSet sorted) new old = same_item new old
takes_place (shape.Table mirrored sorted) new old = same (key_of new) (key_of old) && same (second_of new) (second_of old)
takes_place of new old = is_keyed of && same (key_of new) (key_of old)

-- in a graph a node takes the place of itself, and an edge that of the edge between the same nodes
abbrev pub takes_place_in_graph : Bool → Item → Item → Bool
takes_place_in_graph directed (One a) old = is_node_of a old
takes_place_in_graph directed (Edge a b v) old = joins directed a b old
takes_place_in_graph directed other old = false

abbrev pub replaces : Kind → Item → Item → Bool
replaces (ValueGraph directed loops) new old = takes_place_in_graph directed new old
replaces kind new old = takes_place (shape_of_kind kind) new old

-- what stands there then: the new row, and an edge with the ends that it had
abbrev pub settled : Item → Item → Item
settled (Edge a b v) (Edge x y w) = Edge x y v
settled new old = new

-- whether a new row of a kind stands before an old one: in a sorted kind, by their keys, and then by what tells rows of
-- one key apart; in a graph each node before each edge
abbrev pub precedes : Kind → Item → Item → Bool
precedes (ValueGraph directed loops) new old = is_node new && is_edge old
precedes kind new old =
    let order = order_of_kind kind in
    is_sorted (shape_of_kind kind) && (before order (key_of new) (key_of old) || (same (key_of new) (key_of old) && before order (second_of new) (second_of old)))

-- whether a new row of a kind stands right behind an old one, which others follow: where rows stand together by their
-- keys, behind the last of its key
abbrev pub follows : Kind → Item → Item → List Item → Bool
follows kind new old others = groups_rows kind && same (key_of new) (key_of old) && not (list_any (λ other. same (key_of new) (key_of other)) others)

-- the rows after a row came: in the place of the one that it replaces, else before the first that it precedes, else
-- behind the one that it follows, else last
abbrev pub placed : Kind → List Item → Item → List Item
placed kind [] new = new ∷ []
placed kind (row ∷ rows) new =
    if replaces kind new row then settled new row ∷ rows else if precedes kind new row then new ∷ row ∷ rows else if follows kind new row rows then row ∷ new ∷ rows else row ∷ placed kind rows new

-- the numbers of the rows of a key, where the first row has the number n
abbrev pub numbers_of : Elem → ℕ → List Item → List ℕ
numbers_of k n [] = []
numbers_of k n (row ∷ rows) = if same k (key_of row) then n ∷ numbers_of k (n + 1) rows else numbers_of k (n + 1) rows

abbrev pub placed_before : Kind → List Item → Item → Option ℕ → List Item
placed_before kind rows new None = placed kind rows new
placed_before kind rows new (Some n) = insert rows n new

-- the rows after a row came to a spot; that of a pair whose value tells its place is found among the pairs turned round
abbrev pub placed_at : Kind → Spot → List Item → Item → List Item
placed_at kind Own rows new = placed kind rows new
placed_at kind Swapped rows new = map swapped (placed kind (map swapped rows) (swapped new))
placed_at kind (Before i) rows new = insert rows i new
placed_at kind (Instead i) rows new = slice_set rows i new
placed_at kind (InKey i) rows new = placed_before kind rows new (slice_get (numbers_of (key_of new) 0 rows) i)

-- ---- what a base refuses

-- an old pair of a bimap that has the new one's partner, bound to another
abbrev pub has_partner : Item → Item → Bool
has_partner new old = same (value_of new) (value_of old) && not (same (key_of new) (key_of old))

abbrev pub has_partner_at : Spot → Item → Item → Bool
has_partner_at Swapped new old = has_partner (swapped new) (swapped old)
has_partner_at spot new old = has_partner new old

abbrev pub takes_row_of : Shape → Spot → List Item → Item → Bool
takes_row_of (shape.Bag sorted) spot rows new = nat_lt (length (filter (same_item new) rows)) most_count
takes_row_of shape.BiMap spot rows new = not (list_any (has_partner_at spot new) rows)
takes_row_of of spot rows new = true

-- a loop, which not every graph takes
abbrev pub is_loop : Item → Bool
is_loop (Edge a b v) = same a b
is_loop other = false

-- whether a base of a kind takes a row: a bag does not take an element too often, a bimap no pair whose partner is bound,
-- a graph no loop unless it allows them, and a builder not what it refuses at once
abbrev pub takes_row : Kind → Spot → List Item → Item → Bool
takes_row (ValueGraph directed loops) spot rows new = loops || not (is_loop new)
takes_row (Builder kind) spot rows new = not (refuses_item rows new)
takes_row kind spot rows new = takes_row_of (shape_of_kind kind) spot rows new
