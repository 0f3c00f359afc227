-- A graph as rows: each node, and then each edge with its ends and its value; and what stands near a node.
use Rattle.std.specs.Prelude.{Bool, true, false, not, ◌&&◌, ◌||◌, if◌then◌else◌, List, [], ◌∷◌, filter, map}
use Rattle.std.specs.List.{list_any}
use Rattle.elem.specs.declared.elements.Elem.{Elem}
use Rattle.elem.specs.Elements.{same}
use Rattle.vocabulary.specs.declared.items.Item.{Item}
use Rattle.vocabulary.specs.declared.items.Item.TheVariants.{One, Pair, Edge}
use Rattle.vocabulary.specs.declared.leaves.Near.{Near}
use Rattle.vocabulary.specs.declared.leaves.Near.TheVariants.{Successors, Predecessors, Incident}
use Rattle.vocabulary.specs.Items.{same_item}

abbrev pub is_node : Item → Bool
is_node (One a) = true
is_node other = false

abbrev pub is_edge : Item → Bool
is_edge (Edge a b v) = true
is_edge other = false

abbrev pub is_node_of : Elem → Item → Bool
is_node_of a (One x) = same a x
is_node_of a other = false

-- whether a node is among the rows
abbrev pub has_node : Elem → List Item → Bool
has_node a rows = list_any (is_node_of a) rows

-- whether a pair of nodes is these two, in an undirected graph either way round
abbrev pub same_ends : Bool → Elem → Elem → Elem → Elem → Bool
same_ends directed a b x y = (same a x && same b y) || (not directed && (same b x && same a y))

-- whether a row is the edge between two nodes
abbrev pub joins : Bool → Elem → Elem → Item → Bool
joins directed a b (Edge x y v) = same_ends directed a b x y
joins directed a b other = false

-- whether a row is a node, or an edge at it
abbrev pub goes_with : Elem → Item → Bool
goes_with a (One x) = same a x
goes_with a (Edge x y v) = same a x || same a y
goes_with a other = false

-- ---- views

-- the two ends of an edge
abbrev pub end_pair : Item → Item
end_pair (Edge a b v) = Pair a b
end_pair other = other

-- an edge with its direction reversed
abbrev pub transposed : Item → Item
transposed (Edge a b v) = Edge b a v
transposed other = other

-- the edges that are asked for near a node: those from it, those to it, or those at it; without directions those at it
abbrev pub near_edge : Bool → Near → Elem → Item → Bool
near_edge true Successors a (Edge x y v) = same a x
near_edge true Predecessors a (Edge x y v) = same a y
near_edge directed word a (Edge x y v) = same a x || same a y
near_edge directed word a other = false

-- the other end of an edge at a node
abbrev pub other_end : Elem → Item → Item
other_end a (Edge x y v) = if same a x then One y else One x
other_end a other = other

-- of the items that are the same the first alone
abbrev pub once : List Item → List Item
once [] = []
once (x ∷ xs) = x ∷ filter (λ y. not (same_item x y)) (once xs)

-- what stands near a node: the edges as pairs, or the nodes at their other ends, each once
abbrev pub near_items : Bool → Near → Elem → List Item → List Item
near_items directed Incident a rows = map end_pair (filter (near_edge directed Incident a) rows)
near_items directed word a rows = once (map (other_end a) (filter (near_edge directed word a) rows))
