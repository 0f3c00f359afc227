-- Edges of a graph: each is its two ends and a value.
use Rattle.std.specs.Prelude.{Bool, not, ◌&&◌, ◌||◌, cond, List, [], ◌∷◌, Option, slice_get}
use Rattle.std.specs.Option.{option_map}
use Rattle.std.specs.List.{filter}
use Rattle.elem.specs.declared.elements.Elem.{Elem}
use Rattle.elem.specs.Elements.{same}

-- from, to, value
abbrev pub Edge : Type 0
Edge = Elem × Elem × Elem

-- whether the edge goes from a to b, or where there are no directions from b to a
abbrev pub joins : Bool → Elem → Elem → Edge → Bool
joins directed a b e = (same a e.0 && same b e.1) || (not directed && (same b e.0 && same a e.1))

-- the edges between two nodes
abbrev pub joining : Bool → Elem → Elem → List Edge → List Edge
joining directed a b edges = filter (joins directed a b) edges

-- the edge between two nodes
abbrev pub edge_joining : Bool → Elem → Elem → List Edge → Option Edge
edge_joining directed a b edges = slice_get (joining directed a b edges) 0

-- its value
abbrev pub value_joining : Bool → Elem → Elem → List Edge → Option Elem
value_joining directed a b edges = option_map (λ (e : Edge). e.2) (edge_joining directed a b edges)

-- the edges where that between two nodes has the value, or a new one goes last
abbrev pub with_edge : Bool → Elem → Elem → Elem → List Edge → List Edge
with_edge directed a b v [] = (a, b, v) ∷ []
with_edge directed a b v (e ∷ edges) = cond (joins directed a b e) ((e.0, e.1, v) ∷ edges) (e ∷ with_edge directed a b v edges)

-- the edges without that between two nodes
abbrev pub without_edge : Bool → Elem → Elem → List Edge → List Edge
without_edge directed a b edges = filter (λ e. not (joins directed a b e)) edges

-- whether a node is an end of the edge
abbrev pub is_at : Elem → Edge → Bool
is_at a e = same a e.0 || same a e.1

-- the edges at a node
abbrev pub incident : Elem → List Edge → List Edge
incident a edges = filter (is_at a) edges

-- the edges that are not at a node
abbrev pub without_edges_at : Elem → List Edge → List Edge
without_edges_at a edges = filter (λ e. not (is_at a e)) edges
