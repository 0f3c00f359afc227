-- A network is a graph whose edges are elements of their own: the value of an edge is its element, which no other edge
-- has, and any number of edges join the same nodes.
use Rattle.std.specs.Prelude.{◌≡◌, Bool, false, not, cond, List, [], ◌∷◌, ◌++◌, map, Option, Some, None, is_some}
use Rattle.std.specs.List.{filter, IsDistinct, AllByRecursion}
use Rattle.elem.specs.declared.elements.Elem.{Elem}
use Rattle.elem.specs.Elements.{same}
use Rattle.mm_base.specs.KeyedRows.{with_key}
use Rattle.graph_base.specs.Edges.{Edge, joins}
use Rattle.graph_base.specs.Graphs.{Graph, HasEnds, HasNoLoop}

-- the edges' elements
abbrev pub names : List Edge → List Elem
names edges = map (λ (e : Edge). e.2) edges

-- the ends of an edge
abbrev pub ends_of : Elem → List Edge → Option (Elem × Elem)
ends_of x [] = None
ends_of x (e ∷ edges) = cond (same x e.2) (Some (e.0, e.1)) (ends_of x edges)

-- the edges without one
abbrev pub without_edge : Elem → List Edge → List Edge
without_edge x edges = filter (λ (e : Edge). not (same x e.2)) edges

-- the network where an edge joins two nodes: what is new goes last, and the first end before the second
abbrev pub with_edge : Elem → Elem → Elem → Graph → Graph
with_edge a b x g = cond (is_some (ends_of x g.edges)) g (record g { nodes = with_key b (with_key a g.nodes); edges = g.edges ++ (a, b, x) ∷ [] })

-- whether ends are there, and are other nodes; without directions either way round is the same
abbrev pub are_others : Bool → Elem → Elem → Elem → Option (Elem × Elem) → Bool
are_others directed a b x None = false
are_others directed a b x (Some ends) = not (joins directed a b (ends.0, ends.1, x))

-- whether the edge is there with other ends
abbrev pub has_other_ends : Elem → Elem → Elem → Graph → Bool
has_other_ends a b x g = are_others g.directed a b x (ends_of x g.edges)

-- Nodes and edges are distinct, ends of edges are nodes, and loops stand only where they are allowed.
pub record IsNetwork (g : Graph) : Type 0 where
  pub distinct_nodes : IsDistinct same g.nodes
  pub distinct_edges : IsDistinct same (names g.edges)
  pub ends : AllByRecursion (HasEnds g.nodes) g.edges
  pub no_loops : g.loops ≡ false → HasNoLoop g.edges
