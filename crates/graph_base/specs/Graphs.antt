-- A graph as its nodes and edges in order.
use Rattle.std.specs.Prelude.{◌≡◌, ℕ, ◌+◌, ◌≤◌, Bool, true, false, not, List, [], length}
use Rattle.std.specs.List.{filter, IsDistinct, AllByRecursion}
use Rattle.elem.specs.declared.elements.Elem.{Elem}
use Rattle.elem.specs.Elements.{same}
use Rattle.mm_base.specs.KeyedRows.{contains}
use Rattle.graph_base.specs.Edges.{Edge, joining}

-- the nodes, the edges, whether edges have directions, and whether an edge may end where it begins
pub record Graph : Type 0 where
  pub nodes : List Elem
  pub edges : List Edge
  pub directed : Bool
  pub loops : Bool

-- a graph with nothing in it
abbrev pub empty : Bool → Bool → Graph
empty directed loops = record { nodes = []; edges = []; directed = directed; loops = loops }

-- nodes and edges together
abbrev pub size : Graph → ℕ
size g = length g.nodes + length g.edges

-- the nodes without one
abbrev pub without_node : Elem → List Elem → List Elem
without_node a nodes = filter (λ x. not (same a x)) nodes

-- both ends are nodes
abbrev pub HasEnds : List Elem → Edge → Type 0
HasEnds nodes e = (contains e.0 nodes ≡ true) × (contains e.1 nodes ≡ true)

-- no two edges join the same nodes
abbrev pub AreApart : Bool → List Edge → Type 0
AreApart directed edges = (a b : Elem) → length (joining directed a b edges) ≤ 1

-- no edge is a loop
abbrev pub HasNoLoop : List Edge → Type 0
HasNoLoop edges = AllByRecursion (λ (e : Edge). same e.0 e.1 ≡ false) edges

-- Nodes are distinct, ends of edges are nodes, edges are distinct, and loops stand only where they are allowed.
pub record IsValid (g : Graph) : Type 0 where
  pub distinct : IsDistinct same g.nodes
  pub ends : AllByRecursion (HasEnds g.nodes) g.edges
  pub apart : AreApart g.directed g.edges
  pub no_loops : g.loops ≡ false → HasNoLoop g.edges
