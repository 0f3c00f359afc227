-- The transitive closure of a graph.
use Rattle.std.specs.Prelude.{◌≡◌, ◌↔◌, ℕ, ◌+◌, Bool, true, ◌&&◌, ◌||◌, List, map, length, nat_le}
use Rattle.std.specs.List.{filter, flat_map}
use Rattle.elem.specs.declared.elements.Elem.{Elem}
use Rattle.graph_walk.specs.Graphs.{Graph, Link, is_in, nexts}
use Rattle.graph_walk.specs.Places.{place}
use Rattle.graph_walk.specs.Paths.{IsReached}

-- nodes, and pairs of nodes
pub record Pairs : Type 0 where
  pub nodes : List Elem
  pub edges : List Link

-- nodes and edges together
abbrev pub size : Pairs → ℕ
size c = length c.nodes + length c.edges

-- whether an edge from a to b may stand: without directions only where b stands at or after a
abbrev pub may_stand : Bool → List Elem → Elem → Elem → Bool
may_stand directed nodes a b = directed || nat_le (place a nodes) (place b nodes)

-- the edges from a node, in the order of their other ends, where `leads` tells to which nodes it leads
abbrev pub edges_from : Graph → (Elem → Elem → Bool) → Elem → List Link
edges_from g leads a = map (λ b. (a, b)) (filter (λ b. may_stand g.directed g.nodes a b && leads a b) g.nodes)

-- the edges from each node, in the order of the nodes
abbrev pub closure_edges : Graph → (Elem → Elem → Bool) → List Link
closure_edges g leads = flat_map (edges_from g leads) g.nodes

-- whether a path leads from a node to another
abbrev pub Tells : Graph → (Elem → Elem → Bool) → Type 0
Tells g leads = (a b : Elem) → is_in a g.nodes ≡ true → (leads a b ≡ true) ↔ IsReached (nexts g) a b

-- The nodes of the graph, with an edge from a to b exactly where a path leads from a to b, the one of no edge included.
pub record IsClosure (g : Graph) (c : Pairs) : Type 0 where
  pub leads : Elem → Elem → Bool
  pub exact : Tells g leads
  pub nodes : c.nodes ≡ g.nodes
  pub edges : c.edges ≡ closure_edges g leads
