-- A graph to walk through, and the next nodes of a node.
use Rattle.std.specs.Prelude.{◌≡◌, Bool, true, not, ◌&&◌, ◌||◌, cond, List, Option, Some, None}
use Rattle.std.specs.List.{filter_map, list_any, AllByRecursion, IsDistinct}
use Rattle.elem.specs.declared.elements.Elem.{Elem}
use Rattle.elem.specs.Elements.{same}

-- an edge by its ends: from, to
abbrev pub Link : Type 0
Link = Elem × Elem

-- the nodes, the edges, and whether edges go one way alone
pub record Graph : Type 0 where
  pub nodes : List Elem
  pub edges : List Link
  pub directed : Bool

-- whether an element is in the list
abbrev pub is_in : Elem → List Elem → Bool
is_in x xs = list_any (same x) xs

-- where an edge leads from a node, if it may be walked from there
abbrev pub end_from : Bool → Elem → Link → Option Elem
end_from directed a e = cond (same a e.0) (Some e.1) (cond (not directed && same a e.1) (Some e.0) None)

-- the next nodes of a node: where the edges lead from it, in their order
abbrev pub nexts : Graph → Elem → List Elem
nexts g a = filter_map (end_from g.directed a) g.edges

-- whether two edges join the same nodes: either way round where edges have no directions
abbrev pub same_link : Bool → Link → Link → Bool
same_link directed e f = (same e.0 f.0 && same e.1 f.1) || (not directed && (same e.0 f.1 && same e.1 f.0))

-- both ends are nodes
abbrev pub HasEnds : List Elem → Link → Type 0
HasEnds nodes e = (is_in e.0 nodes ≡ true) × (is_in e.1 nodes ≡ true)

-- Nodes are distinct, ends of edges are nodes, and edges are distinct.
pub record IsValid (g : Graph) : Type 0 where
  pub nodes : IsDistinct same g.nodes
  pub ends : AllByRecursion (HasEnds g.nodes) g.edges
  pub edges : IsDistinct (same_link g.directed) g.edges
