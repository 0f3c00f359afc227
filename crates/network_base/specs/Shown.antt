-- What the sets that are read from a network show.
use Rattle.std.specs.Prelude.{Bool, true, false, not, cond, ◌&&◌, ◌||◌, List, [], ◌∷◌, map, slice_get, Option, Some, None, is_some}
use Rattle.std.specs.List.{filter}
use Rattle.elem.specs.declared.elements.Elem.{Elem}
use Rattle.elem.specs.Elements.{same}
use Rattle.mm_base.specs.KeyedRows.{contains}
use Rattle.graph_base.specs.Edges.{Edge, joins, edge_joining, is_at, incident}
use Rattle.graph_base.specs.Graphs.{Graph}
use Rattle.network_base.specs.declared.net_steps.NetStep.{NetStep}
use Rattle.network_base.specs.declared.net_steps.NetStep.TheVariants.{Nodes, Edges, AdjacentNodes, Predecessors, Successors, IncidentEdges, InEdges, OutEdges, EdgesConnecting, AdjacentEdges, GraphNodes, GraphEdges, GraphAdjacentNodes, GraphPredecessors, GraphSuccessors}
use Rattle.network_base.specs.declared.net_steps.NetItem.{NetItem}
use Rattle.network_base.specs.declared.net_steps.NetItem.TheVariants.{One, Pair}
use Rattle.network_base.specs.Networks.{ends_of}

-- whether the node and the edge that a set is named by are there
abbrev pub is_there : NetStep → Graph → Bool
is_there Nodes g = true
is_there Edges g = true
is_there (AdjacentNodes a) g = contains a g.nodes
is_there (Predecessors a) g = contains a g.nodes
is_there (Successors a) g = contains a g.nodes
is_there (IncidentEdges a) g = contains a g.nodes
is_there (InEdges a) g = contains a g.nodes
is_there (OutEdges a) g = contains a g.nodes
is_there (EdgesConnecting a b) g = contains a g.nodes && contains b g.nodes
is_there (AdjacentEdges x) g = is_some (ends_of x g.edges)
is_there GraphNodes g = true
is_there GraphEdges g = true
is_there (GraphAdjacentNodes a) g = contains a g.nodes
is_there (GraphPredecessors a) g = contains a g.nodes
is_there (GraphSuccessors a) g = contains a g.nodes

-- whether an edge enters a node; without directions each edge at it does
abbrev pub enters : Bool → Elem → Edge → Bool
enters directed a e = cond directed (same a e.1) (is_at a e)

-- whether an edge leaves a node; without directions each edge at it does
abbrev pub leaves : Bool → Elem → Edge → Bool
leaves directed a e = cond directed (same a e.0) (is_at a e)

-- whether an edge shares an end with ends that are there
abbrev pub shares_end : Option (Elem × Elem) → Edge → Bool
shares_end None e = false
shares_end (Some ends) e = is_at ends.0 e || is_at ends.1 e

-- whether an edge is the one that was found
abbrev pub is_found : Edge → Option Edge → Bool
is_found e None = false
is_found e (Some first) = same e.2 first.2

-- whether an edge is the first that joins its ends
abbrev pub is_first : Bool → List Edge → Edge → Bool
is_first directed edges e = is_found e (edge_joining directed e.0 e.1 edges)

-- Whether an edge shows an item in a set. A set of nodes has the other end of each edge that is the first to join it to the
-- node, and the edges of `asGraph` are the ends of each edge that is the first to join them.
abbrev pub passes : Bool → List Edge → NetStep → Edge → Bool
passes directed edges Nodes e = false
passes directed edges Edges e = true
passes directed edges (AdjacentNodes a) e = is_at a e && is_first false edges e
passes directed edges (Predecessors a) e = enters directed a e && is_first directed edges e
passes directed edges (Successors a) e = leaves directed a e && is_first directed edges e
passes directed edges (IncidentEdges a) e = is_at a e
passes directed edges (InEdges a) e = enters directed a e
passes directed edges (OutEdges a) e = leaves directed a e
passes directed edges (EdgesConnecting a b) e = joins directed a b e
passes directed edges (AdjacentEdges x) e = shares_end (ends_of x edges) e && not (same x e.2)
passes directed edges GraphNodes e = false
passes directed edges GraphEdges e = is_first directed edges e
passes directed edges (GraphAdjacentNodes a) e = is_at a e && is_first false edges e
passes directed edges (GraphPredecessors a) e = enters directed a e && is_first directed edges e
passes directed edges (GraphSuccessors a) e = leaves directed a e && is_first directed edges e

-- the end of an edge that is not a, or a where both are
abbrev pub other_end : Elem → Edge → Elem
other_end a e = cond (same a e.0) e.1 e.0

-- what an edge shows in a set
abbrev pub item : NetStep → Edge → NetItem
item Nodes e = One e.2
item Edges e = One e.2
item (AdjacentNodes a) e = One (other_end a e)
item (Predecessors a) e = One (other_end a e)
item (Successors a) e = One (other_end a e)
item (IncidentEdges a) e = One e.2
item (InEdges a) e = One e.2
item (OutEdges a) e = One e.2
item (EdgesConnecting a b) e = One e.2
item (AdjacentEdges x) e = One e.2
item GraphNodes e = One e.2
item GraphEdges e = Pair e.0 e.1
item (GraphAdjacentNodes a) e = One (other_end a e)
item (GraphPredecessors a) e = One (other_end a e)
item (GraphSuccessors a) e = One (other_end a e)

-- whether a set is that of all nodes
abbrev pub gives_nodes : NetStep → Bool
gives_nodes Nodes = true
gives_nodes GraphNodes = true
gives_nodes _ = false

-- what a set shows, in order
abbrev pub shown : NetStep → Graph → List NetItem
shown step g = cond (gives_nodes step) (map One g.nodes) (map (item step) (filter (passes g.directed g.edges step) g.edges))

-- the items of a set in order, each under the node or the edge that shows it
abbrev pub spots : NetStep → Graph → List (Elem × NetItem)
spots step g = cond (gives_nodes step) (map (λ a. (a, One a)) g.nodes) (map (λ (e : Edge). (e.2, item step e)) (filter (passes g.directed g.edges step) g.edges))

-- the row after that of a key
abbrev pub row_after : Elem → List (Elem × NetItem) → Option (Elem × NetItem)
row_after k [] = None
row_after k (row ∷ rows) = cond (same k row.0) (slice_get rows 0) (row_after k rows)

-- the edge after another
abbrev pub edge_after : Elem → List Edge → Option Edge
edge_after x [] = None
edge_after x (e ∷ edges) = cond (same x e.2) (slice_get edges 0) (edge_after x edges)

-- a node at which all edges are that a set is read from, where there is one
abbrev pub centre : NetStep → Option Elem
centre Nodes = None
centre Edges = None
centre (AdjacentNodes a) = Some a
centre (Predecessors a) = Some a
centre (Successors a) = Some a
centre (IncidentEdges a) = Some a
centre (InEdges a) = Some a
centre (OutEdges a) = Some a
centre (EdgesConnecting a b) = Some a
centre (AdjacentEdges x) = None
centre GraphNodes = None
centre GraphEdges = None
centre (GraphAdjacentNodes a) = Some a
centre (GraphPredecessors a) = Some a
centre (GraphSuccessors a) = Some a

-- all edges, or those at a node
abbrev pub around : Option Elem → List Edge → List Edge
around None edges = edges
around (Some a) edges = incident a edges
