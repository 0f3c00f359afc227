-- A value graph as a graph to walk through.
use Rattle.std.specs.Prelude.{Bool, ◌&&◌, cond, map}
use Rattle.graph_base.specs.Edges.{Edge}
use Rattle.graph_base.specs.Graphs.{Graph as ValueGraph}
use Rattle.graph_walk.specs.Graphs.{Graph, Link}

-- the ends of an edge, turned or not
abbrev pub link_of : Bool → Edge → Link
link_of turned e = cond turned (e.1, e.0) (e.0, e.1)

-- the nodes and the edges in their order, the edges turned where they have directions
abbrev pub turned_graph : Bool → ValueGraph → Graph
turned_graph turned g = record { nodes = g.nodes; edges = map (link_of (g.directed && turned)) g.edges; directed = g.directed }
