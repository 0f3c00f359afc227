-- How many edges go from a node and to it.
use Rattle.std.specs.Prelude.{ℕ, ◌+◌, Bool, cond, List, length}
use Rattle.std.specs.List.{filter}
use Rattle.elem.specs.declared.elements.Elem.{Elem}
use Rattle.elem.specs.Elements.{same}
use Rattle.graph_base.specs.declared.ways.Way.{Way}
use Rattle.graph_base.specs.declared.ways.Way.TheVariants.{Both, Into, Out}
use Rattle.graph_base.specs.Edges.{Edge}

-- the edges from a node
abbrev pub out_of : Elem → List Edge → ℕ
out_of a edges = length (filter (λ (e : Edge). same a e.0) edges)

-- the edges to a node
abbrev pub into : Elem → List Edge → ℕ
into a edges = length (filter (λ (e : Edge). same a e.1) edges)

-- A node's degree by the numbers of edges from it and to it. A loop counts at both its ends. Without directions each edge
-- goes both ways.
abbrev pub degree_by : Bool → Way → ℕ → ℕ → ℕ
degree_by directed Both from to = from + to
degree_by directed Into from to = cond directed to (from + to)
degree_by directed Out from to = cond directed from (from + to)

abbrev pub degree_of : Bool → Way → Elem → List Edge → ℕ
degree_of directed way a edges = degree_by directed way (out_of a edges) (into a edges)
