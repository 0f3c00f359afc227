-- What the fields of a network hold.
use Rattle.std.specs.Prelude.{Bool, List}
use Rattle.std.specs.Map.{keys_of}
use Rattle.elem.specs.declared.elements.Elem.{Elem}
use Rattle.graph_base.specs.declared.degrees.Degrees.{Degrees}
use Rattle.graph_base.specs.Edges.{Edge}
use Rattle.graph_base.specs.Graphs.{Graph}

-- the network of these rows
abbrev pub network : List (Elem × Degrees) → List Edge → Bool → Bool → Graph
network nodes edges directed loops = record { nodes = keys_of nodes; edges = edges; directed = directed; loops = loops }
