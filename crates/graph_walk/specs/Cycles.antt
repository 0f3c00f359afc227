-- Cycles of a graph, by its paths.
use Rattle.std.specs.Prelude.{◌≡◌, ◌<◌, false, List, [], ◌∷◌, length}
use Rattle.std.specs.List.{IsDistinct}
use Rattle.elem.specs.declared.elements.Elem.{Elem}
use Rattle.graph_walk.specs.Graphs.{Graph, Link, nexts, same_link}
use Rattle.graph_walk.specs.Paths.{Leads}

-- the edges of a path from a node, in order
abbrev pub links : Elem → List Elem → List Link
links a [] = []
links a (c ∷ path) = (a, c) ∷ links c path

-- A path of at least one edge leads from a back to a. Where edges have no directions it uses none of them twice.
pub record IsCycle (g : Graph) (a : Elem) (path : List Elem) : Type 0 where
  pub some : 0 < length path
  pub leads : Leads (nexts g) a path a
  pub once : g.directed ≡ false → IsDistinct (same_link false) (links a path)

abbrev pub HasCycle : Graph → Type 0
HasCycle g = (a : Elem) × (path : List Elem) × IsCycle g a path
