-- The next nodes of a node, and what stands behind an element of a list.
use Rattle.std.specs.Prelude.{Bool, not, ◌&&◌, cond, List, [], ◌∷◌, Option, Some, None, slice_get}
use Rattle.std.specs.List.{filter_map}
use Rattle.elem.specs.declared.elements.Elem.{Elem}
use Rattle.elem.specs.Elements.{same}
use Rattle.graph_base.specs.Edges.{Edge}

-- Where an edge leads from a node, if it may be walked from there: its own way, turned the other way, or without directions
-- either way.
abbrev pub end_from : Bool → Bool → Elem → Edge → Option Elem
end_from directed turned a e = cond (directed && turned) (cond (same a e.1) (Some e.0) None) (cond (same a e.0) (Some e.1) (cond (not directed && same a e.1) (Some e.0) None))

-- where an edge begins and ends that leads from a node to another
abbrev pub from_of : Bool → Bool → Elem → Elem → Elem
from_of directed turned a b = cond (directed && turned) b a

abbrev pub to_of : Bool → Bool → Elem → Elem → Elem
to_of directed turned a b = cond (directed && turned) a b

-- where the edges lead from a node, in their order
abbrev pub nexts : Bool → Bool → Elem → List Edge → List Elem
nexts directed turned a edges = filter_map (end_from directed turned a) edges

-- the element behind another
abbrev pub behind : Elem → List Elem → Option Elem
behind a [] = None
behind a (x ∷ xs) = cond (same a x) (slice_get xs 0) (behind a xs)
