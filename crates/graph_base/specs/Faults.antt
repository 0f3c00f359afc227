-- When a call of a graph is refused.
use Rattle.std.specs.Prelude.{◌≡◌, Bool, false}
use Rattle.elem.specs.declared.elements.Elem.{Elem}
use Rattle.graph_base.specs.declared.faults.GraphFault.{GraphFault}
use Rattle.graph_base.specs.declared.faults.GraphFault.TheVariants.{Loop, NoNode, NoMemory}

-- A put is refused where the edge is a loop and no loops are allowed, or memory is wanting, and never for a missing node.
abbrev pub RefusesPut : Bool → Elem → Elem → GraphFault → Type 0
RefusesPut loops a b Loop = (a ≡ b) × (loops ≡ false)
RefusesPut loops a b NoNode = ⊥
RefusesPut loops a b NoMemory = Unit {0}
