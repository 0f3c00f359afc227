-- When a network takes no edge.
use Rattle.std.specs.Prelude.{◌≡◌, true, false, None}
use Rattle.elem.specs.declared.elements.Elem.{Elem}
use Rattle.graph_base.specs.Graphs.{Graph}
use Rattle.network_base.specs.declared.faults.NetFault.{NetFault}
use Rattle.network_base.specs.declared.faults.NetFault.TheVariants.{Taken, Loop, NoMemory}
use Rattle.network_base.specs.Networks.{ends_of, has_other_ends}

-- An edge is taken where it has other ends. A new one is refused where it is a loop and no loops are allowed, or memory is
-- wanting.
abbrev pub RefusesEdge : Graph → Elem → Elem → Elem → NetFault → Type 0
RefusesEdge g a b x Taken = has_other_ends a b x g ≡ true
RefusesEdge g a b x Loop = (ends_of x g.edges ≡ None) × (a ≡ b) × (g.loops ≡ false)
RefusesEdge g a b x NoMemory = ends_of x g.edges ≡ None
