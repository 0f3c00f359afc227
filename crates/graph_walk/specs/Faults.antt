-- When a walk is refused.
use Rattle.std.specs.Prelude.{◌≡◌, Bool, false}
use Rattle.graph_walk.specs.declared.faults.WalkFault.{WalkFault}
use Rattle.graph_walk.specs.declared.faults.WalkFault.TheVariants.{NoNode, NoMemory}

-- A walk is refused where it is to begin at no node, or memory is wanting.
abbrev pub RefusesWalk : Bool → WalkFault → Type 0
RefusesWalk is_node NoNode = is_node ≡ false
RefusesWalk is_node NoMemory = Unit {0}
