-- The sides of a node.
use Rattle.network_base.specs.declared.sides.Side.{Side}
use Rattle.network_base.specs.declared.sides.Side.TheVariants.{At, Into, Out}
use Rattle.graph_base.specs.declared.ways.Way.{Way}
use Rattle.graph_base.specs.declared.ways.Way.TheVariants as way

-- a side as a way of a graph's edges
abbrev pub way_of : Side → Way
way_of At = way.Both
way_of Into = way.Into
way_of Out = way.Out
