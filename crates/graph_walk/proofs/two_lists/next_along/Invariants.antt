use Rattle.std.proofs.Common.{◌≡◌, drop}
use Rattle.std.specs.List.{filter_map}
use Rattle.graph_walk.specs.Graphs.{end_from}
use Rattle.graph_walk.specs.Places.{next_behind}
use Rattle.graph_walk.proofs.two_lists.next_along.Given as goal

abbrev pub invariant-loop-e : goal.invariant-loop-e
invariant-loop-e l = next_behind l.behind (filter_map (end_from l.directed l.a) (drop l.e-index l.edges)) ≡ next_behind l.fn.behind (filter_map (end_from l.directed l.a) l.edges)
