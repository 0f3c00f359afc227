use Rattle.std.proofs.Common.{◌≡◌, ◌++◌, ◌&&◌, map, take}
use Rattle.std.specs.List.{filter}
use Rattle.graph_walk.specs.Closures.{may_stand}
use Rattle.graph_walk.specs.Graphs.{is_in}
use Rattle.graph_walk.proofs.closures.add_joined.Given as goal

abbrev pub invariant-loop-j : goal.invariant-loop-j
invariant-loop-j l = l.edges.items ≡ l.fn.edges.items ++ map (λ b. (l.a, b)) (filter (λ b. may_stand l.directed l.nodes l.a b && is_in b l.found) (take l.j l.nodes))
