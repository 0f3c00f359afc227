use Rattle.std.proofs.Common.{◌≡◌, drop}
use Rattle.graph_walk.specs.Places.{next_behind}
use Rattle.graph_walk.proofs.two_lists.next_in.Given as goal

abbrev pub invariant-loop-x : goal.invariant-loop-x
invariant-loop-x l = next_behind l.behind (drop l.x-index l.xs) ≡ next_behind l.fn.behind l.xs
