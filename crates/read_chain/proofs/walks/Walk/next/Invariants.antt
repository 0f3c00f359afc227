use Rattle.std.proofs.Common.{◌≡◌, ◌+◌, ◌≤◌, drop, length}
use Rattle.read_chain.specs.Walks.{IsWalk, found_along, to_come}
use Rattle.read_chain.proofs.walks.Walk.next.Given as goal

abbrev pub invariant-loop-found : goal.invariant-loop-found
invariant-loop-found g l = record {
  walk : IsWalk l.store l.self;
  rest : to_come l.store l.self ≡ to_come l.store l.fn.self;
  steps : l.steps + l.fn.self.passed ≤ l.fn.steps + l.self.passed;
}

abbrev pub decreases-loop-found : goal.decreases-loop-found
decreases-loop-found g l = length (drop l.self.passed (found_along l.store l.self.node l.self.back))
