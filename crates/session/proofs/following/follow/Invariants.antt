use Rattle.std.proofs.Common.{length}
use Rattle.session.specs.Following.{Followed, parts_in}
use Rattle.session.proofs.following.follow.Given as goal

abbrev pub invariant-loop-rest : goal.invariant-loop-rest
invariant-loop-rest l = Followed l.names.entries l.purpose l.fn.store l.store l.fn.head l.node (parts_in l.line l.parts) (parts_in l.line l.rest)

abbrev pub decreases-loop-rest : goal.decreases-loop-rest
decreases-loop-rest l = length l.rest
