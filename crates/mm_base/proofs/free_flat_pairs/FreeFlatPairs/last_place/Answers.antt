use Rattle.std.specs.HashMap as hash
use Rattle.elem.specs.Elements.{same}
use Rattle.mm_base.proofs.HeldPairs.{held, distinct_held, last_held}
use Rattle.mm_base.proofs.free_flat_pairs.FreeFlatPairs.last_place.Goals as goal

pub returns-clause-place : goal.returns-clause-place
returns-clause-place c = let find = hash.get same c.self.inside.groups in last_held find (held find c.self.invariant c.self.view_is)

pub returns-clause-distinct : goal.returns-clause-distinct
returns-clause-distinct c = let find = hash.get same c.self.inside.groups in distinct_held find (held find c.self.invariant c.self.view_is)
