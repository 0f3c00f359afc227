use Rattle.std.proofs.Common.{◌∙◌}
use Rattle.std.specs.HashMap as hash
use Rattle.elem.specs.Elements.{same}
use Rattle.mm_base.proofs.HeldPairs.{held, len_held, distinct_held}
use Rattle.mm_base.proofs.free_flat_pairs.FreeFlatPairs.len.Goals as goal

pub returns-clause-len : goal.returns-clause-len
returns-clause-len c = let find = hash.get same c.self.inside.groups in c.len.ensures ∙ len_held find (held find c.self.invariant c.self.view_is)

pub returns-clause-distinct : goal.returns-clause-distinct
returns-clause-distinct c = let find = hash.get same c.self.inside.groups in distinct_held find (held find c.self.invariant c.self.view_is)
