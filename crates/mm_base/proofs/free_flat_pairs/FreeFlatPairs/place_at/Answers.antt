use Rattle.std.proofs.Common.{◌∙◌}
use Rattle.std.specs.HashMap as hash
use Rattle.elem.specs.Elements.{same}
use Rattle.linked_base.specs.Group.{of_key}
use Rattle.mm_base.specs.PairNodes.{key_at}
use Rattle.mm_base.proofs.HeldPairs.{held, distinct_held, group_thread, nth_held}
use Rattle.mm_base.proofs.free_flat_pairs.FreeFlatPairs.place_at.Goals as goal

pub returns-clause-place : goal.returns-clause-place
returns-clause-place c =
    let find = hash.get same c.self.inside.groups in
    let h = held find c.self.invariant c.self.view_is in
    c.nth.ensures (of_key (key_at c.self.inside.nodes) c.args.k.now h.at_places) (group_thread find h c.args.k.now c.group_of-group.result c.group_of-group.ensures) ∙ nth_held find h c.args.k.now c.args.i

pub returns-clause-distinct : goal.returns-clause-distinct
returns-clause-distinct c = let find = hash.get same c.self.inside.groups in distinct_held find (held find c.self.invariant c.self.view_is)
