use Rattle.std.proofs.Common.{◌∙◌}
use Rattle.std.specs.HashMap as hash
use Rattle.elem.specs.Elements.{same}
use Rattle.linked_base.specs.Group.{of_key}
use Rattle.mm_base.specs.PairNodes.{key_at}
use Rattle.mm_base.proofs.HeldPairs.{held, group_of_key, found_held}
use Rattle.mm_base.proofs.free_flat_pairs.FreeFlatPairs.find.Goals as goal

pub returns : goal.returns
returns c =
    let find = hash.get same c.self.inside.groups in
    let h = held find c.self.invariant c.self.view_is in
    c.find_value.ensures (of_key (key_at c.self.inside.nodes) c.args.k.now h.at_places) (group_of_key find h c.args.k.now c.group_of-group.result c.group_of-group.ensures) ∙ found_held find h c.args.k.now c.args.v.now
