use Rattle.std.proofs.Common.{ap, arith}
use Rattle.std.specs.HashMap as hash
use Rattle.elem.specs.Elements.{same}
use Rattle.linked_base.specs.declared.group.Group.{Group}
use Rattle.mm_base.specs.PairNodes.{with_group}
use Rattle.mm_base.proofs.HeldPairs.{held, still_holds, shows, node_held, group_held, unlinked_held}
use Rattle.mm_base.proofs.free_flat_pairs.FreeFlatPairs.remove_at.Goals as goal

pub index-requires : goal.index-requires
index-requires c =
    let find = hash.get same c.self.inside.groups in
    let h = held find c.self.invariant c.self.view_is in
    let q = c.args.place in
    let s = c.requires in
    node_held find h q s

pub unlink_pair-requires-clause-counted : goal.unlink_pair-requires-clause-counted
unlink_pair-requires-clause-counted c =
    let find = hash.get same c.self.inside.groups in
    let h = held find c.self.invariant c.self.view_is in
    let q = c.args.place in
    let s = c.requires in
    let count = ap (λ (g : Group). g.count) c.group_of-group.ensures in
    let some = (group_held find h q s c.index.result.now c.index.ensures).1 in
    omega arith

pub keep_group-requires : goal.keep_group-requires
keep_group-requires c =
    let find = hash.get same c.self.inside.groups in
    let h = held find c.self.invariant c.self.view_is in
    let q = c.args.place in
    let s = c.requires in
    (group_held find h q s c.index.result.now c.index.ensures).0

pub invariant_of-self : goal.invariant_of-self
invariant_of-self c =
    let find = hash.get same c.self.inside.groups in
    let h = held find c.self.invariant c.self.view_is in
    let q = c.args.place in
    let s = c.requires in
    let k = c.index.result.now.key in
    let after = unlinked_held find h q s c.index.result.now c.index.ensures c.unlink_pair.new.nodes c.unlink_pair.new.all c.group_of-group.result c.unlink_pair.new.group c.group_of-group.ensures c.unlink_pair.ensures.pairs c.unlink_pair.ensures.rows in
    still_holds (with_group k c.unlink_pair.new.group find) after (hash.get same c.keep_group.new.groups) c.keep_group.ensures

pub returns : goal.returns
returns c =
    let find = hash.get same c.self.inside.groups in
    let h = held find c.self.invariant c.self.view_is in
    let q = c.args.place in
    let s = c.requires in
    let k = c.index.result.now.key in
    let after = unlinked_held find h q s c.index.result.now c.index.ensures c.unlink_pair.new.nodes c.unlink_pair.new.all c.group_of-group.result c.unlink_pair.new.group c.group_of-group.ensures c.unlink_pair.ensures.pairs c.unlink_pair.ensures.rows in
    shows (with_group k c.unlink_pair.new.group find) after
