use Rattle.std.proofs.Common.{sym, ap, ◌∙◌, arith}
use Rattle.std.specs.HashMap as hash
use Rattle.elem.specs.Elements.{same}
use Rattle.linked_base.specs.declared.group.Group.{Group}
use Rattle.mm_base.specs.PairNodes.{with_group}
use Rattle.mm_base.proofs.HeldPairs.{held, still_holds, shows, node_held, group_held, count_fits, value_held}
use Rattle.mm_base.proofs.MovedPairs.{moved_held}
use Rattle.mm_base.proofs.MovingLemmas.{moved_is}
use Rattle.mm_base.proofs.free_flat_pairs.FreeFlatPairs.to_end.Goals as goal

pub index-requires : goal.index-requires
index-requires c =
    let find = hash.get same c.self.inside.groups in
    let h = held find c.self.invariant c.self.view_is in
    node_held find h c.args.place c.requires

pub move_last-requires-clause-counted : goal.move_last-requires-clause-counted
move_last-requires-clause-counted c =
    let find = hash.get same c.self.inside.groups in
    let h = held find c.self.invariant c.self.view_is in
    let count = ap (λ (g : Group). g.count) c.group_of-group.ensures in
    let some = (group_held find h c.args.place c.requires c.index.result.now c.index.ensures).1 in
    omega arith

pub move_last-requires-clause-fits : goal.move_last-requires-clause-fits
move_last-requires-clause-fits c =
    let find = hash.get same c.self.inside.groups in
    let h = held find c.self.invariant c.self.view_is in
    let count = ap (λ (g : Group). g.count) c.group_of-group.ensures in
    let fits = count_fits find h c.index.result.now.key in
    omega arith

pub keep_group-requires : goal.keep_group-requires
keep_group-requires c =
    let find = hash.get same c.self.inside.groups in
    let h = held find c.self.invariant c.self.view_is in
    (group_held find h c.args.place c.requires c.index.result.now c.index.ensures).0

pub invariant_of-self : goal.invariant_of-self
invariant_of-self c =
    let find = hash.get same c.self.inside.groups in
    let h = held find c.self.invariant c.self.view_is in
    let k = c.index.result.now.key in
    let after = moved_held find h c.args.place c.requires c.index.result.now c.index.ensures c.move_last.new.nodes c.move_last.new.all c.group_of-group.result c.move_last.new.group c.group_of-group.ensures c.move_last.ensures.pairs c.move_last.ensures.rows in
    still_holds (with_group k c.move_last.new.group find) after (hash.get same c.keep_group.new.groups) c.keep_group.ensures

pub returns : goal.returns
returns c =
    let find = hash.get same c.self.inside.groups in
    let h = held find c.self.invariant c.self.view_is in
    let q = c.args.place in
    let n = c.index.result.now in
    let after = moved_held find h q c.requires n c.index.ensures c.move_last.new.nodes c.move_last.new.all c.group_of-group.result c.move_last.new.group c.group_of-group.ensures c.move_last.ensures.pairs c.move_last.ensures.rows in
    shows (with_group n.key c.move_last.new.group find) after ∙ sym (moved_is q c.args.self.now (n.key, n.value) (value_held find h q c.requires n c.index.ensures))
