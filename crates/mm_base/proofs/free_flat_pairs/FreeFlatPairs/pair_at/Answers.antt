use Rattle.std.specs.HashMap as hash
use Rattle.elem.specs.Elements.{same}
use Rattle.mm_base.proofs.HeldPairs.{held, distinct_held, node_held, value_held}
use Rattle.mm_base.proofs.free_flat_pairs.FreeFlatPairs.pair_at.Goals as goal

pub index-node-requires : goal.index-node-requires
index-node-requires c =
    let find = hash.get same c.self.inside.groups in
    node_held find (held find c.self.invariant c.self.view_is) c.args.place c.requires

pub returns-clause-distinct : goal.returns-clause-distinct
returns-clause-distinct c = let find = hash.get same c.self.inside.groups in distinct_held find (held find c.self.invariant c.self.view_is)

pub returns-clause-pair : goal.returns-clause-pair
returns-clause-pair c =
    let find = hash.get same c.self.inside.groups in
    value_held find (held find c.self.invariant c.self.view_is) c.args.place c.requires c.index-node.result.now c.index-node.ensures
