use Rattle.std.specs.HashMap as hash
use Rattle.elem.specs.Elements.{same}
use Rattle.mm_base.proofs.HeldPairs.{held, node_held, after_held}
use Rattle.mm_base.proofs.free_flat_pairs.FreeFlatPairs.next_place.Goals as goal

pub index-requires : goal.index-requires
index-requires c = let find = hash.get same c.self.inside.groups in node_held find (held find c.self.invariant c.self.view_is) c.args.place c.requires

pub returns : goal.returns
returns c = let find = hash.get same c.self.inside.groups in after_held find (held find c.self.invariant c.self.view_is) c.args.place c.requires c.index.result.now c.index.ensures
