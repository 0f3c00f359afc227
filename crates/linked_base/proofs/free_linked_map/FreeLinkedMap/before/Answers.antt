use Rattle.std.proofs.Common.{◌∙◌}
use Rattle.linked_base.proofs.HeldRows.{held, place_held, node_held, previous_held, key_before_held}
use Rattle.linked_base.proofs.free_linked_map.FreeLinkedMap.before.Goals as goal

pub index-place-requires : goal.index-place-requires
index-place-requires g c = place_held (held c.self.invariant c.self.view_is) c.args.k c.requires

pub index-requires : goal.index-requires
index-requires g c = node_held (held c.self.invariant c.self.view_is) c.args.k c.index-place.result.now c.index-place.ensures

pub key_at-requires : goal.key_at-requires
key_at-requires g c = previous_held (held c.self.invariant c.self.view_is) c.args.k c.index-place.result.now c.index.result.now c.index-place.ensures c.index.ensures

pub returns : goal.returns
returns g c = c.key_at.ensures ∙ key_before_held (held c.self.invariant c.self.view_is) c.args.k c.index-place.result.now c.index.result.now c.index-place.ensures c.index.ensures
