use Rattle.linked_base.proofs.HeldRows.{held, still_holds, shows, place_held, node_held, value_held}
use Rattle.linked_base.proofs.MovedRows.{moved_held}
use Rattle.linked_base.proofs.free_linked_map.FreeLinkedMap.to_end.Goals as goal

pub index-place-requires : goal.index-place-requires
index-place-requires g c = place_held (held c.self.invariant c.self.view_is) c.args.k c.requires

pub index-requires : goal.index-requires
index-requires g c = node_held (held c.self.invariant c.self.view_is) c.args.k c.index-place.result.now c.index-place.ensures

pub unlink-requires : goal.unlink-requires
unlink-requires g c = node_held (held c.self.invariant c.self.view_is) c.args.k c.index-place.result.now c.index-place.ensures

pub invariant_of-self : goal.invariant_of-self
invariant_of-self g c =
    let h = held c.self.invariant c.self.view_is in
    let p = c.index-place.result.now in
    let value = value_held h c.args.k p c.index.result.now c.index-place.ensures c.index.ensures in
    still_holds (moved_held c.self.inside.nodes c.unlink.new.nodes c.link_before.new.nodes c.self.inside.ends c.unlink.new.ends c.link_before.new.ends c.self.inside.index c.args.k p h c.index-place.ensures c.unlink.ensures.thread c.unlink.ensures.rest c.link_before.ensures.thread c.link_before.ensures.rest
    c.index.result.now.value value)

pub returns-clause-value : goal.returns-clause-value
returns-clause-value g c = value_held (held c.self.invariant c.self.view_is) c.args.k c.index-place.result.now c.index.result.now c.index-place.ensures c.index.ensures

pub returns-clause-rows : goal.returns-clause-rows
returns-clause-rows g c =
    let h = held c.self.invariant c.self.view_is in
    let p = c.index-place.result.now in
    let value = value_held h c.args.k p c.index.result.now c.index-place.ensures c.index.ensures in
    shows (moved_held c.self.inside.nodes c.unlink.new.nodes c.link_before.new.nodes c.self.inside.ends c.unlink.new.ends c.link_before.new.ends c.self.inside.index c.args.k p h c.index-place.ensures c.unlink.ensures.thread c.unlink.ensures.rest c.link_before.ensures.thread c.link_before.ensures.rest
    c.index.result.now.value value)
