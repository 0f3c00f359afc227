use Rattle.std.proofs.Common.{sym, ◌∙◌, subst}
use Rattle.std.specs.Prelude.{IsSome}
use Rattle.elem.specs.Keyed.{value_at}
use Rattle.linked_base.proofs.PlacesLemmas.{some_of}
use Rattle.linked_base.proofs.HeldRows.{held, still_holds, shows, place_held, node_held, own_node}
use Rattle.linked_base.proofs.MovingLemmas.{next_node, moved_held}
use Rattle.linked_base.proofs.free_linked_map.FreeLinkedMap.move_before.Goals as goal

pub index-place-requires : goal.index-place-requires
index-place-requires g c = place_held (held c.self.invariant c.self.view_is) c.args.k c.requires.key

pub unlink-requires : goal.unlink-requires
unlink-requires g c = node_held (held c.self.invariant c.self.view_is) c.args.k c.index-place.result.now c.index-place.ensures

pub link_before-requires-clause-place : goal.link_before-requires-clause-place
link_before-requires-clause-place g c =
    let h = held c.self.invariant c.self.view_is in
    let p = c.index-place.result.now in
    let own = own_node c.self.inside.nodes c.unlink.new.nodes c.self.inside.ends c.unlink.new.ends c.self.inside.index c.self.inside.index c.args.k p h c.index-place.ensures c.unlink.ensures.others in
    subst IsSome (sym own) (node_held h c.args.k p c.index-place.ensures)

pub link_before-requires-clause-next : goal.link_before-requires-clause-next
link_before-requires-clause-next g c p e =
    next_node c.self.inside.nodes c.unlink.new.nodes c.unlink.new.nodes c.self.inside.ends c.unlink.new.ends c.unlink.new.ends c.self.inside.index c.args.k c.args.next c.index-place.result.now (held c.self.invariant c.self.view_is) c.index-place.ensures c.unlink.ensures.rest p (sym c.place_of-next_place.ensures ∙ e)

pub invariant_of-self : goal.invariant_of-self
invariant_of-self g c =
    let value = some_of (value_at c.args.self.now c.args.k) c.requires.key in
    still_holds (moved_held c.self.inside.nodes c.unlink.new.nodes c.link_before.new.nodes c.self.inside.ends c.unlink.new.ends c.link_before.new.ends c.self.inside.index c.args.k c.args.next c.index-place.result.now (held c.self.invariant c.self.view_is) c.index-place.ensures c.place_of-next_place.result
    c.place_of-next_place.ensures c.unlink.ensures.thread c.link_before.ensures.thread c.unlink.ensures.rest c.link_before.ensures.rest c.requires.next value.0 value.1)

pub returns : goal.returns
returns g c v e =
    shows (moved_held c.self.inside.nodes c.unlink.new.nodes c.link_before.new.nodes c.self.inside.ends c.unlink.new.ends c.link_before.new.ends c.self.inside.index c.args.k c.args.next c.index-place.result.now (held c.self.invariant c.self.view_is) c.index-place.ensures c.place_of-next_place.result
    c.place_of-next_place.ensures c.unlink.ensures.thread c.link_before.ensures.thread c.unlink.ensures.rest c.link_before.ensures.rest c.requires.next v e)
