use Rattle.std.proofs.Common.{subst, refl, Some}
use Rattle.slab.specs.Slab.{Updates}
use Rattle.linked_base.proofs.HeldRows.{held, still_holds, shows, roomier_held, pushed_held}
use Rattle.linked_base.proofs.free_linked_map.FreeLinkedMap.insert.Goals as goal

pub invariant_of-self : goal.invariant_of-self
invariant_of-self g c = still_holds (roomier_held c.self.inside.nodes c.reserve.new.self c.self.inside.ends c.self.inside.index c.self.inside.index c.reserve.ensures.rest_kept (λ x. refl) refl (held c.self.invariant c.self.view_is))

pub returns-then-is_err-clause-err : goal.returns-then-is_err-clause-err
returns-then-is_err-clause-err g c = shows (roomier_held c.self.inside.nodes c.reserve.new.self c.self.inside.ends c.self.inside.index c.self.inside.index c.reserve.ensures.rest_kept (λ x. refl) refl (held c.self.invariant c.self.view_is))

pub invariant_of-self-then-is_err-2 : goal.invariant_of-self-then-is_err-2
invariant_of-self-then-is_err-2 g c = still_holds (roomier_held c.self.inside.nodes c.reserve.new.self c.self.inside.ends c.self.inside.index c.reserve-2.new.self c.reserve.ensures.rest_kept c.reserve-2.ensures.entries.2 c.reserve-2.ensures.entries.1 (held c.self.invariant c.self.view_is))

pub returns-then-is_err-2-clause-err : goal.returns-then-is_err-2-clause-err
returns-then-is_err-2-clause-err g c = shows (roomier_held c.self.inside.nodes c.reserve.new.self c.self.inside.ends c.self.inside.index c.reserve-2.new.self c.reserve.ensures.rest_kept c.reserve-2.ensures.entries.2 c.reserve-2.ensures.entries.1 (held c.self.invariant c.self.view_is))

pub invariant_of-self-2 : goal.invariant_of-self-2
invariant_of-self-2 g c =
    let h = roomier_held c.self.inside.nodes c.reserve.new.self c.self.inside.ends c.self.inside.index c.reserve-2.new.self c.reserve.ensures.rest_kept c.reserve-2.ensures.entries.2 c.reserve-2.ensures.entries.1 (held c.self.invariant c.self.view_is) in
    let updates = subst (λ x. Updates c.reserve.new.self c.insert_reserved-place.new.self c.insert_reserved-place.result (Some x)) c.new_node-node.ensures c.insert_reserved-place.ensures.updates in
    still_holds (pushed_held c.reserve.new.self c.insert_reserved-place.new.self c.link_before.new.nodes c.self.inside.ends c.link_before.new.ends c.reserve-2.new.self c.write_place.new.index c.args.k c.args.v c.insert_reserved-place.result h c.insert_reserved-place.ensures.was_vacant updates c.link_before.ensures.thread
    c.link_before.ensures.rest c.write_place.ensures.updates c.write_place.ensures.len c.requires)

pub returns-clause-ok : goal.returns-clause-ok
returns-clause-ok g c =
    let h = roomier_held c.self.inside.nodes c.reserve.new.self c.self.inside.ends c.self.inside.index c.reserve-2.new.self c.reserve.ensures.rest_kept c.reserve-2.ensures.entries.2 c.reserve-2.ensures.entries.1 (held c.self.invariant c.self.view_is) in
    let updates = subst (λ x. Updates c.reserve.new.self c.insert_reserved-place.new.self c.insert_reserved-place.result (Some x)) c.new_node-node.ensures c.insert_reserved-place.ensures.updates in
    shows (pushed_held c.reserve.new.self c.insert_reserved-place.new.self c.link_before.new.nodes c.self.inside.ends c.link_before.new.ends c.reserve-2.new.self c.write_place.new.index c.args.k c.args.v c.insert_reserved-place.result h c.insert_reserved-place.ensures.was_vacant updates c.link_before.ensures.thread
    c.link_before.ensures.rest c.write_place.ensures.updates c.write_place.ensures.len c.requires)
