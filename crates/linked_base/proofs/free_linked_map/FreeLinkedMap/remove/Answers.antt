use Rattle.std.proofs.Common.{sym, ◌∙◌, refl, ap, length, subst}
use Rattle.std.specs.Prelude.{IsSome}
use Rattle.std.specs.Map.{lookup}
use Rattle.elem.specs.Elements.{same}
use Rattle.linked_base.proofs.LinkedMapSteps.{remove_none}
use Rattle.linked_base.proofs.HeldRows.{held, still_holds, shows, absent_held, node_held, value_held, own_node, dropped_held, roomier_held}
use Rattle.linked_base.proofs.free_linked_map.FreeLinkedMap.remove.Goals as goal

pub returns-in_err-place-clause-value : goal.returns-in_err-place-clause-value
returns-in_err-place-clause-value g c = c.from_residual.ensures ∙ sym (absent_held (held c.self.invariant c.self.view_is) c.args.k (sym c.in_err-place.ensures.place))

pub invariant_of-self : goal.invariant_of-self
invariant_of-self g c =
    let kept = c.in_err-place.ensures.kept in
    still_holds (roomier_held c.self.inside.nodes c.self.inside.nodes c.self.inside.ends c.self.inside.index c.take_place.new.index refl (λ x. ap (lookup (same x)) kept) (ap length kept) (held c.self.invariant c.self.view_is))

pub returns-in_err-place-clause-rows : goal.returns-in_err-place-clause-rows
returns-in_err-place-clause-rows g c =
    let h = held c.self.invariant c.self.view_is in
    let kept = c.in_err-place.ensures.kept in
    shows (roomier_held c.self.inside.nodes c.self.inside.nodes c.self.inside.ends c.self.inside.index c.take_place.new.index refl (λ x. ap (lookup (same x)) kept) (ap length kept) h)
    ∙ sym (remove_none (same c.args.k) c.args.self.now (absent_held h c.args.k (sym c.in_err-place.ensures.place)))

pub unlink-requires : goal.unlink-requires
unlink-requires g c = node_held (held c.self.invariant c.self.view_is) c.args.k c.in_ok-place.place (sym c.in_ok-place.ensures.place)

pub remove-node-requires : goal.remove-node-requires
remove-node-requires g c =
    let h = held c.self.invariant c.self.view_is in
    let found = sym c.in_ok-place.ensures.place in
    let own = own_node c.self.inside.nodes c.unlink.new.nodes c.self.inside.ends c.unlink.new.ends c.self.inside.index c.take_place.new.index c.args.k c.in_ok-place.place h found c.unlink.ensures.others in
    subst IsSome (sym own) (node_held h c.args.k c.in_ok-place.place found)

pub invariant_of-self-2 : goal.invariant_of-self-2
invariant_of-self-2 g c =
    still_holds (dropped_held c.self.inside.nodes c.unlink.new.nodes c.self.inside.ends c.unlink.new.ends c.self.inside.index c.take_place.new.index c.args.k c.in_ok-place.place (held c.self.invariant c.self.view_is) (sym c.in_ok-place.ensures.place) c.remove-node.new.self c.unlink.ensures.thread
    c.unlink.ensures.rest c.remove-node.ensures.updates c.in_ok-place.ensures.updates c.in_ok-place.ensures.len)

pub returns-clause-value : goal.returns-clause-value
returns-clause-value g c =
    let h = held c.self.invariant c.self.view_is in
    let found = sym c.in_ok-place.ensures.place in
    let own = own_node c.self.inside.nodes c.unlink.new.nodes c.self.inside.ends c.unlink.new.ends c.self.inside.index c.take_place.new.index c.args.k c.in_ok-place.place h found c.unlink.ensures.others in
    sym (value_held h c.args.k c.in_ok-place.place c.remove-node.result found (sym own ∙ c.remove-node.ensures.value))

pub returns-clause-rows : goal.returns-clause-rows
returns-clause-rows g c =
    shows (dropped_held c.self.inside.nodes c.unlink.new.nodes c.self.inside.ends c.unlink.new.ends c.self.inside.index c.take_place.new.index c.args.k c.in_ok-place.place (held c.self.invariant c.self.view_is) (sym c.in_ok-place.ensures.place) c.remove-node.new.self c.unlink.ensures.thread c.unlink.ensures.rest
    c.remove-node.ensures.updates c.in_ok-place.ensures.updates c.in_ok-place.ensures.len)
