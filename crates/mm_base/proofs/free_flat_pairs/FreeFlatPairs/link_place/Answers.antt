use Rattle.std.proofs.Common.{refl, ap, arith}
use Rattle.std.specs.HashMap as hash
use Rattle.elem.specs.Elements.{same}
use Rattle.linked_base.specs.declared.group.Group.{Group}
use Rattle.mm_base.specs.PairNodes.{with_group}
use Rattle.mm_base.proofs.HeldPairs.{held, still_holds, shows, count_fits, new_held, node_held, linked_held, roomier_held, in_key_held}
use Rattle.mm_base.proofs.free_flat_pairs.FreeFlatPairs.link_place.Goals as goal

pub invariant_of-self : goal.invariant_of-self
invariant_of-self c =
    let find = hash.get same c.self.inside.groups in
    still_holds find (roomier_held c.self.inside.nodes c.reserve.new.self find find c.reserve.ensures.rest_kept (λ k. refl) (held find c.self.invariant c.self.view_is)) find (λ k. refl)

pub returns-then-is_err-clause-err : goal.returns-then-is_err-clause-err
returns-then-is_err-clause-err c =
    let find = hash.get same c.self.inside.groups in
    shows find (roomier_held c.self.inside.nodes c.reserve.new.self find find c.reserve.ensures.rest_kept (λ k. refl) (held find c.self.invariant c.self.view_is))

pub invariant_of-self-then-is_err-2 : goal.invariant_of-self-then-is_err-2
invariant_of-self-then-is_err-2 c =
    let find = hash.get same c.self.inside.groups in
    let found = hash.get same c.reserve-2.new.self in
    let h = roomier_held c.self.inside.nodes c.reserve.new.self find found c.reserve.ensures.rest_kept c.reserve-2.ensures.entries.2 (held find c.self.invariant c.self.view_is) in
    still_holds found h found (λ k. refl)

pub returns-then-is_err-2-clause-err : goal.returns-then-is_err-2-clause-err
returns-then-is_err-2-clause-err c =
    let find = hash.get same c.self.inside.groups in
    let found = hash.get same c.reserve-2.new.self in
    let h = roomier_held c.self.inside.nodes c.reserve.new.self find found c.reserve.ensures.rest_kept c.reserve-2.ensures.entries.2 (held find c.self.invariant c.self.view_is) in
    shows found h

pub link_pair-place-requires-clause-next : goal.link_pair-place-requires-clause-next
link_pair-place-requires-clause-next c q e =
    let find = hash.get same c.self.inside.groups in
    let found = hash.get same c.reserve-2.new.self in
    let h = roomier_held c.self.inside.nodes c.reserve.new.self find found c.reserve.ensures.rest_kept c.reserve-2.ensures.entries.2 (held find c.self.invariant c.self.view_is) in
    node_held found h q (c.requires.next q e)

pub link_pair-place-requires-clause-next_in_key : goal.link_pair-place-requires-clause-next_in_key
link_pair-place-requires-clause-next_in_key c q e =
    let find = hash.get same c.self.inside.groups in
    let found = hash.get same c.reserve-2.new.self in
    let h = roomier_held c.self.inside.nodes c.reserve.new.self find found c.reserve.ensures.rest_kept c.reserve-2.ensures.entries.2 (held find c.self.invariant c.self.view_is) in
    in_key_held found h c.args.k.now c.args.next c.args.next_in_key c.requires.next c.requires.in_key q e

pub link_pair-place-requires-clause-counted : goal.link_pair-place-requires-clause-counted
link_pair-place-requires-clause-counted c =
    let find = hash.get same c.self.inside.groups in
    let found = hash.get same c.reserve-2.new.self in
    let h = roomier_held c.self.inside.nodes c.reserve.new.self find found c.reserve.ensures.rest_kept c.reserve-2.ensures.entries.2 (held find c.self.invariant c.self.view_is) in
    let count = ap (λ (g : Group). g.count) c.group_of-group.ensures in
    let fits = count_fits found h c.args.k.now in
    omega arith

pub invariant_of-self-2 : goal.invariant_of-self-2
invariant_of-self-2 c =
    let find = hash.get same c.self.inside.groups in
    let found = hash.get same c.reserve-2.new.self in
    let h = roomier_held c.self.inside.nodes c.reserve.new.self find found c.reserve.ensures.rest_kept c.reserve-2.ensures.entries.2 (held find c.self.invariant c.self.view_is) in
    let after = linked_held found h c.link_pair-place.new.nodes c.link_pair-place.new.all c.group_of-group.result c.link_pair-place.new.group c.args.k.now c.args.v.now c.args.next c.args.next_in_key c.link_pair-place.result c.group_of-group.ensures c.requires.next c.requires.in_key c.link_pair-place.ensures.pairs c.link_pair-place.ensures.rows in
    still_holds (with_group c.args.k.now c.link_pair-place.new.group found) after (hash.get same c.write_group.new.groups) c.write_group.ensures

pub returns-clause-fresh : goal.returns-clause-fresh
returns-clause-fresh c =
    let find = hash.get same c.self.inside.groups in
    let found = hash.get same c.reserve-2.new.self in
    let h = roomier_held c.self.inside.nodes c.reserve.new.self find found c.reserve.ensures.rest_kept c.reserve-2.ensures.entries.2 (held find c.self.invariant c.self.view_is) in
    new_held found h c.link_pair-place.result c.link_pair-place.ensures.fresh

pub returns-clause-ok : goal.returns-clause-ok
returns-clause-ok c =
    let find = hash.get same c.self.inside.groups in
    let found = hash.get same c.reserve-2.new.self in
    let h = roomier_held c.self.inside.nodes c.reserve.new.self find found c.reserve.ensures.rest_kept c.reserve-2.ensures.entries.2 (held find c.self.invariant c.self.view_is) in
    let after = linked_held found h c.link_pair-place.new.nodes c.link_pair-place.new.all c.group_of-group.result c.link_pair-place.new.group c.args.k.now c.args.v.now c.args.next c.args.next_in_key c.link_pair-place.result c.group_of-group.ensures c.requires.next c.requires.in_key c.link_pair-place.ensures.pairs c.link_pair-place.ensures.rows in
    shows (with_group c.args.k.now c.link_pair-place.new.group found) after
