use Rattle.std.proofs.Common.{◌≡◌, ◌+◌, sym, ◌∙◌, refl, subst}
use Rattle.std.specs.Prelude.{IsSome, OnSome}
use Rattle.std.specs.HashMap.{hash_map_len}
use Rattle.linked_base.proofs.HeldRows.{held, still_holds, shows, place_held, roomier_held, rekeyed_held}
use Rattle.linked_base.proofs.free_linked_map.FreeLinkedMap.rekey.Goals as goal

pub unwrap-place-requires : goal.unwrap-place-requires
unwrap-place-requires g c =
    let h = roomier_held c.self.inside.nodes c.self.inside.nodes c.self.inside.ends c.self.inside.index c.reserve.new.self refl c.reserve.ensures.entries.2 c.reserve.ensures.entries.1 (held c.self.invariant c.self.view_is) in
    subst IsSome (sym c.take_place.ensures.place) (place_held h c.args.old c.requires.old)

pub invariant_of-self-2 : goal.invariant_of-self-2
invariant_of-self-2 g c =
    let h = roomier_held c.self.inside.nodes c.self.inside.nodes c.self.inside.ends c.self.inside.index c.reserve.new.self refl c.reserve.ensures.entries.2 c.reserve.ensures.entries.1 (held c.self.invariant c.self.view_is) in
    let fewer = subst (λ o. OnSome o (hash_map_len c.take_place.new.index + 1 ≡ hash_map_len c.reserve.new.self)) c.unwrap-place.ensures c.take_place.ensures.len in
    still_holds (rekeyed_held c.self.inside.nodes c.write_row.new.nodes c.self.inside.ends c.reserve.new.self c.args.old c.args.v c.unwrap-place.result h (sym c.take_place.ensures.place ∙ c.unwrap-place.ensures) c.args.new c.take_place.new.index c.write_place.new.index c.write_row.ensures c.requires.new
    c.take_place.ensures.updates fewer c.write_place.ensures.updates c.write_place.ensures.len)

pub returns-clause-ok : goal.returns-clause-ok
returns-clause-ok g c =
    let h = roomier_held c.self.inside.nodes c.self.inside.nodes c.self.inside.ends c.self.inside.index c.reserve.new.self refl c.reserve.ensures.entries.2 c.reserve.ensures.entries.1 (held c.self.invariant c.self.view_is) in
    let fewer = subst (λ o. OnSome o (hash_map_len c.take_place.new.index + 1 ≡ hash_map_len c.reserve.new.self)) c.unwrap-place.ensures c.take_place.ensures.len in
    shows (rekeyed_held c.self.inside.nodes c.write_row.new.nodes c.self.inside.ends c.reserve.new.self c.args.old c.args.v c.unwrap-place.result h (sym c.take_place.ensures.place ∙ c.unwrap-place.ensures) c.args.new c.take_place.new.index c.write_place.new.index c.write_row.ensures c.requires.new
    c.take_place.ensures.updates fewer c.write_place.ensures.updates c.write_place.ensures.len)
