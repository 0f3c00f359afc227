use Rattle.std.proofs.Common.{ap, ◌∙◌}
use Rattle.std.specs.Option.{option_map}
use Rattle.linked_base.proofs.HeldRows.{held, place_held, node_held, next_held, key_after_held}
use Rattle.linked_base.proofs.WholeRows.{key_of_row, value_of_row, next_in}
use Rattle.linked_base.proofs.free_linked_map.FreeLinkedMap.row_after.Goals as goal

pub index-place-requires : goal.index-place-requires
index-place-requires g c = place_held (held c.self.invariant c.self.view_is) c.args.k c.requires

pub index-requires : goal.index-requires
index-requires g c = node_held (held c.self.invariant c.self.view_is) c.args.k c.index-place.result.now c.index-place.ensures

pub row_at_place-requires : goal.row_at_place-requires
row_at_place-requires g c = next_held (held c.self.invariant c.self.view_is) c.args.k c.index-place.result.now c.index.result.now c.index-place.ensures c.index.ensures

pub returns-clause-key : goal.returns-clause-key
returns-clause-key g c =
    let h = held c.self.invariant c.self.view_is in
    ap (option_map (λ row. row.0)) c.row_at_place.ensures ∙ key_of_row c.self.inside.nodes c.index.result.now.links.next ∙ key_after_held h c.args.k c.index-place.result.now c.index.result.now c.index-place.ensures c.index.ensures

pub returns-clause-value : goal.returns-clause-value
returns-clause-value g c =
    let h = held c.self.invariant c.self.view_is in
    value_of_row h c.index.result.now.links.next c.row_at_place.result c.row_at_place.ensures (next_in h c.args.k c.index-place.result.now c.index.result.now c.index-place.ensures c.index.ensures)
