use Rattle.linked_base.proofs.HeldRows.{held}
use Rattle.linked_base.proofs.WholeRows.{value_of_row, first_in}
use Rattle.linked_base.proofs.free_linked_map.FreeLinkedMap.first_row.Goals as goal

pub returns-clause-value : goal.returns-clause-value
returns-clause-value g c =
    let h = held c.self.invariant c.self.view_is in
    value_of_row h c.self.inside.ends.first c.row_at_place.result c.row_at_place.ensures (first_in h)
