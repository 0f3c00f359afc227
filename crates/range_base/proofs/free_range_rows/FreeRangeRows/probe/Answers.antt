use Rattle.range_base.proofs.RowsLemmas.{IsDisjoint-apart}
use Rattle.range_base.proofs.ReadLemmas.{last-showable}
use Rattle.range_base.proofs.free_range_rows.FreeRangeRows.probe.Goals as goal

pub row_up_to-requires : goal.row_up_to-requires
row_up_to-requires c = IsDisjoint-apart c.self.inside.rows.entries c.self.invariant.apart

pub shown-requires : goal.shown-requires
shown-requires c = rw c.row_up_to.ensures (last-showable 1 0 c.place.result c.self.inside.rows.entries c.self.invariant.apart c.self.invariant.places)
