use Rattle.range_base.proofs.RowsLemmas.{IsDisjoint-apart}
use Rattle.range_base.proofs.ReadLemmas.{after-showable}
use Rattle.range_base.proofs.free_range_rows.FreeRangeRows.after.Goals as goal

pub row_after-requires : goal.row_after-requires
row_after-requires c = IsDisjoint-apart c.self.inside.rows.entries c.self.invariant.apart

pub shown-requires : goal.shown-requires
shown-requires c = rw c.row_after.ensures (after-showable 1 0 c.place.result c.self.inside.rows.entries c.self.invariant.apart c.self.invariant.places)
