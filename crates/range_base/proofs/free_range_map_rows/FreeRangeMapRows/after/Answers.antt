use Rattle.range_base.proofs.ReadLemmas.{after-showable}
use Rattle.range_base.proofs.free_range_map_rows.FreeRangeMapRows.after.Goals as goal

pub shown-requires : goal.shown-requires
shown-requires c = rw c.row_after.ensures (after-showable 0 0 c.place.result c.self.inside.rows.entries c.self.invariant.disjoint c.self.invariant.places)
