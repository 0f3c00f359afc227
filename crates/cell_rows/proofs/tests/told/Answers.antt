use Rattle.cell_rows.proofs.tests.told.Goals as goal

pub ends-requires : goal.ends-requires
ends-requires g c = c.lane_in.ensures _

pub ends-requires-2 : goal.ends-requires-2
ends-requires-2 g c = c.lane_in-row.ensures _

pub ends-requires-3 : goal.ends-requires-3
ends-requires-3 g c = c.lane_in-2.ensures _

pub drop_along-requires : goal.drop_along-requires
drop_along-requires g c = c.lane_in-row.ensures _
