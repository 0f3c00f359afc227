use Rattle.cell_rows.specs.CellRows.{cells_of}
use Rattle.cell_rows.specs.Threads.{spot_in}
use Rattle.cell_rows.proofs.Walks.{cell_there, follows_cell, follows_end_cell}
use Rattle.cell_rows.proofs.cell_rows.CellRows.walk_cells.Goals as goal

pub next_cell-requires : goal.next_cell-requires
next_cell-requires g c = cell_there (cells_of c.args.self.now) c.args.back c.args.from.now c.in-Some.r c.in-Some.c c.requires c.in-Some.is

pub returns-in-None-clause-next : goal.returns-in-None-clause-next
returns-in-None-clause-next g c = follows_end_cell (cells_of c.args.self.now) c.args.back c.args.from.now (spot_in c.end_cell.result) c.in-None.is c.end_cell.ensures.spot

pub returns-in-Some-clause-next : goal.returns-in-Some-clause-next
returns-in-Some-clause-next g c = follows_cell (cells_of c.args.self.now) c.args.back c.args.from.now (spot_in c.next_cell.result) c.in-Some.r c.in-Some.c c.len-len.ensures.spots c.in-Some.is c.next_cell.ensures.spot
