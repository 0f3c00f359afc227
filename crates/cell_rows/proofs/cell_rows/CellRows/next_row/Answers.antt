use Rattle.cell_rows.specs.CellRows.{cells_of, kind_of}
use Rattle.cell_rows.proofs.CellLines.{follows_no_column, follows_no_row}
use Rattle.cell_rows.proofs.cell_rows.CellRows.next_row.Goals as goal

pub returns-in_default-second-clause-next : goal.returns-in_default-second-clause-next
returns-in_default-second-clause-next g c =
    follows_no_column (kind_of c.args.self.now) (cells_of c.args.self.now) c.args.lane.now c.args.back c.args.from.now c.in-Any.is c.requires.serves.columns c.in_default-second.not-Is c.in_default-second.not-Any

pub returns-in_default-clause-next : goal.returns-in_default-clause-next
returns-in_default-clause-next g c =
    follows_no_row (kind_of c.args.self.now) (cells_of c.args.self.now) c.args.lane.now c.args.back c.args.from.now c.requires.serves.rows c.in_default.not-Is c.in_default.not-Any
