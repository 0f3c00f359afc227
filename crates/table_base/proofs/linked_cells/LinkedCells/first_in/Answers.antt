use Rattle.std.proofs.Common.{◌∙◌, ap}
use Rattle.table_base.specs.Cells.{Table}
use Rattle.table_base.proofs.HeldCells.{held, first_in_held, distinct_held}
use Rattle.table_base.proofs.linked_cells.LinkedCells.first_in.Goals as goal

pub returns-clause-column : goal.returns-clause-column
returns-clause-column c = c.other_of.ensures ∙ first_in_held (held c.self.invariant.indexed (ap (λ (t : Table). t.cells) c.self.view_is)) c.args.side c.args.k.now c.group_at-group.result c.group_at-group.ensures

pub returns-clause-distinct : goal.returns-clause-distinct
returns-clause-distinct c = distinct_held (held c.self.invariant.indexed (ap (λ (t : Table). t.cells) c.self.view_is)) c.args.side c.args.k.now
