use Rattle.std.proofs.Common.{ap, ◌∙◌, length}
use Rattle.plain_base.specs.TwoKeys.{group}
use Rattle.plain_base.proofs.SameKeys.{length_of_keys}
use Rattle.table_base.specs.Cells.{column}
use Rattle.table_base.proofs.TurnedCells.{column_keys}
use Rattle.table_base.proofs.tree_cells.TreeCells.count_of_column.Goals as goal

pub returns : goal.returns
returns c =
    let rows = c.self.inside.rows in
    let columns = c.self.inside.columns in
    let keys = column_keys c.args.c.now rows columns c.self.invariant c.len-len.ensures.order c.len-columns_len.ensures.order in
    c.count_of.ensures ∙ length_of_keys (group c.args.c.now columns) (column c.args.c.now rows) keys ∙ ap (λ cells. length (column c.args.c.now cells)) c.self.view_is
