use Rattle.std.proofs.Common.{ap, ◌∙◌, subst}
use Rattle.elem.specs.Rows.{first_key}
use Rattle.plain_base.specs.TwoKeys.{group, IsInBothOrder}
use Rattle.plain_base.proofs.SameKeys.{distinct_in_order, first_of_keys}
use Rattle.table_base.specs.Cells.{column}
use Rattle.table_base.proofs.TurnedCells.{column_in_order, column_keys}
use Rattle.table_base.proofs.tree_cells.TreeCells.first_of_column.Goals as goal

pub returns-clause-distinct : goal.returns-clause-distinct
returns-clause-distinct c =
    distinct_in_order (column c.args.c.now c.args.self.now) (column_in_order c.args.c.now c.args.self.now (subst IsInBothOrder c.self.view_is c.len-len.ensures.order))

pub returns-clause-row : goal.returns-clause-row
returns-clause-row c =
    let rows = c.self.inside.rows in
    let columns = c.self.inside.columns in
    let keys = column_keys c.args.c.now rows columns c.self.invariant c.len-len.ensures.order c.len-columns_len.ensures.order in
    c.first_of.ensures ∙ first_of_keys (group c.args.c.now columns) (column c.args.c.now rows) keys ∙ ap (λ cells. first_key (column c.args.c.now cells)) c.self.view_is
