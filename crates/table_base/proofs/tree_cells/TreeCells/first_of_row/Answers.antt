use Rattle.std.proofs.Common.{ap, ◌∙◌, subst}
use Rattle.elem.specs.Orders.{natural_before}
use Rattle.elem.specs.Rows.{first_key}
use Rattle.plain_base.specs.Sorted.{IsInOrder}
use Rattle.plain_base.proofs.SameKeys.{distinct_in_order}
use Rattle.table_base.specs.Cells.{row}
use Rattle.table_base.proofs.TurnedCells.{row_of, group_in_order}
use Rattle.table_base.proofs.tree_cells.TreeCells.first_of_row.Goals as goal

pub returns-clause-distinct : goal.returns-clause-distinct
returns-clause-distinct c =
    distinct_in_order (row c.args.r.now c.args.self.now) (subst (IsInOrder natural_before) (row_of c.self.inside.rows c.args.self.now c.args.r.now c.self.view_is) (group_in_order c.args.r.now c.self.inside.rows c.len-len.ensures.order))

pub returns-clause-column : goal.returns-clause-column
returns-clause-column c = c.first_of.ensures ∙ ap first_key (row_of c.self.inside.rows c.args.self.now c.args.r.now c.self.view_is)
