use Rattle.std.proofs.Common.{sym, ap, ◌∙◌, subst}
use Rattle.std.specs.Prelude.{is_some}
use Rattle.elem.specs.declared.elements.Elem.{Elem}
use Rattle.elem.specs.Rows.{first_key}
use Rattle.plain_base.specs.Sorted.{IsLeast}
use Rattle.plain_base.proofs.SameKeys.{has_first, IsLeast-as, first_is_least}
use Rattle.table_base.specs.Cells.{column}
use Rattle.table_base.proofs.TurnedCells.{has_column}
use Rattle.table_base.proofs.tree_cells.TreeCells.first_column.Goals as goal

pub returns-clause-column : goal.returns-clause-column
returns-clause-column g c =
    let rows = c.self.inside.rows in
    let columns = c.self.inside.columns in
    let alike = λ (x : Elem). has_column rows columns c.self.invariant c.len-len.ensures.order c.len-columns_len.ensures.order x ∙ ap (λ cells. is_some (first_key (column x cells))) c.self.view_is in
    subst (IsLeast (λ (x : Elem). is_some (first_key (column x c.args.self.now)))) (sym c.first.ensures)
    (IsLeast-as (λ (x : Elem). has_first x columns) (λ (x : Elem). is_some (first_key (column x c.args.self.now))) (first_key columns) alike (first_is_least columns c.len-columns_len.ensures.order))
