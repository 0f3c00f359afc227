use Rattle.std.proofs.Common.{ap, ◌∙◌}
use Rattle.elem.specs.declared.cuts.Cut.TheVariants.{Start}
use Rattle.elem.specs.Orders.{natural_before}
use Rattle.elem.specs.Rows.{last_key}
use Rattle.plain_base.specs.Sorted.{rows_between}
use Rattle.table_base.proofs.TurnedCells.{row_of}
use Rattle.table_base.proofs.tree_cells.TreeCells.last_in_row_to.Goals as goal

pub returns-clause-column : goal.returns-clause-column
returns-clause-column g c = c.last_of_in.ensures ∙ ap (λ l. last_key (rows_between natural_before Start c.args.c.now l)) (row_of c.self.inside.rows c.args.self.now c.args.r c.self.view_is)
