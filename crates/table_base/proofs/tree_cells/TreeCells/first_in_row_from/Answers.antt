use Rattle.std.proofs.Common.{ap, ◌∙◌}
use Rattle.elem.specs.declared.cuts.Cut.TheVariants.{End}
use Rattle.elem.specs.Orders.{natural_before}
use Rattle.elem.specs.Rows.{first_key}
use Rattle.plain_base.specs.Sorted.{rows_between}
use Rattle.table_base.proofs.TurnedCells.{row_of}
use Rattle.table_base.proofs.tree_cells.TreeCells.first_in_row_from.Goals as goal

pub returns-clause-column : goal.returns-clause-column
returns-clause-column g c = c.first_of_in.ensures ∙ ap (λ l. first_key (rows_between natural_before c.args.c.now End l)) (row_of c.self.inside.rows c.args.self.now c.args.r c.self.view_is)
