use Rattle.std.proofs.Common.{sym, ap, ◌∙◌}
use Rattle.elem.specs.declared.cuts.Cut.TheVariants.{Start, End}
use Rattle.elem.specs.Orders.{natural_before}
use Rattle.elem.specs.Rows.{last_key}
use Rattle.plain_base.specs.Sorted.{rows_between}
use Rattle.table_base.specs.Cells.{row}
use Rattle.table_base.proofs.KeysThere.{last_there, whole_part}
use Rattle.table_base.proofs.TurnedCells.{row_of}
use Rattle.table_base.proofs.tree_cells.TreeCells.last_entry_in_row.Goals as goal

pub entry_of_row-requires : goal.entry_of_row-requires
entry_of_row-requires g c x e = last_there (row c.args.r c.args.self.now) x (sym (c.last_of_in.ensures ∙ ap (λ l. last_key (rows_between natural_before Start End l)) (row_of c.self.inside.rows c.args.self.now c.args.r c.self.view_is) ∙ ap last_key (whole_part (row c.args.r c.args.self.now))) ∙ e)

pub returns-clause-column : goal.returns-clause-column
returns-clause-column g c = c.entry_of_row.ensures.column ∙ c.last_of_in.ensures ∙ ap (λ l. last_key (rows_between natural_before Start End l)) (row_of c.self.inside.rows c.args.self.now c.args.r c.self.view_is) ∙ ap last_key (whole_part (row c.args.r c.args.self.now))
