use Rattle.std.proofs.Common.{sym, ap, ◌∙◌}
use Rattle.elem.specs.Cuts.{lies_between}
use Rattle.elem.specs.Orders.{natural_before}
use Rattle.elem.specs.Rows.{first_key}
use Rattle.plain_base.specs.Sorted.{rows_between}
use Rattle.table_base.specs.Cells.{row}
use Rattle.table_base.proofs.KeysThere.{first_there, part_there}
use Rattle.table_base.proofs.TurnedCells.{row_of}
use Rattle.table_base.proofs.tree_cells.TreeCells.first_entry_in_row_in.Goals as goal

pub entry_of_row-requires : goal.entry_of_row-requires
entry_of_row-requires g c x e = part_there (λ r. lies_between natural_before c.args.w.now.lo c.args.w.now.hi r.0) (row c.args.r c.args.self.now) x (first_there (rows_between natural_before c.args.w.now.lo c.args.w.now.hi (row c.args.r c.args.self.now)) x (sym (c.first_of_in.ensures ∙ ap (λ l. first_key (rows_between natural_before c.args.w.now.lo c.args.w.now.hi l)) (row_of c.self.inside.rows c.args.self.now c.args.r c.self.view_is)) ∙ e))

pub returns-clause-column : goal.returns-clause-column
returns-clause-column g c = c.entry_of_row.ensures.column ∙ c.first_of_in.ensures ∙ ap (λ l. first_key (rows_between natural_before c.args.w.now.lo c.args.w.now.hi l)) (row_of c.self.inside.rows c.args.self.now c.args.r c.self.view_is)
