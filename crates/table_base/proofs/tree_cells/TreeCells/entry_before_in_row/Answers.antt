use Rattle.std.proofs.Common.{sym, ap, ◌∙◌, subst}
use Rattle.elem.specs.Elements.{same}
use Rattle.elem.specs.Keyed.{IsPresent}
use Rattle.elem.specs.Rows.{key_before}
use Rattle.table_base.specs.Cells.{row}
use Rattle.table_base.proofs.KeysThere.{before_there}
use Rattle.table_base.proofs.TurnedCells.{row_of}
use Rattle.table_base.proofs.tree_cells.TreeCells.entry_before_in_row.Goals as goal

pub before_in-requires : goal.before_in-requires
before_in-requires g c = subst (λ l. IsPresent l c.args.c) (sym (row_of c.self.inside.rows c.args.self.now c.args.r c.self.view_is)) c.requires

pub entry_of_row-requires : goal.entry_of_row-requires
entry_of_row-requires g c x e = before_there (same c.args.c) (row c.args.r c.args.self.now) x (sym (c.before_in.ensures ∙ ap (key_before (same c.args.c)) (row_of c.self.inside.rows c.args.self.now c.args.r c.self.view_is)) ∙ e)

pub returns-clause-column : goal.returns-clause-column
returns-clause-column g c = c.entry_of_row.ensures.column ∙ c.before_in.ensures ∙ ap (key_before (same c.args.c)) (row_of c.self.inside.rows c.args.self.now c.args.r c.self.view_is)
