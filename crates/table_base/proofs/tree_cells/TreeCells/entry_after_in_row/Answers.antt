use Rattle.std.proofs.Common.{sym, ap, ◌∙◌, subst}
use Rattle.elem.specs.Elements.{same}
use Rattle.elem.specs.Keyed.{IsPresent}
use Rattle.elem.specs.Rows.{key_after}
use Rattle.table_base.specs.Cells.{row}
use Rattle.table_base.proofs.KeysThere.{after_there}
use Rattle.table_base.proofs.TurnedCells.{row_of}
use Rattle.table_base.proofs.tree_cells.TreeCells.entry_after_in_row.Goals as goal

pub after_in-requires : goal.after_in-requires
after_in-requires g c = subst (λ l. IsPresent l c.args.c) (sym (row_of c.self.inside.rows c.args.self.now c.args.r c.self.view_is)) c.requires

pub entry_of_row-requires : goal.entry_of_row-requires
entry_of_row-requires g c x e = after_there (same c.args.c) (row c.args.r c.args.self.now) x (sym (c.after_in.ensures ∙ ap (key_after (same c.args.c)) (row_of c.self.inside.rows c.args.self.now c.args.r c.self.view_is)) ∙ e)

pub returns-clause-column : goal.returns-clause-column
returns-clause-column g c = c.entry_of_row.ensures.column ∙ c.after_in.ensures ∙ ap (key_after (same c.args.c)) (row_of c.self.inside.rows c.args.self.now c.args.r c.self.view_is)
