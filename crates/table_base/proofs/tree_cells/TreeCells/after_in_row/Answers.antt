use Rattle.std.proofs.Common.{sym, ap, ◌∙◌, subst}
use Rattle.elem.specs.Elements.{same}
use Rattle.elem.specs.Keyed.{IsPresent}
use Rattle.elem.specs.Rows.{key_after}
use Rattle.table_base.proofs.TurnedCells.{row_of}
use Rattle.table_base.proofs.tree_cells.TreeCells.after_in_row.Goals as goal

pub after_in-requires : goal.after_in-requires
after_in-requires g c = subst (λ l. IsPresent l c.args.c) (sym (row_of c.self.inside.rows c.args.self.now c.args.r c.self.view_is)) c.requires

pub returns-clause-column : goal.returns-clause-column
returns-clause-column g c = c.after_in.ensures ∙ ap (key_after (same c.args.c)) (row_of c.self.inside.rows c.args.self.now c.args.r c.self.view_is)
