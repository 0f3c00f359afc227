use Rattle.std.proofs.Common.{sym, ap, ◌∙◌, subst}
use Rattle.elem.specs.Elements.{same}
use Rattle.elem.specs.Keyed.{IsPresent}
use Rattle.elem.specs.Rows.{key_before}
use Rattle.table_base.proofs.TurnedCells.{row_of}
use Rattle.table_base.proofs.tree_cells.TreeCells.before_in_row.Goals as goal

pub before_in-requires : goal.before_in-requires
before_in-requires g c = subst (λ l. IsPresent l c.args.c) (sym (row_of c.self.inside.rows c.args.self.now c.args.r c.self.view_is)) c.requires

pub returns-clause-column : goal.returns-clause-column
returns-clause-column g c = c.before_in.ensures ∙ ap (key_before (same c.args.c)) (row_of c.self.inside.rows c.args.self.now c.args.r c.self.view_is)
