use Rattle.std.proofs.Common.{sym, ap, ◌∙◌, subst}
use Rattle.elem.specs.Keyed.{IsPresent}
use Rattle.elem.specs.Rows.{key_before}
use Rattle.table_base.specs.Cells.{is_spot, by_spot}
use Rattle.table_base.proofs.SpotsThere.{spots_are, before_spot_there}
use Rattle.table_base.proofs.TurnedCells.{row_of}
use Rattle.table_base.proofs.tree_cells.TreeCells.whole_cell_before.Goals as goal

pub before_both-requires : goal.before_both-requires
before_both-requires g c = subst (λ l. IsPresent l c.args.c) (sym (row_of c.self.inside.rows c.args.self.now c.args.r c.self.view_is)) c.requires

pub cell_of-requires : goal.cell_of-requires
cell_of-requires g c x e = before_spot_there (is_spot c.args.r c.args.c) c.args.self.now x (sym (c.before_both.ensures ∙ ap (key_before (is_spot c.args.r c.args.c)) (spots_are c.self.inside.rows) ∙ ap (λ l. key_before (is_spot c.args.r c.args.c) (by_spot l)) c.self.view_is) ∙ e)

pub returns-clause-spot : goal.returns-clause-spot
returns-clause-spot g c = c.cell_of.ensures.spot ∙ c.before_both.ensures ∙ ap (key_before (is_spot c.args.r c.args.c)) (spots_are c.self.inside.rows) ∙ ap (λ l. key_before (is_spot c.args.r c.args.c) (by_spot l)) c.self.view_is
