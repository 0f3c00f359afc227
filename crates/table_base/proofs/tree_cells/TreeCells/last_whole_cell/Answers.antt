use Rattle.std.proofs.Common.{sym, ap, ◌∙◌}
use Rattle.elem.specs.Rows.{last_key}
use Rattle.table_base.specs.Cells.{by_spot}
use Rattle.table_base.proofs.SpotsThere.{spots_are, last_spot_there}
use Rattle.table_base.proofs.tree_cells.TreeCells.last_whole_cell.Goals as goal

pub cell_of-requires : goal.cell_of-requires
cell_of-requires g c x e = last_spot_there c.args.self.now x (sym (c.last_both.ensures ∙ ap (last_key) (spots_are c.self.inside.rows) ∙ ap (λ l. last_key (by_spot l)) c.self.view_is) ∙ e)

pub returns-clause-spot : goal.returns-clause-spot
returns-clause-spot g c = c.cell_of.ensures.spot ∙ c.last_both.ensures ∙ ap (last_key) (spots_are c.self.inside.rows) ∙ ap (λ l. last_key (by_spot l)) c.self.view_is
