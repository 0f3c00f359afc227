use Rattle.std.proofs.Common.{ap, ◌∙◌}
use Rattle.elem.specs.Keyed.{value_at}
use Rattle.table_base.proofs.TurnedCells.{row_of}
use Rattle.table_base.proofs.tree_cells.TreeCells.get.Goals as goal

pub returns-clause-value : goal.returns-clause-value
returns-clause-value g c = c.get.ensures ∙ ap (λ l. value_at l c.args.c) (row_of c.self.inside.rows c.args.self.now c.args.r c.self.view_is)
