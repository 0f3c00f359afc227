use Rattle.std.proofs.Common.{sym, ap, ◌∙◌, subst}
use Rattle.elem.specs.Keyed.{value_at}
use Rattle.plain_base.specs.TwoKeys.{without_both}
use Rattle.table_base.specs.TreeCells.{AreTurned}
use Rattle.table_base.proofs.TurnedCells.{row_of, turned_without_cell}
use Rattle.table_base.proofs.tree_cells.TreeCells.take.Goals as goal

pub invariant_of-self : goal.invariant_of-self
invariant_of-self c =
    let rows = c.self.inside.rows in
    let columns = c.self.inside.columns in
    let r = c.args.r.now in
    let x = c.args.c.now in
    subst (λ cells. AreTurned cells c.remove.new.self) (sym c.remove-value.ensures.rows)
    (subst (AreTurned (without_both r x rows)) (sym c.remove.ensures.rows) (turned_without_cell rows columns r x c.self.invariant))

pub returns-clause-value : goal.returns-clause-value
returns-clause-value c = c.remove-value.ensures.value ∙ ap (λ l. value_at l c.args.c.now) (row_of c.self.inside.rows c.args.self.now c.args.r.now c.self.view_is)
