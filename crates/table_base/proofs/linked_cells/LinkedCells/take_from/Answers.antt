use Rattle.std.proofs.Common.{◌≡◌, ◌∙◌, sym, ap, subst}
use Rattle.table_base.specs.Cells.{transposed, without_cell}
use Rattle.table_base.specs.CellNodes.{seen}
use Rattle.table_base.proofs.RemovedCells.{turned_without}
use Rattle.table_base.proofs.linked_cells.LinkedCells.take_from.Goals as goal

pub returns-in-Column-clause-cells : goal.returns-in-Column-clause-cells
returns-in-Column-clause-cells c =
    subst (λ s. seen s c.take-in-Column.new.self.cells ≡ without_cell c.args.k.now c.args.x.now (seen s c.args.self.now.cells)) (sym c.in-Column.is)
    (ap transposed c.take-in-Column.ensures.cells ∙ turned_without c.args.x.now c.args.k.now c.args.self.now.cells)
