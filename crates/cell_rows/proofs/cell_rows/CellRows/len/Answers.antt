use Rattle.std.proofs.Common.{sym, subst}
use Rattle.cell_rows.specs.declared.cell_rows.CellRows.{CellRows}
use Rattle.cell_rows.specs.CellRows.{rows_of}
use Rattle.cell_rows.specs.CellSpots.{HaveOwnSpots}
use Rattle.cell_rows.proofs.Apart.{apart_linked, apart_sorted}
use Rattle.cell_rows.proofs.cell_rows.CellRows.len.Goals as goal

pub returns-in-Linked-clause-spots : goal.returns-in-Linked-clause-spots
returns-in-Linked-clause-spots c = subst (λ (self : CellRows). HaveOwnSpots (rows_of self)) (sym c.in-Linked.is) (apart_linked c.in-Linked.table.cells.cells c.len.ensures.distinct)

pub returns-in-Sorted-clause-spots : goal.returns-in-Sorted-clause-spots
returns-in-Sorted-clause-spots c = subst (λ (self : CellRows). HaveOwnSpots (rows_of self)) (sym c.in-Sorted.is) (apart_sorted c.in-Sorted.table c.len-in-Sorted.ensures.order)
