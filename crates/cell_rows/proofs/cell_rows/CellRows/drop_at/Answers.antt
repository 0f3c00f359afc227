use Rattle.std.proofs.Common.{refl, sym, ap, ◌∙◌, arith}
use Rattle.view_laws.specs.declared.places.RowSpot.{RowSpot}
use Rattle.view_laws.specs.Spots.{same_spot}
use Rattle.cell_rows.specs.CellRows.{cells_of, items, rows_of}
use Rattle.cell_rows.specs.CellSpots.{cell_spot}
use Rattle.cell_rows.specs.Reaches.{but}
use Rattle.cell_rows.proofs.DropLemmas.{cell_gone, cell_kept, no_cell_gone, no_spot_gone}
use Rattle.cell_rows.proofs.cell_rows.CellRows.drop_at.Goals as goal

pub returns-in_default : goal.returns-in_default
returns-in_default g c = record { kind = refl; rows = no_spot_gone (g.T.RowTest.passes c.args.test.now) c.args.at.now (rows_of c.args.self.now) c.in_default.not-Cell; steps = omega arith }

pub returns-then-test-clause-rows : goal.returns-then-test-clause-rows
returns-then-test-clause-rows g c =
    let passes = g.T.RowTest.passes c.args.test.now in
    let cells = cells_of c.args.self.now in
    ap items c.remove_cell.ensures.cells
    ∙ cell_gone c.in-Cell.r c.in-Cell.c passes c.in-Some.v cells c.len-len.ensures.spots (sym c.value_at.ensures.value ∙ c.in-Some.is) (sym c.test.ensures ∙ c.if-test.true)
    ∙ ap (λ (s : RowSpot). but passes (λ row. same_spot s (cell_spot row)) (items cells)) (sym c.in-Cell.is)

pub returns-else-test-clause-rows : goal.returns-else-test-clause-rows
returns-else-test-clause-rows g c =
    let passes = g.T.RowTest.passes c.args.test.now in
    let cells = cells_of c.args.self.now in
    cell_kept c.in-Cell.r c.in-Cell.c passes c.in-Some.v cells c.len-len.ensures.spots (sym c.value_at.ensures.value ∙ c.in-Some.is) (sym c.test.ensures ∙ c.if-test.false)
    ∙ ap (λ (s : RowSpot). but passes (λ row. same_spot s (cell_spot row)) (items cells)) (sym c.in-Cell.is)

pub returns-in_default-value_at-clause-rows : goal.returns-in_default-value_at-clause-rows
returns-in_default-value_at-clause-rows g c =
    let passes = g.T.RowTest.passes c.args.test.now in
    let cells = cells_of c.args.self.now in
    no_cell_gone c.in-Cell.r c.in-Cell.c passes cells (sym c.value_at.ensures.value ∙ c.in_default-value_at.is)
    ∙ ap (λ (s : RowSpot). but passes (λ row. same_spot s (cell_spot row)) (items cells)) (sym c.in-Cell.is)
