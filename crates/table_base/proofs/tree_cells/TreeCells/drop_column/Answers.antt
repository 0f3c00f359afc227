use Rattle.std.proofs.Common.{◌≡◌, length, refl, sym, ap, ◌∙◌, arith}
use Rattle.table_base.specs.Cells.{row, transposed, without_row}
use Rattle.table_base.proofs.RemovedCells.{turned_without, column_removed, one_fewer, others_stay, row_gone, no_first}
use Rattle.table_base.proofs.tree_cells.TreeCells.drop_column.Goals.{in-Some, in_default}
use Rattle.table_base.proofs.tree_cells.TreeCells.drop_column.Goals as goal

pub loop-step-init : goal.loop-step-init
loop-step-init c = let count = c.count_of_column-count.ensures in record { others = refl; fewer = omega arith }

pub loop-step-preserved : goal.loop-step-preserved
loop-step-preserved c =
    let k = c.args.c.now in
    let cells = transposed c.loop-step.self in
    elim c.match-first_of_column.branch [
      | in-Some w ↦
          let whole = ap transposed (w.self-is ∙ w.take.ensures.cells) ∙ turned_without w.in-Some.r k c.loop-step.self in
          let one = one_fewer k w.in-Some.r cells (sym c.first_of_column.ensures.row ∙ w.in-Some.is) c.first_of_column.ensures.distinct in
          let now = ap (λ l. length (row k l)) whole in
          let before = c.loop-step.invariant.fewer in
          record { others = ap (without_row k) whole ∙ others_stay k w.in-Some.r cells ∙ c.loop-step.invariant.others; fewer = omega arith }
      | in_default w ↦
          let none = no_first k cells (sym c.first_of_column.ensures.row ∙ w.in_default.is) in
          let before = c.loop-step.invariant.fewer in
          absurd (omega arith)
    ]

pub returns-clause-cells : goal.returns-clause-cells
returns-clause-cells c =
    let k = c.args.c.now in
    let before = c.loop-step.invariant.fewer in
    let none : length (row k (transposed c.loop-step.self)) ≡ 0 = omega arith in
    column_removed k c.args.self.now c.loop-step.self (sym (row_gone k (transposed c.loop-step.self) none) ∙ c.loop-step.invariant.others)
