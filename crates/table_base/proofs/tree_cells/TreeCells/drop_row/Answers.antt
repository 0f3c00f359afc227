use Rattle.std.proofs.Common.{◌≡◌, length, refl, sym, ap, ◌∙◌, arith}
use Rattle.table_base.specs.Cells.{row, without_row}
use Rattle.table_base.proofs.RemovedCells.{one_fewer, others_stay, row_gone, no_first}
use Rattle.table_base.proofs.TurnedCells.{row_of}
use Rattle.table_base.proofs.tree_cells.TreeCells.drop_row.Goals.{in-Some, in_default}
use Rattle.table_base.proofs.tree_cells.TreeCells.drop_row.Goals as goal

pub loop-step-init : goal.loop-step-init
loop-step-init c = let count = c.count_of-count.ensures ∙ ap length (row_of c.self.inside.rows c.args.self.now c.args.r.now c.self.view_is) in record { others = refl; fewer = omega arith }

pub loop-step-preserved : goal.loop-step-preserved
loop-step-preserved c =
    let k = c.args.r.now in
    let cells = c.loop-step.self in
    elim c.match-first_of_row.branch [
      | in-Some w ↦
          let whole = w.self-is ∙ w.take.ensures.cells in
          let one = one_fewer k w.in-Some.c cells (sym c.first_of_row.ensures.column ∙ w.in-Some.is) c.first_of_row.ensures.distinct in
          let now = ap (λ l. length (row k l)) whole in
          let before = c.loop-step.invariant.fewer in
          record { others = ap (without_row k) whole ∙ others_stay k w.in-Some.c cells ∙ c.loop-step.invariant.others; fewer = omega arith }
      | in_default w ↦
          let none = no_first k cells (sym c.first_of_row.ensures.column ∙ w.in_default.is) in
          let before = c.loop-step.invariant.fewer in
          absurd (omega arith)
    ]

pub returns-clause-answer : goal.returns-clause-answer
returns-clause-answer c = c.count_of-count.ensures ∙ ap length (row_of c.self.inside.rows c.args.self.now c.args.r.now c.self.view_is)

pub returns-clause-cells : goal.returns-clause-cells
returns-clause-cells c =
    let before = c.loop-step.invariant.fewer in
    let none : length (row c.args.r.now c.loop-step.self) ≡ 0 = omega arith in
    sym (row_gone c.args.r.now c.loop-step.self none) ∙ c.loop-step.invariant.others
