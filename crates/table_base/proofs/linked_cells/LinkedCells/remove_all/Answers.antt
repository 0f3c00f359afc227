use Rattle.std.proofs.Common.{◌≡◌, length, refl, sym, ap, ◌∙◌, arith}
use Rattle.table_base.specs.Cells.{Table, row, without_row}
use Rattle.table_base.specs.CellNodes.{seen}
use Rattle.table_base.proofs.RemovedCells.{one_fewer, others_stay, row_gone, no_first}
use Rattle.table_base.proofs.linked_cells.LinkedCells.remove_all.Goals as goal
use Rattle.table_base.proofs.linked_cells.LinkedCells.remove_all.Goals.{in-Some, in_default}

pub loop-step-init : goal.loop-step-init
loop-step-init c = let count = c.count_in-count.ensures in record { others = refl; fewer = omega arith; kind = refl }

pub loop-step-preserved : goal.loop-step-preserved
loop-step-preserved c =
    let k = c.args.k.now in
    let cells = seen c.args.side c.loop-step.self.cells in
    elim c.match-first_in.branch [
      | in-Some w ↦
          let whole = ap (λ (t : Table). seen c.args.side t.cells) w.self-is ∙ w.take_from.ensures.cells in
          let one = one_fewer k w.in-Some.x cells (sym c.first_in.ensures.column ∙ w.in-Some.is) c.first_in.ensures.distinct in
          let now = ap (λ l. length (row k l)) whole in
          let before = c.loop-step.invariant.fewer in
          record {
            others = ap (without_row k) whole ∙ others_stay k w.in-Some.x cells ∙ c.loop-step.invariant.others;
            fewer = omega arith;
            kind = ap (λ (t : Table). t.loose) w.self-is ∙ w.take_from.ensures.kind ∙ c.loop-step.invariant.kind;
          }
      | in_default w ↦
          let none = no_first k cells (sym c.first_in.ensures.column ∙ w.in_default.is) in
          let before = c.loop-step.invariant.fewer in
          absurd (omega arith)
    ]

pub returns-clause-cells : goal.returns-clause-cells
returns-clause-cells c =
    let k = c.args.k.now in
    let cells = seen c.args.side c.loop-step.self.cells in
    let before = c.loop-step.invariant.fewer in
    let none : length (row k cells) ≡ 0 = omega arith in
    sym (row_gone k cells none) ∙ c.loop-step.invariant.others
