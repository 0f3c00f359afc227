use Rattle.std.proofs.Common.{Option, sym, ap, ◌∙◌}
use Rattle.elem.specs.declared.elements.Elem.{Elem}
use Rattle.cell_rows.specs.CellRows.{cells_of}
use Rattle.cell_rows.specs.Journals.{undone}
use Rattle.cell_rows.proofs.PutLemmas.{none_there, nothing_undone}
use Rattle.cell_rows.proofs.cell_rows.CellRows.undo.Goals as goal

pub returns-else-is_some-clause-cells : goal.returns-else-is_some-clause-cells
returns-else-is_some-clause-cells g c =
    let cells = cells_of c.args.self.now in
    let entry = c.args.entry.now in
    nothing_undone cells entry.row entry.column c.in-Some.value (sym c.value_at.ensures.value ∙ none_there c.value_at.result (sym c.is_some.ensures ∙ c.if-is_some.false))
    ∙ ap (λ (before : Option Elem). undone cells entry.row entry.column before) (sym c.in-Some.is)
