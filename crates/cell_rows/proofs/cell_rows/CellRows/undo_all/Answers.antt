use Rattle.std.proofs.Common.{sym, ap, ◌∙◌}
use Rattle.cell_rows.specs.CellRows.{cells_of}
use Rattle.cell_rows.specs.Journals.{all_undone}
use Rattle.cell_rows.proofs.PutLemmas.{all_undone-push}
use Rattle.cell_rows.proofs.cell_rows.CellRows.undo_all.Goals as goal

pub loop-entry-preserved : goal.loop-entry-preserved
loop-entry-preserved g c = record {
  kind = c.undo.ensures.kind ∙ c.loop-entry.invariant.kind;
  cells =
      ap (λ cells. all_undone cells c.pop.new.self.items) c.undo.ensures.cells
      ∙ sym (all_undone-push (cells_of c.loop-entry.self) c.pop.new.self.items c.in-Some.entry)
      ∙ sym (ap (all_undone (cells_of c.loop-entry.self)) c.in-Some.ensures.items)
      ∙ c.loop-entry.invariant.cells;
}
