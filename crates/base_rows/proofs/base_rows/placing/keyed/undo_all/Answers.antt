use Rattle.std.proofs.Common.{List, sym, ap, ◌∙◌}
use Rattle.elem.specs.declared.elements.Elem.{Elem}
use Rattle.base_rows.specs.Journals.{all_undone}
use Rattle.base_rows.proofs.JournalLemmas.{all_undone-push}
use Rattle.base_rows.proofs.base_rows.placing.keyed.undo_all.Goals as goal

pub loop-k-preserved : goal.loop-k-preserved
loop-k-preserved g c =
    ap (λ (rows : List (Elem × g.row.V.Denot)). all_undone rows c.pop.new.self.items) c.undo.ensures
    ∙ sym (all_undone-push (g.K.Keyed.rows c.loop-k.rows) c.pop.new.self.items (c.in-Some.k, c.in-Some.before))
    ∙ sym (ap (all_undone (g.K.Keyed.rows c.loop-k.rows)) c.in-Some.ensures.items)
    ∙ c.loop-k.invariant
