use Rattle.std.proofs.Common.{Option, sym, ap, ◌∙◌}
use Rattle.base_rows.specs.Journals.{undone}
use Rattle.base_rows.proofs.JournalLemmas.{with_value-absent, none_there}
use Rattle.base_rows.proofs.base_rows.placing.keyed.undo.Goals as goal

pub returns-else-is_some : goal.returns-else-is_some
returns-else-is_some g c =
    let absent = sym c.probe.ensures.value ∙ none_there c.probe.result (sym c.is_some.ensures ∙ c.if-is_some.false) in
    sym (ap (λ (before : Option g.row.V.Denot). undone (g.K.Keyed.rows c.args.rows.now) c.args.k.now before) c.in-Some.is ∙ with_value-absent (g.K.Keyed.rows c.args.rows.now) c.args.k.now c.in-Some.v absent)
