use Rattle.std.proofs.Common.{◌∷◌, [], ◌∙◌, sym}
use Rattle.base_store.specs.contracts.store.Slot.{the_view}
use Rattle.view_steps.proofs.CallLemmas.{takes_one}
use Rattle.view_steps.proofs.EditedRows.{edited_adding}
use Rattle.base_rows.proofs.KeyedRows.{known_rows}
use Rattle.base_store.proofs.store.Slot.place.Goals as goal

pub returns-clause-ok : goal.returns-clause-ok
returns-clause-ok c d =
    rw (d.raised_if-self-inside.ensures, d.in_ok-changed.ensures.structural, d.in_ok-changed.ensures.ok, d.in_ok-changed.ensures.kind, ← d.self.view_is)
    (sym (edited_adding (the_view d.self.inside) (known_rows d.self.inside.rows) d.args.spot (d.args.row.now ∷ [])))

pub returns-clause-taken : goal.returns-clause-taken
returns-clause-taken c d = rw (← d.self.view_is) (takes_one (the_view d.self.inside) d.args.spot d.args.row.now ∙ d.in_ok-changed.ensures.taken)
