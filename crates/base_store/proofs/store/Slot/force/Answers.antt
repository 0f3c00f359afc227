use Rattle.std.proofs.Common.{◌∷◌, [], refl, sym}
use Rattle.machine.specs.CallEdits.{forcing_at}
use Rattle.base_rows.specs.BaseRows.{rows_of}
use Rattle.base_store.specs.contracts.store.Slot.{the_view}
use Rattle.view_steps.proofs.EditedRows.{edited_rows}
use Rattle.base_rows.proofs.KeyedRows.{known_rows}
use Rattle.base_store.proofs.store.Slot.force.Goals as goal

pub returns-clause-ok : goal.returns-clause-ok
returns-clause-ok c d =
    rw (d.raised_if-self-inside.ensures, d.in_ok-changed.ensures.structural, d.in_ok-changed.ensures.ok, d.in_ok-changed.ensures.kind, ← d.self.view_is)
    (sym (edited_rows (the_view d.self.inside) (known_rows d.self.inside.rows) (forcing_at d.args.spot (rows_of d.self.inside.rows) (d.args.row.now ∷ [])) _ _ refl refl))
