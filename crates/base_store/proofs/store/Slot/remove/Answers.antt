use Rattle.std.proofs.Common.{sym}
use Rattle.base_store.specs.contracts.store.Slot.{the_view}
use Rattle.view_steps.proofs.EditedRows.{edited_removing}
use Rattle.base_rows.proofs.KeyedRows.{known_rows}
use Rattle.base_store.proofs.store.Slot.remove.Goals as goal

pub returns-clause-after : goal.returns-clause-after
returns-clause-after c d = λ numbers at.
    let gone = d.remove.ensures.rows numbers (rw (← d.self.view_is) at at) in
    rw (d.raised-self-inside.ensures, d.len-before.ensures.len, d.len-after.ensures.len, gone, d.remove.ensures.kind, ← d.self.view_is)
    (sym (edited_removing (the_view d.self.inside) (known_rows d.self.inside.rows) numbers))
