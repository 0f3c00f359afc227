use Rattle.std.proofs.Common.{sym}
use Rattle.base_rows.specs.BaseRows.{rows_of}
use Rattle.base_store.specs.contracts.store.Slot.{the_view}
use Rattle.view_steps.proofs.EditedRows.{adding_counted, without_none}
use Rattle.base_rows.proofs.KeyedRows.{known_rows}
use Rattle.base_store.proofs.store.Slot.place_all.Goals as goal

pub returns-in-Err-clause-cause : goal.returns-in-Err-clause-cause
returns-in-Err-clause-cause c d = rw (← d.self.view_is, without_none 0 (rows_of d.self.inside.rows)) d.in-Err.ensures.cause

pub returns-in-Ok-clause-ok : goal.returns-in-Ok-clause-ok
returns-in-Ok-clause-ok c d =
    rw (d.raised-self-inside.ensures, d.len-before.ensures.len, d.len-after.ensures.len, d.in-Ok.ensures.ok, d.in-Ok.ensures.kind, ← d.self.view_is)
    (sym (adding_counted (the_view d.self.inside) (known_rows d.self.inside.rows) (rw (← d.self.view_is) at d.requires.other) d.args.spot d.args.rows.now))
