use Rattle.std.proofs.Common.{arith, refl}
use Rattle.machine.specs.Edits.{adding}
use Rattle.base_store.specs.Stored.{Stored}
use Rattle.base_store.proofs.BuiltLemmas.{sound_edited}
use Rattle.base_store.proofs.store.Store.place_rows.Goals as goal
use Rattle.view_steps.proofs.EditedRows.{limit_cause}

pub overflow_sub-self : goal.overflow_sub-self
overflow_sub-self c d =
    let s : Stored = record { world = d.self.inside.slots.items; nodes = d.self.inside.nodes.made; lasting = d.self.inside.nodes.lasting; handles = d.self.inside.handles } in
    let lt = rw (← d.self.view_is, ← d.number-at.ensures) at d.requires.base in
    let was = rw d.as_slice.ensures.value at d.rows_at-before.ensures in
    let is = rw (d.as_slice-in-Ok.ensures.value, d.in-Ok.ensures.ok) at d.rows_at-after.ensures in
    let h = sound_edited s d.self.inside.rows d.number-at.result d.rows_at-before.result d.rows_at-after.result (adding d.args.spot d.args.rows.now) d.self.invariant lt d.in-Ok.ensures.keys was is (omega (arith, d.in-Ok.ensures.few, d.self.invariant.few)) in
    h.0

pub invariant_of-self-in-Ok : goal.invariant_of-self-in-Ok
invariant_of-self-in-Ok c d =
    let s : Stored = record { world = d.self.inside.slots.items; nodes = d.self.inside.nodes.made; lasting = d.self.inside.nodes.lasting; handles = d.self.inside.handles } in
    let lt = rw (← d.self.view_is, ← d.number-at.ensures) at d.requires.base in
    let was = rw d.as_slice.ensures.value at d.rows_at-before.ensures in
    let is = rw (d.as_slice-in-Ok.ensures.value, d.in-Ok.ensures.ok) at d.rows_at-after.ensures in
    let h = sound_edited s d.self.inside.rows d.number-at.result d.rows_at-before.result d.rows_at-after.result (adding d.args.spot d.args.rows.now) d.self.invariant lt d.in-Ok.ensures.keys was is (omega (arith, d.in-Ok.ensures.few, d.self.invariant.few)) in
    rw d.in-Ok.ensures.ok h.1

pub returns-in-Err-clause-cause : goal.returns-in-Err-clause-cause
returns-in-Err-clause-cause c d =
    let lt = rw (← d.self.view_is, ← d.number-at.ensures) at d.requires.base in
    rw (← d.self.view_is, ← d.number-at.ensures) (limit_cause d.self.inside.slots.items d.number-at.result (d.self.invariant.built.kinds d.number-at.result) _ (adding d.args.spot d.args.rows.now) d.in-Err.why lt (omega (arith, d.self.invariant.few, d.self.invariant.counted)) d.in-Err.ensures.cause)

pub returns-in-Ok-clause-ok : goal.returns-in-Ok-clause-ok
returns-in-Ok-clause-ok c d = rw (← d.self.view_is, d.in-Ok.ensures.ok, d.number-at.ensures) refl

pub returns-in-Ok-clause-few : goal.returns-in-Ok-clause-few
returns-in-Ok-clause-few c d =
    let s : Stored = record { world = d.self.inside.slots.items; nodes = d.self.inside.nodes.made; lasting = d.self.inside.nodes.lasting; handles = d.self.inside.handles } in
    let lt = rw (← d.self.view_is, ← d.number-at.ensures) at d.requires.base in
    let was = rw d.as_slice.ensures.value at d.rows_at-before.ensures in
    let is = rw (d.as_slice-in-Ok.ensures.value, d.in-Ok.ensures.ok) at d.rows_at-after.ensures in
    let h = sound_edited s d.self.inside.rows d.number-at.result d.rows_at-before.result d.rows_at-after.result (adding d.args.spot d.args.rows.now) d.self.invariant lt d.in-Ok.ensures.keys was is (omega (arith, d.in-Ok.ensures.few, d.self.invariant.few)) in
    rw d.in-Ok.ensures.ok (omega (arith, h.1.counted, h.1.few))
