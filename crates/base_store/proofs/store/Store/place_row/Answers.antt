use Rattle.std.proofs.Common.{◌∷◌, [], ◌∙◌, sym, arith}
use Rattle.machine.specs.Edits.{adding}
use Rattle.machine.specs.Bases.{base_at}
use Rattle.base_store.specs.Stored.{Stored}
use Rattle.base_store.proofs.BuiltLemmas.{sound_edited}
use Rattle.base_store.proofs.RoomLemmas.{full_fault, row_fits, row_grows, row_too_many}
use Rattle.view_steps.proofs.CallLemmas.{takes_one}
use Rattle.base_store.proofs.store.Store.place_row.Goals as goal

pub returns-then-is_full-clause-cause : goal.returns-then-is_full-clause-cause
returns-then-is_full-clause-cause c d =
    let lt = rw (← d.self.view_is, ← d.number-at.ensures) at d.requires.base in
    let spot = rw (← d.self.view_is, ← d.number-at.ensures) at d.requires.spot in
    let fits = rw (← d.self.view_is, ← d.number-at.ensures) at d.requires.fits in
    let fit = rw (← d.self.view_is, ← d.number-at.ensures) at d.rows_fit.ensures in
    let full = rw (d.as_slice-2.ensures.value, d.self.invariant.counted) at (sym d.is_full.ensures.full ∙ d.if-is_full.true) in
    let refused = rw d.as_slice-then-is_full.ensures.value at d.full_refusal.ensures.refused in
    let limit = rw d.as_slice-then-is_full.ensures.value at d.full_refusal.ensures.full in
    rw (← d.self.view_is, ← d.number-at.ensures) (full_fault d.self.inside.slots.items d.number-at.result (adding d.args.spot (d.args.row.now ∷ [])) d.full_refusal.result (row_too_many d.self.inside.slots.items d.number-at.result (d.self.invariant.built.kinds d.number-at.result) d.args.spot d.args.row.now lt fit fits spot full) refused limit)

pub overflow_sub-self : goal.overflow_sub-self
overflow_sub-self c d =
    let s : Stored = record { world = d.self.inside.slots.items; nodes = d.self.inside.nodes.made; lasting = d.self.inside.nodes.lasting; handles = d.self.inside.handles } in
    let lt = rw (← d.self.view_is, ← d.number-at.ensures) at d.requires.base in
    let spot = rw (← d.self.view_is, ← d.number-at.ensures) at d.requires.spot in
    let fits = rw (← d.self.view_is, ← d.number-at.ensures) at d.requires.fits in
    let fit = rw (← d.self.view_is, ← d.number-at.ensures) at d.rows_fit.ensures in
    let was = rw d.as_slice.ensures.value at d.rows_at-before.ensures in
    let is = rw (d.as_slice-in-Ok.ensures.value, d.in-Ok.ensures.ok) at d.rows_at-after.ensures in
    let full = rw d.as_slice-2.ensures.value at (sym d.is_full.ensures.full ∙ d.if-is_full.false) in
    let room = row_fits (base_at d.self.inside.slots.items d.number-at.result) (d.self.invariant.built.kinds d.number-at.result) d.args.spot d.args.row.now fit fits spot d.self.inside.rows d.self.invariant.few full d.in-Ok.ensures.keys in
    let h = sound_edited s d.self.inside.rows d.number-at.result d.rows_at-before.result d.rows_at-after.result (adding d.args.spot (d.args.row.now ∷ [])) d.self.invariant lt d.in-Ok.ensures.keys was is room in
    h.0

pub overflow_add-self : goal.overflow_add-self
overflow_add-self c d =
    let s : Stored = record { world = d.self.inside.slots.items; nodes = d.self.inside.nodes.made; lasting = d.self.inside.nodes.lasting; handles = d.self.inside.handles } in
    let lt = rw (← d.self.view_is, ← d.number-at.ensures) at d.requires.base in
    let spot = rw (← d.self.view_is, ← d.number-at.ensures) at d.requires.spot in
    let fits = rw (← d.self.view_is, ← d.number-at.ensures) at d.requires.fits in
    let fit = rw (← d.self.view_is, ← d.number-at.ensures) at d.rows_fit.ensures in
    let was = rw d.as_slice.ensures.value at d.rows_at-before.ensures in
    let is = rw (d.as_slice-in-Ok.ensures.value, d.in-Ok.ensures.ok) at d.rows_at-after.ensures in
    let full = rw d.as_slice-2.ensures.value at (sym d.is_full.ensures.full ∙ d.if-is_full.false) in
    let room = row_fits (base_at d.self.inside.slots.items d.number-at.result) (d.self.invariant.built.kinds d.number-at.result) d.args.spot d.args.row.now fit fits spot d.self.inside.rows d.self.invariant.few full d.in-Ok.ensures.keys in
    let h = sound_edited s d.self.inside.rows d.number-at.result d.rows_at-before.result d.rows_at-after.result (adding d.args.spot (d.args.row.now ∷ [])) d.self.invariant lt d.in-Ok.ensures.keys was is room in
    omega (arith, h.1.few)

pub invariant_of-self-in-Ok : goal.invariant_of-self-in-Ok
invariant_of-self-in-Ok c d =
    let s : Stored = record { world = d.self.inside.slots.items; nodes = d.self.inside.nodes.made; lasting = d.self.inside.nodes.lasting; handles = d.self.inside.handles } in
    let lt = rw (← d.self.view_is, ← d.number-at.ensures) at d.requires.base in
    let spot = rw (← d.self.view_is, ← d.number-at.ensures) at d.requires.spot in
    let fits = rw (← d.self.view_is, ← d.number-at.ensures) at d.requires.fits in
    let fit = rw (← d.self.view_is, ← d.number-at.ensures) at d.rows_fit.ensures in
    let was = rw d.as_slice.ensures.value at d.rows_at-before.ensures in
    let is = rw (d.as_slice-in-Ok.ensures.value, d.in-Ok.ensures.ok) at d.rows_at-after.ensures in
    let full = rw d.as_slice-2.ensures.value at (sym d.is_full.ensures.full ∙ d.if-is_full.false) in
    let room = row_fits (base_at d.self.inside.slots.items d.number-at.result) (d.self.invariant.built.kinds d.number-at.result) d.args.spot d.args.row.now fit fits spot d.self.inside.rows d.self.invariant.few full d.in-Ok.ensures.keys in
    let h = sound_edited s d.self.inside.rows d.number-at.result d.rows_at-before.result d.rows_at-after.result (adding d.args.spot (d.args.row.now ∷ [])) d.self.invariant lt d.in-Ok.ensures.keys was is room in
    rw d.in-Ok.ensures.ok h.1

pub returns-in-Ok-clause-few : goal.returns-in-Ok-clause-few
returns-in-Ok-clause-few c d =
    let s : Stored = record { world = d.self.inside.slots.items; nodes = d.self.inside.nodes.made; lasting = d.self.inside.nodes.lasting; handles = d.self.inside.handles } in
    let lt = rw (← d.self.view_is, ← d.number-at.ensures) at d.requires.base in
    let spot = rw (← d.self.view_is, ← d.number-at.ensures) at d.requires.spot in
    let fits = rw (← d.self.view_is, ← d.number-at.ensures) at d.requires.fits in
    let fit = rw (← d.self.view_is, ← d.number-at.ensures) at d.rows_fit.ensures in
    let was = rw d.as_slice.ensures.value at d.rows_at-before.ensures in
    let is = rw (d.as_slice-in-Ok.ensures.value, d.in-Ok.ensures.ok) at d.rows_at-after.ensures in
    let full = rw d.as_slice-2.ensures.value at (sym d.is_full.ensures.full ∙ d.if-is_full.false) in
    let room = row_fits (base_at d.self.inside.slots.items d.number-at.result) (d.self.invariant.built.kinds d.number-at.result) d.args.spot d.args.row.now fit fits spot d.self.inside.rows d.self.invariant.few full d.in-Ok.ensures.keys in
    let h = sound_edited s d.self.inside.rows d.number-at.result d.rows_at-before.result d.rows_at-after.result (adding d.args.spot (d.args.row.now ∷ [])) d.self.invariant lt d.in-Ok.ensures.keys was is room in
    rw d.in-Ok.ensures.ok (omega (arith, h.1.counted, h.1.few))

pub returns-in-Err-Refused-clause-cause : goal.returns-in-Err-Refused-clause-cause
returns-in-Err-Refused-clause-cause c d =
    rw (← d.self.view_is, ← d.number-at.ensures) (takes_one (base_at d.self.inside.slots.items d.number-at.result) d.args.spot d.args.row.now ∙ rw d.in-Err-Refused.field-0-is at d.in-Err-Refused.ensures.cause)

pub returns-in-Err-NoMemory-clause-memory : goal.returns-in-Err-NoMemory-clause-memory
returns-in-Err-NoMemory-clause-memory c d = λ _ other.
    let lt = rw (← d.self.view_is, ← d.number-at.ensures) at d.requires.base in
    let spot = rw (← d.self.view_is, ← d.number-at.ensures) at d.requires.spot in
    let fits = rw (← d.self.view_is, ← d.number-at.ensures) at d.requires.fits in
    let fit = rw (← d.self.view_is, ← d.number-at.ensures) at d.rows_fit.ensures in
    let full = rw (d.as_slice-2.ensures.value, d.self.invariant.counted) at (sym d.is_full.ensures.full ∙ d.if-is_full.false) in
    let want = rw d.in-Err-NoMemory.field-0-is at d.in-Err-NoMemory.ensures.cause in
    let more = want.1 (rw (← d.self.view_is, ← d.number-at.ensures) at other) in
    rw (← d.self.view_is, ← d.number-at.ensures) (row_grows d.self.inside.slots.items d.number-at.result (d.self.invariant.built.kinds d.number-at.result) d.args.spot d.args.row.now lt fit fits spot (rw d.self.invariant.counted at d.self.invariant.few) full more)
