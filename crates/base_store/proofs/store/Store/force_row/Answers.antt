use Rattle.std.proofs.Common.{◌∷◌, [], ◌∙◌, sym, arith}
use Rattle.machine.specs.Bases.{base_at}
use Rattle.machine.specs.CallEdits.{forcing_at}
use Rattle.base_store.specs.Stored.{Stored}
use Rattle.base_store.proofs.BuiltLemmas.{sound_edited}
use Rattle.base_store.proofs.ForcedLemmas.{forced_fits, forced_taken, forced_too_many}
use Rattle.base_store.proofs.store.Store.force_row.Goals as goal

pub returns-then-is_full_for_forced-clause-taken : goal.returns-then-is_full_for_forced-clause-taken
returns-then-is_full_for_forced-clause-taken c d =
    let one = rw (← d.self.view_is, ← d.number-at.ensures) at d.requires.bimap in
    rw (← d.self.view_is, ← d.number-at.ensures) (forced_taken (base_at d.self.inside.slots.items d.number-at.result) (d.self.invariant.built.kinds d.number-at.result) one d.args.spot d.args.row.now)

pub returns-then-is_full_for_forced-clause-cause : goal.returns-then-is_full_for_forced-clause-cause
returns-then-is_full_for_forced-clause-cause c d =
    let lt = rw (← d.self.view_is, ← d.number-at.ensures) at d.requires.base in
    let spot = rw (← d.self.view_is, ← d.number-at.ensures) at d.requires.spot in
    let fits = rw (← d.self.view_is, ← d.number-at.ensures) at d.requires.fits in
    let fit = rw (← d.self.view_is, ← d.number-at.ensures) at d.rows_fit.ensures in
    let one = rw (← d.self.view_is, ← d.number-at.ensures) at d.requires.bimap in
    let full = rw (d.as_slice-2.ensures.value, d.self.invariant.counted) at (sym d.is_full_for_forced.ensures.full ∙ d.if-is_full_for_forced.true) in
    rw (← d.self.view_is, ← d.number-at.ensures) (forced_taken (base_at d.self.inside.slots.items d.number-at.result) (d.self.invariant.built.kinds d.number-at.result) one d.args.spot d.args.row.now, forced_too_many d.self.inside.slots.items d.number-at.result (d.self.invariant.built.kinds d.number-at.result) one d.args.spot d.args.row.now lt fit fits spot full)

pub overflow_sub-self : goal.overflow_sub-self
overflow_sub-self c d =
    let s : Stored = record { world = d.self.inside.slots.items; nodes = d.self.inside.nodes.made; lasting = d.self.inside.nodes.lasting; handles = d.self.inside.handles } in
    let lt = rw (← d.self.view_is, ← d.number-at.ensures) at d.requires.base in
    let spot = rw (← d.self.view_is, ← d.number-at.ensures) at d.requires.spot in
    let fits = rw (← d.self.view_is, ← d.number-at.ensures) at d.requires.fits in
    let fit = rw (← d.self.view_is, ← d.number-at.ensures) at d.rows_fit.ensures in
    let one = rw (← d.self.view_is, ← d.number-at.ensures) at d.requires.bimap in
    let was = rw d.as_slice.ensures.value at d.rows_at-before.ensures in
    let is = rw (d.as_slice-3.ensures.value, d.in-Ok.ensures.ok) at d.rows_at-after.ensures in
    let full = rw d.as_slice-2.ensures.value at (sym d.is_full_for_forced.ensures.full ∙ d.if-is_full_for_forced.false) in
    let room = forced_fits (base_at d.self.inside.slots.items d.number-at.result) (d.self.invariant.built.kinds d.number-at.result) one d.args.spot d.args.row.now fit fits spot d.self.inside.rows d.self.invariant.few full d.in-Ok.ensures.keys in
    let h = sound_edited s d.self.inside.rows d.number-at.result d.rows_at-before.result d.rows_at-after.result (forcing_at d.args.spot (base_at d.self.inside.slots.items d.number-at.result).rows (d.args.row.now ∷ [])) d.self.invariant lt d.in-Ok.ensures.keys was is room in
    h.0

pub overflow_add-self : goal.overflow_add-self
overflow_add-self c d =
    let s : Stored = record { world = d.self.inside.slots.items; nodes = d.self.inside.nodes.made; lasting = d.self.inside.nodes.lasting; handles = d.self.inside.handles } in
    let lt = rw (← d.self.view_is, ← d.number-at.ensures) at d.requires.base in
    let spot = rw (← d.self.view_is, ← d.number-at.ensures) at d.requires.spot in
    let fits = rw (← d.self.view_is, ← d.number-at.ensures) at d.requires.fits in
    let fit = rw (← d.self.view_is, ← d.number-at.ensures) at d.rows_fit.ensures in
    let one = rw (← d.self.view_is, ← d.number-at.ensures) at d.requires.bimap in
    let was = rw d.as_slice.ensures.value at d.rows_at-before.ensures in
    let is = rw (d.as_slice-3.ensures.value, d.in-Ok.ensures.ok) at d.rows_at-after.ensures in
    let full = rw d.as_slice-2.ensures.value at (sym d.is_full_for_forced.ensures.full ∙ d.if-is_full_for_forced.false) in
    let room = forced_fits (base_at d.self.inside.slots.items d.number-at.result) (d.self.invariant.built.kinds d.number-at.result) one d.args.spot d.args.row.now fit fits spot d.self.inside.rows d.self.invariant.few full d.in-Ok.ensures.keys in
    let h = sound_edited s d.self.inside.rows d.number-at.result d.rows_at-before.result d.rows_at-after.result (forcing_at d.args.spot (base_at d.self.inside.slots.items d.number-at.result).rows (d.args.row.now ∷ [])) d.self.invariant lt d.in-Ok.ensures.keys was is room in
    omega (arith, h.1.few)

pub invariant_of-self-2 : goal.invariant_of-self-2
invariant_of-self-2 c d =
    let s : Stored = record { world = d.self.inside.slots.items; nodes = d.self.inside.nodes.made; lasting = d.self.inside.nodes.lasting; handles = d.self.inside.handles } in
    let lt = rw (← d.self.view_is, ← d.number-at.ensures) at d.requires.base in
    let spot = rw (← d.self.view_is, ← d.number-at.ensures) at d.requires.spot in
    let fits = rw (← d.self.view_is, ← d.number-at.ensures) at d.requires.fits in
    let fit = rw (← d.self.view_is, ← d.number-at.ensures) at d.rows_fit.ensures in
    let one = rw (← d.self.view_is, ← d.number-at.ensures) at d.requires.bimap in
    let was = rw d.as_slice.ensures.value at d.rows_at-before.ensures in
    let is = rw (d.as_slice-3.ensures.value, d.in-Ok.ensures.ok) at d.rows_at-after.ensures in
    let full = rw d.as_slice-2.ensures.value at (sym d.is_full_for_forced.ensures.full ∙ d.if-is_full_for_forced.false) in
    let room = forced_fits (base_at d.self.inside.slots.items d.number-at.result) (d.self.invariant.built.kinds d.number-at.result) one d.args.spot d.args.row.now fit fits spot d.self.inside.rows d.self.invariant.few full d.in-Ok.ensures.keys in
    let h = sound_edited s d.self.inside.rows d.number-at.result d.rows_at-before.result d.rows_at-after.result (forcing_at d.args.spot (base_at d.self.inside.slots.items d.number-at.result).rows (d.args.row.now ∷ [])) d.self.invariant lt d.in-Ok.ensures.keys was is room in
    rw d.in-Ok.ensures.ok h.1

pub returns-clause-few : goal.returns-clause-few
returns-clause-few c d =
    let s : Stored = record { world = d.self.inside.slots.items; nodes = d.self.inside.nodes.made; lasting = d.self.inside.nodes.lasting; handles = d.self.inside.handles } in
    let lt = rw (← d.self.view_is, ← d.number-at.ensures) at d.requires.base in
    let spot = rw (← d.self.view_is, ← d.number-at.ensures) at d.requires.spot in
    let fits = rw (← d.self.view_is, ← d.number-at.ensures) at d.requires.fits in
    let fit = rw (← d.self.view_is, ← d.number-at.ensures) at d.rows_fit.ensures in
    let one = rw (← d.self.view_is, ← d.number-at.ensures) at d.requires.bimap in
    let was = rw d.as_slice.ensures.value at d.rows_at-before.ensures in
    let is = rw (d.as_slice-3.ensures.value, d.in-Ok.ensures.ok) at d.rows_at-after.ensures in
    let full = rw d.as_slice-2.ensures.value at (sym d.is_full_for_forced.ensures.full ∙ d.if-is_full_for_forced.false) in
    let room = forced_fits (base_at d.self.inside.slots.items d.number-at.result) (d.self.invariant.built.kinds d.number-at.result) one d.args.spot d.args.row.now fit fits spot d.self.inside.rows d.self.invariant.few full d.in-Ok.ensures.keys in
    let h = sound_edited s d.self.inside.rows d.number-at.result d.rows_at-before.result d.rows_at-after.result (forcing_at d.args.spot (base_at d.self.inside.slots.items d.number-at.result).rows (d.args.row.now ∷ [])) d.self.invariant lt d.in-Ok.ensures.keys was is room in
    rw d.in-Ok.ensures.ok (omega (arith, h.1.counted, h.1.few))
