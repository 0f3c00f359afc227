use Rattle.std.proofs.Common.{arith}
use Rattle.machine.specs.Edits.{edited, removing}
use Rattle.machine.specs.Bases.{base_at}
use Rattle.base_store.specs.Courses.{spots_at}
use Rattle.base_store.specs.Stored.{Stored}
use Rattle.base_store.proofs.BuiltLemmas.{sound_edited}
use Rattle.std.proofs.lemmas.List.{length-set}
use Rattle.base_store.proofs.store.Store.remove_row.Goals as goal
use Rattle.view_steps.proofs.EditedRows.{removed_fits}
use Rattle.base_store.proofs.SpotLemmas.{numbers_at}

pub rows_at-after-requires : goal.rows_at-after-requires
rows_at-after-requires c d =
    let lt = rw (← d.self.view_is, ← d.number-number.ensures) at d.requires.base in
    let at = numbers_at (spots_at d.self.inside.slots.items d.number-number.result) d.args.at.now (rw (← d.self.view_is, ← d.number-number.ensures) at d.requires.spot) in
    let after = d.remove_in.ensures.after at.0 at.1 in
    rw (d.as_slice-2.ensures.value, after) (omega (arith, lt, length-set d.self.inside.slots.items d.number-number.result (edited (base_at d.self.inside.slots.items d.number-number.result) (removing at.0))))

pub overflow_sub-self : goal.overflow_sub-self
overflow_sub-self c d =
    let s : Stored = record { world = d.self.inside.slots.items; nodes = d.self.inside.nodes.made; lasting = d.self.inside.nodes.lasting; handles = d.self.inside.handles } in
    let lt = rw (← d.self.view_is, ← d.number-number.ensures) at d.requires.base in
    let at = numbers_at (spots_at d.self.inside.slots.items d.number-number.result) d.args.at.now (rw (← d.self.view_is, ← d.number-number.ensures) at d.requires.spot) in
    let after = d.remove_in.ensures.after at.0 at.1 in
    let was = rw d.as_slice.ensures.value at d.rows_at-before.ensures in
    let is = rw (d.as_slice-2.ensures.value, after) at d.rows_at-after.ensures in
    let room = removed_fits d.self.inside.rows (base_at d.self.inside.slots.items d.number-number.result) at.0 d.self.invariant.few in
    let h = sound_edited s d.self.inside.rows d.number-number.result d.rows_at-before.result d.rows_at-after.result (removing at.0) d.self.invariant lt (d.remove_in.ensures.keys at.0 at.1) was is room in
    h.0

pub overflow_add-self : goal.overflow_add-self
overflow_add-self c d =
    let s : Stored = record { world = d.self.inside.slots.items; nodes = d.self.inside.nodes.made; lasting = d.self.inside.nodes.lasting; handles = d.self.inside.handles } in
    let lt = rw (← d.self.view_is, ← d.number-number.ensures) at d.requires.base in
    let at = numbers_at (spots_at d.self.inside.slots.items d.number-number.result) d.args.at.now (rw (← d.self.view_is, ← d.number-number.ensures) at d.requires.spot) in
    let after = d.remove_in.ensures.after at.0 at.1 in
    let was = rw d.as_slice.ensures.value at d.rows_at-before.ensures in
    let is = rw (d.as_slice-2.ensures.value, after) at d.rows_at-after.ensures in
    let room = removed_fits d.self.inside.rows (base_at d.self.inside.slots.items d.number-number.result) at.0 d.self.invariant.few in
    let h = sound_edited s d.self.inside.rows d.number-number.result d.rows_at-before.result d.rows_at-after.result (removing at.0) d.self.invariant lt (d.remove_in.ensures.keys at.0 at.1) was is room in
    omega (arith, h.1.few)

pub invariant_of-self : goal.invariant_of-self
invariant_of-self c d =
    let s : Stored = record { world = d.self.inside.slots.items; nodes = d.self.inside.nodes.made; lasting = d.self.inside.nodes.lasting; handles = d.self.inside.handles } in
    let lt = rw (← d.self.view_is, ← d.number-number.ensures) at d.requires.base in
    let at = numbers_at (spots_at d.self.inside.slots.items d.number-number.result) d.args.at.now (rw (← d.self.view_is, ← d.number-number.ensures) at d.requires.spot) in
    let after = d.remove_in.ensures.after at.0 at.1 in
    let was = rw d.as_slice.ensures.value at d.rows_at-before.ensures in
    let is = rw (d.as_slice-2.ensures.value, after) at d.rows_at-after.ensures in
    let room = removed_fits d.self.inside.rows (base_at d.self.inside.slots.items d.number-number.result) at.0 d.self.invariant.few in
    let h = sound_edited s d.self.inside.rows d.number-number.result d.rows_at-before.result d.rows_at-after.result (removing at.0) d.self.invariant lt (d.remove_in.ensures.keys at.0 at.1) was is room in
    rw after h.1

pub returns-clause-few : goal.returns-clause-few
returns-clause-few c d =
    let s : Stored = record { world = d.self.inside.slots.items; nodes = d.self.inside.nodes.made; lasting = d.self.inside.nodes.lasting; handles = d.self.inside.handles } in
    let lt = rw (← d.self.view_is, ← d.number-number.ensures) at d.requires.base in
    let at = numbers_at (spots_at d.self.inside.slots.items d.number-number.result) d.args.at.now (rw (← d.self.view_is, ← d.number-number.ensures) at d.requires.spot) in
    let after = d.remove_in.ensures.after at.0 at.1 in
    let was = rw d.as_slice.ensures.value at d.rows_at-before.ensures in
    let is = rw (d.as_slice-2.ensures.value, after) at d.rows_at-after.ensures in
    let room = removed_fits d.self.inside.rows (base_at d.self.inside.slots.items d.number-number.result) at.0 d.self.invariant.few in
    let h = sound_edited s d.self.inside.rows d.number-number.result d.rows_at-before.result d.rows_at-after.result (removing at.0) d.self.invariant lt (d.remove_in.ensures.keys at.0 at.1) was is room in
    rw after (omega (arith, h.1.counted, h.1.few))
