use Rattle.std.proofs.Common.{arith}
use Rattle.machine.specs.Edits.{removing}
use Rattle.machine.specs.Bases.{base_at}
use Rattle.machine.specs.Views.{candidates}
use Rattle.base_store.specs.Stored.{Stored, view_in}
use Rattle.base_store.proofs.AnyShown.{any_removed}
use Rattle.base_store.proofs.BuiltLemmas.{sound_edited}
use Rattle.machine.specs.CallEdits.{all_hits}
use Rattle.base_store.specs.declared.store.Made.TheVariants.{Over}
use Rattle.base_store.specs.Nodes.{view_at}
use Rattle.base_store.proofs.store.Store.drop_reached.Goals as goal
use Rattle.view_steps.proofs.EditedRows.{removed_fits}

pub drop_in-requires-clause-below : goal.drop_in-requires-clause-below
drop_in-requires-clause-below c d = (λ n parent step is. d.self.invariant.built.below n (Over step parent) is)

pub overflow_sub-self : goal.overflow_sub-self
overflow_sub-self c d =
    let s : Stored = record { world = d.self.inside.slots.items; nodes = d.self.inside.nodes.made; lasting = d.self.inside.nodes.lasting; handles = d.self.inside.handles } in
    let gone = all_hits (c.T.RowTest.passes d.args.test.now) (candidates d.self.inside.slots.items (view_at d.self.inside.nodes.made d.number.result)) in
    let lt = rw (← d.self.view_is, ← d.number-at.ensures) at d.base_of.ensures.within in
    let was = rw d.as_slice.ensures.value at d.rows_at-before.ensures in
    let is = rw (d.as_slice-2.ensures.value, d.drop_in.ensures.after) at d.rows_at-after.ensures in
    let room = removed_fits d.self.inside.rows (base_at d.self.inside.slots.items d.number-at.result) gone d.self.invariant.few in
    let h = sound_edited s d.self.inside.rows d.number-at.result d.rows_at-before.result d.rows_at-after.result (removing gone) d.self.invariant lt d.drop_in.ensures.keys was is room in
    h.0

pub overflow_add-self : goal.overflow_add-self
overflow_add-self c d =
    let s : Stored = record { world = d.self.inside.slots.items; nodes = d.self.inside.nodes.made; lasting = d.self.inside.nodes.lasting; handles = d.self.inside.handles } in
    let gone = all_hits (c.T.RowTest.passes d.args.test.now) (candidates d.self.inside.slots.items (view_at d.self.inside.nodes.made d.number.result)) in
    let lt = rw (← d.self.view_is, ← d.number-at.ensures) at d.base_of.ensures.within in
    let was = rw d.as_slice.ensures.value at d.rows_at-before.ensures in
    let is = rw (d.as_slice-2.ensures.value, d.drop_in.ensures.after) at d.rows_at-after.ensures in
    let room = removed_fits d.self.inside.rows (base_at d.self.inside.slots.items d.number-at.result) gone d.self.invariant.few in
    let h = sound_edited s d.self.inside.rows d.number-at.result d.rows_at-before.result d.rows_at-after.result (removing gone) d.self.invariant lt d.drop_in.ensures.keys was is room in
    omega (arith, h.1.few)

pub invariant_of-self : goal.invariant_of-self
invariant_of-self c d =
    let s : Stored = record { world = d.self.inside.slots.items; nodes = d.self.inside.nodes.made; lasting = d.self.inside.nodes.lasting; handles = d.self.inside.handles } in
    let gone = all_hits (c.T.RowTest.passes d.args.test.now) (candidates d.self.inside.slots.items (view_at d.self.inside.nodes.made d.number.result)) in
    let lt = rw (← d.self.view_is, ← d.number-at.ensures) at d.base_of.ensures.within in
    let was = rw d.as_slice.ensures.value at d.rows_at-before.ensures in
    let is = rw (d.as_slice-2.ensures.value, d.drop_in.ensures.after) at d.rows_at-after.ensures in
    let room = removed_fits d.self.inside.rows (base_at d.self.inside.slots.items d.number-at.result) gone d.self.invariant.few in
    let h = sound_edited s d.self.inside.rows d.number-at.result d.rows_at-before.result d.rows_at-after.result (removing gone) d.self.invariant lt d.drop_in.ensures.keys was is room in
    rw d.drop_in.ensures.after h.1

pub returns-clause-few : goal.returns-clause-few
returns-clause-few c d =
    let s : Stored = record { world = d.self.inside.slots.items; nodes = d.self.inside.nodes.made; lasting = d.self.inside.nodes.lasting; handles = d.self.inside.handles } in
    let gone = all_hits (c.T.RowTest.passes d.args.test.now) (candidates d.self.inside.slots.items (view_at d.self.inside.nodes.made d.number.result)) in
    let lt = rw (← d.self.view_is, ← d.number-at.ensures) at d.base_of.ensures.within in
    let was = rw d.as_slice.ensures.value at d.rows_at-before.ensures in
    let is = rw (d.as_slice-2.ensures.value, d.drop_in.ensures.after) at d.rows_at-after.ensures in
    let room = removed_fits d.self.inside.rows (base_at d.self.inside.slots.items d.number-at.result) gone d.self.invariant.few in
    let h = sound_edited s d.self.inside.rows d.number-at.result d.rows_at-before.result d.rows_at-after.result (removing gone) d.self.invariant lt d.drop_in.ensures.keys was is room in
    rw d.drop_in.ensures.after (omega (arith, h.1.counted, h.1.few))

pub returns-clause-any : goal.returns-clause-any
returns-clause-any c d =
    let s : Stored = record { world = d.self.inside.slots.items; nodes = d.self.inside.nodes.made; lasting = d.self.inside.nodes.lasting; handles = d.self.inside.handles } in
    let lt = rw (← d.self.view_is, ← d.number-at.ensures) at d.base_of.ensures.within in
    let under = rw (← d.self.view_is, ← d.number-at.ensures) at d.base_of.ensures.base in
    let was = rw d.as_slice.ensures.value at d.rows_at-before.ensures in
    let after = rw d.number.ensures at d.drop_in.ensures.after in
    let is = rw (d.as_slice-2.ensures.value, after) at d.rows_at-after.ensures in
    rw (← d.self.view_is) (any_removed s.world (view_in s d.args.n) (rw (← d.self.view_is) at d.base_of.ensures.known) (c.T.RowTest.passes d.args.test.now) d.number-at.result d.rows_at-before.result d.rows_at-after.result lt under was is)
