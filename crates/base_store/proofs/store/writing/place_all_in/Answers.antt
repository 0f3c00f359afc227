use Rattle.std.proofs.Common.{◌+◌, ◌≤◌, length, subst}
use Rattle.machine.specs.Bases.{Base}
use Rattle.base_rows.proofs.PutLemmas.{both_ok}
use Rattle.view_steps.proofs.WorldLemmas.{read_at}
use Rattle.base_store.proofs.store.writing.place_all_in.Goals as goal

pub returns-clause-cause : goal.returns-clause-cause
returns-clause-cause c d = rw (read_at d.args.slots.now.items d.args.b d.index_mut-slot.result.now d.requires.base d.index_mut-slot.ensures.value) d.place_all.ensures.cause

pub returns-clause-few : goal.returns-clause-few
returns-clause-few c d =
    let before : Base = d.index_mut-slot.result.now in
    rw (read_at d.args.slots.now.items d.args.b before d.requires.base d.index_mut-slot.ensures.value)
    (both_ok d.place_all.result (λ is few. subst (λ (it : Base). length it.rows ≤ length before.rows + d.args.room) is few) d.place_all.ensures.ok d.place_all.ensures.few)
