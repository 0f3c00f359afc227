use Rattle.std.proofs.Common.{subst}
use Rattle.machine.specs.Bases.{Base}
use Rattle.base_rows.proofs.PutLemmas.{both_ok}
use Rattle.base_rows.specs.BaseSpots.{HasKeys}
use Rattle.view_steps.proofs.WorldLemmas.{read_at}
use Rattle.base_store.proofs.store.writing.force_in.Goals as goal

pub returns-clause-keys : goal.returns-clause-keys
returns-clause-keys c d =
    rw (read_at d.args.slots.now.items d.args.b d.index_mut-slot.result.now d.requires.base d.index_mut-slot.ensures.value) (both_ok d.force.result (λ is keys. subst (λ (it : Base). HasKeys it) is keys) d.force.ensures.ok d.force.ensures.keys)
