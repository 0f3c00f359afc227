use Rattle.base_store.proofs.BuiltLemmas.{sound_front}
use Rattle.base_store.proofs.store.Store.drop_temporary.Goals as goal

pub invariant_of-self : goal.invariant_of-self
invariant_of-self c = rw c.drop_temporary.ensures (sound_front _ _ _ c.self.invariant)
