use Rattle.base_store.proofs.BuiltLemmas.{sound_empty}
use Rattle.base_store.proofs.store.Store.with_hasher.Goals as goal

pub invariant_of-result : goal.invariant_of-result
invariant_of-result c = rw (c.new.ensures.items, c.new-2.ensures) sound_empty
