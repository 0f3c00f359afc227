use Rattle.std.proofs.Common.{arith}
use Rattle.base_store.proofs.BuiltLemmas.{sound_more}
use Rattle.base_store.proofs.store.Store.new_base.Goals as goal

pub invariant_of-self-2 : goal.invariant_of-self-2
invariant_of-self-2 c =
    rw (c.in-Ok-add_base.ensures.slots, c.in-Ok-add_base.ensures.nodes, c.in-Ok.ensures.kind)
    (sound_more _ _ _ _ c.requires.known c.self.invariant (omega (arith, c.if-self-eq-MOST_HANDLES.false, c.self.invariant.handles)))
