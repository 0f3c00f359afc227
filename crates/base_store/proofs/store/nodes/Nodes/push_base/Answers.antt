use Rattle.base_store.proofs.KeptLemmas.{tabled_base}
use Rattle.base_store.proofs.store.nodes.Nodes.push_base.Goals as goal

pub invariant_of-self-2 : goal.invariant_of-self-2
invariant_of-self-2 c = rw (c.in-Ok.ensures.items, c.clear.ensures, c.clear-2.ensures) (tabled_base _ c.self.inside.temporary_parts.items _ c.self.inside.temporary.items _ _ c.self.invariant)
