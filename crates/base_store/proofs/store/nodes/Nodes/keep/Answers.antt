use Rattle.base_store.proofs.KeptLemmas.{all_last, tabled_kept}
use Rattle.base_store.proofs.store.nodes.Nodes.keep.Goals as goal

pub invariant_of-self-2 : goal.invariant_of-self-2
invariant_of-self-2 c =
    rw (c.in-Ok.ensures.items, c.in-Ok-extend_from_slice.ensures.items, c.as_slice.ensures.value, c.as_slice-2.ensures.value, c.clear.ensures, c.clear-2.ensures) (tabled_kept _ _ _ _ c.self.invariant)

pub returns-clause-ok : goal.returns-clause-ok
returns-clause-ok c =
    let parts = rw c.as_slice.ensures.value at c.in-Ok.ensures.items in
    let nodes = rw c.as_slice-2.ensures.value at c.in-Ok-extend_from_slice.ensures.items in
    rw (← c.self.view_is) (all_last _ _ _ _ _ _ _ _ c.self.invariant parts nodes c.clear-2.ensures c.clear.ensures)
