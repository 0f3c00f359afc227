use Rattle.base_store.proofs.store.Store.+part_below.Given as goal

abbrev pub decreases-part_below : goal.decreases-part_below
decreases-part_below l = l.n
