use Rattle.base_store.proofs.store.Store.+comes_down.Given as goal

abbrev pub decreases-comes_down : goal.decreases-comes_down
decreases-comes_down l = l.n
