use Rattle.base_store.proofs.store.Store.+shows_each.Given as goal

abbrev pub decreases-shows_each : goal.decreases-shows_each
decreases-shows_each l = l.n
