use Rattle.base_store.proofs.store.Store.made.Goals as goal

pub returns-clause-below : goal.returns-clause-below
returns-clause-below c = rw (← c.self.view_is) (c.self.invariant.built.below c.args.n c.made.result c.made.ensures)
