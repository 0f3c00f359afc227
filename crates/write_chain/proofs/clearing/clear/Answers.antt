use Rattle.base_store.specs.Stored.{view_in}
use Rattle.view_steps.specs.KnownViews.{number_under}
use Rattle.write_chain.proofs.clearing.clear.Goals as goal
use Rattle.view_steps.proofs.ChangeLemmas.{room}

pub drop_shown-requires-clause-change : goal.drop_shown-requires-clause-change
drop_shown-requires-clause-change g c = room c.args.store.now.world (number_under (view_in c.args.store.now c.args.n)) c.requires.change
