use Rattle.session.proofs.TurnLemmas.{turned_gone, turned_kept}
use Rattle.session.proofs.iterating.remove.Goals as goal

pub returns-in-Ok-clause-turned : goal.returns-in-Ok-clause-turned
returns-in-Ok-clause-turned g c = turned_gone c.args.store.now c.remove.new.store c.args.seat.now c.remove.new.self c.requires.fits c.in-Ok.ensures.came.0 c.in-Ok.ensures.came.1 c.say.ensures

pub returns-in-Err-clause-turned : goal.returns-in-Err-clause-turned
returns-in-Err-clause-turned g c = turned_kept c.args.store.now c.remove.new.store c.args.seat.now c.remove.new.self c.in-Err.refusal c.in-Err.ensures.came.0 c.in-Err.ensures.came.1 c.in-Err.ensures.came.2 c.refuse.ensures
