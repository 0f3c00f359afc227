use Rattle.session.proofs.TurnLemmas.{turned_truth, turned_untold}
use Rattle.session.proofs.iterating.look_ahead.Goals as goal

pub returns-in-Ok-clause-turned : goal.returns-in-Ok-clause-turned
returns-in-Ok-clause-turned g c = turned_truth c.args.store.now c.args.seat.now c.in-Ok.truth c.in-Ok.ensures.answer c.say_truth.ensures

pub returns-in-Err-clause-turned : goal.returns-in-Err-clause-turned
returns-in-Err-clause-turned g c = turned_untold c.args.store.now c.args.seat.now c.in-Err.refusal c.in-Err.ensures.answer c.refuse.ensures
