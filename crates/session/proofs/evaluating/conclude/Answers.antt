use Rattle.std.proofs.Common.{Ok, sym, ap}
use Rattle.session.specs.Bounds.{most_for}
use Rattle.session.specs.Following.{end_in}
use Rattle.session.specs.Targets.{stops}
use Rattle.session.proofs.BoundLemmas.{asks_nothing, same_bound}
use Rattle.session.proofs.EvalLemmas.{came_refused, came_to}
use Rattle.session.proofs.ReplyLemmas.{said_refusal}
use Rattle.session.proofs.evaluating.conclude.Goals as goal

pub returns-in-Ok-clause-came : goal.returns-in-Ok-clause-came
returns-in-Ok-clause-came g c = came_to c.args.store.now _ (end_in c.args.store.now (Ok c.in-Ok.end)) _ (sym (ap (end_in c.args.store.now) c.in-Ok.is)) c.conclude_at.ensures.came

pub returns-in-Err-clause-came : goal.returns-in-Err-clause-came
returns-in-Err-clause-came g c =
    let told = rw c.in-Err.is at c.requires.end in
    came_to c.args.store.now _ (stops c.in-Err.refusal) _ (sym (ap (end_in c.args.store.now) c.in-Err.is)) (came_refused c.args.store.now c.in-Err.refusal (said_refusal c.in-Err.refusal told c.refuse.ensures))

pub returns-in-Ok-clause-asked : goal.returns-in-Ok-clause-asked
returns-in-Ok-clause-asked g c =
    let s = c.args.store.now in
    same_bound _ _ c.args.steps.now c.conclude_at.new.steps (ap (λ e. most_for s.world (Ok (end_in s e))) (sym c.in-Ok.is)) c.conclude_at.ensures.asked

pub returns-in-Err-clause-asked : goal.returns-in-Err-clause-asked
returns-in-Err-clause-asked g c = asks_nothing (most_for c.args.store.now.world (Ok (end_in c.args.store.now c.args.end.now))) c.args.steps.now
