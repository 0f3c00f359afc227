use Rattle.std.proofs.Common.{None, Ok, sym, ap}
use Rattle.session.specs.declared.following.End.TheVariants.{View, Call, With}
use Rattle.session.specs.Bounds.{most_for}
use Rattle.session.specs.Following.{end_in}
use Rattle.session.proofs.BoundLemmas.{same_bound}
use Rattle.session.proofs.EvalLemmas.{came_shown, came_to}
use Rattle.session.proofs.evaluating.conclude_at.Goals as goal

pub returns-in-View-clause-came : goal.returns-in-View-clause-came
returns-in-View-clause-came g c = came_to c.args.store.now _ (end_in c.args.store.now (Ok (View c.in-View.n))) _ (sym (ap (λ e. end_in c.args.store.now (Ok e)) c.in-View.is)) (came_shown c.args.store.now c.in-View.n c.print.ensures.read c.print.ensures.said)

pub call_on-requires-clause-node : goal.call_on-requires-clause-node
call_on-requires-clause-node g c = (rw c.in-Call.is at c.requires.end).0

pub call_on-requires-clause-fits : goal.call_on-requires-clause-fits
call_on-requires-clause-fits g c = (rw c.in-Call.is at c.requires.end).1

pub returns-in-Call-clause-came : goal.returns-in-Call-clause-came
returns-in-Call-clause-came g c = came_to c.args.store.now _ (end_in c.args.store.now (Ok (Call c.in-Call.n c.in-Call.call))) _ (sym (ap (λ e. end_in c.args.store.now (Ok e)) c.in-Call.is)) c.call_on.ensures.came

pub call_on-requires-clause-known : goal.call_on-requires-clause-known
call_on-requires-clause-known g c = (rw c.in-Call.is at c.requires.end).2

pub call_with_on-requires-clause-known : goal.call_with_on-requires-clause-known
call_with_on-requires-clause-known g c = (rw c.in-With.is at c.requires.end).3

pub call_with_on-requires-clause-fits : goal.call_with_on-requires-clause-fits
call_with_on-requires-clause-fits g c = (rw c.in-With.is at c.requires.end).2

pub returns-in-With-clause-came : goal.returns-in-With-clause-came
returns-in-With-clause-came g c =
    came_to c.args.store.now _ (end_in c.args.store.now (Ok (With c.in-With.n c.in-With.word c.in-With.other))) _ (sym (ap (λ e. end_in c.args.store.now (Ok e)) c.in-With.is)) c.call_with_on.ensures

pub returns-in-View-clause-asked : goal.returns-in-View-clause-asked
returns-in-View-clause-asked g c = same_bound None _ c.args.steps.now c.print.new.steps (ap (λ e. most_for c.args.store.now.world (Ok (end_in c.args.store.now (Ok e)))) (sym c.in-View.is)) tt

pub returns-in-Call-clause-asked : goal.returns-in-Call-clause-asked
returns-in-Call-clause-asked g c =
    let s = c.args.store.now in
    same_bound _ _ c.args.steps.now c.call_on.new.steps (ap (λ e. most_for s.world (Ok (end_in s (Ok e)))) (sym c.in-Call.is)) c.call_on.ensures.asked

pub returns-in-With-clause-asked : goal.returns-in-With-clause-asked
returns-in-With-clause-asked g c = same_bound None _ c.args.steps.now c.call_with_on.new.steps (ap (λ e. most_for c.args.store.now.world (Ok (end_in c.args.store.now (Ok e)))) (sym c.in-With.is)) tt
