use Rattle.std.proofs.Common.{Option, sym, subst}
use Rattle.session.specs.Iterating.{Turned}
use Rattle.vocabulary.specs.declared.lines.OnIterator.{OnIterator}
use Rattle.session.proofs.TurnLemmas.{turned_fault}
use Rattle.session.proofs.iterating.turn.Goals as goal

pub returns-in-None-clause-turned : goal.returns-in-None-clause-turned
returns-in-None-clause-turned g c =
    let s = c.args.store.now in
    subst (λ (w : Option OnIterator). Turned c.say.result s s c.args.seat.now c.args.seat.now w (g.S.Sink.taken c.args.out.now) (g.S.Sink.taken c.say.new.out) (g.S.Sink.faults c.args.out.now) (g.S.Sink.faults c.say.new.out)) (sym c.in-None.is) (turned_fault s c.args.seat.now c.say.ensures)
