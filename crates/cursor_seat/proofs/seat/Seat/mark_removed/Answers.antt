use Rattle.std.proofs.Common.{refl}
use Rattle.cursor_seat.proofs.RemoveLemmas.{is_back, stands_back}
use Rattle.cursor_seat.proofs.seat.Seat.mark_removed.Goals as goal

pub returns-clause-iterator : goal.returns-clause-iterator
returns-clause-iterator c = λ earlier gone.
    is_back earlier c.args.store.now c.args.self.now _ gone (record { node = refl; seen = c.of-self.ensures; passed = c.saturating_sub-self.ensures; stand = c.behind_gone-self.ensures })

pub returns-clause-fits : goal.returns-clause-fits
returns-clause-fits c = λ earlier gone.
    stands_back earlier c.args.store.now c.args.self.now _ gone c.is_there.ensures (record { node = refl; seen = c.of-self.ensures; passed = c.saturating_sub-self.ensures; stand = c.behind_gone-self.ensures })
