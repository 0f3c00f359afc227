use Rattle.std.proofs.Common.{sym, subst}
use Rattle.base_store.specs.Stored.{view_in}
use Rattle.cursor_seat.specs.Seats.{AreUpTo}
use Rattle.machine.specs.Iterators.{changes}
use Rattle.cursor_seat.proofs.SeenLemmas.{up_to_same}
use Rattle.cursor_seat.proofs.seat.Seat.over.Goals as goal

pub returns-clause-fits : goal.returns-clause-fits
returns-clause-fits c =
    let now = changes c.args.store.now.world (view_in c.args.store.now c.args.n) in
    record { there = c.is_there.ensures; seen = subst (λ ns. AreUpTo ns now) (sym c.of.ensures) (up_to_same now); stands = λ fresh. tt }
