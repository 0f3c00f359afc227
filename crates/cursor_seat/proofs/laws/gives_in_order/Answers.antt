use Rattle.cursor_seat.proofs.LifeLemmas.{gives_in_order}
use Rattle.cursor_seat.proofs.laws.gives_in_order.Goals as goal

pub returns : goal.returns
returns c = gives_in_order
