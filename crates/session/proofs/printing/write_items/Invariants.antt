use Rattle.std.proofs.Common.{length, map}
use Rattle.base_store.specs.Stored.{view_in}
use Rattle.read_chain.specs.Walks.{to_come}
use Rattle.machine.specs.Texts.{item_text, listed}
use Rattle.machine.specs.Views.{shown}
use Rattle.session.proofs.PrintLemmas.{Printed}
use Rattle.session.proofs.printing.write_items.Given as goal

abbrev pub invariant-loop-item : goal.invariant-loop-item
invariant-loop-item g l = Printed (g.S.Sink.taken l.fn.out) (g.S.Sink.taken l.out) (g.S.Sink.faults l.fn.out) (g.S.Sink.faults l.out) l.fn.reply l.reply l.store l.walk l.is_first (listed (map item_text (shown l.store.world (view_in l.store l.fn.n))))

abbrev pub decreases-loop-item : goal.decreases-loop-item
decreases-loop-item g l = length (to_come l.store l.walk)
