use Rattle.std.proofs.Common.{◌≤◌, length}
use Rattle.shelf.proofs.Pieces.{Feeding}
use Rattle.shelf.proofs.feeding.feed.Given as goal

-- the front of the piece is fed, and the sink's count has not fallen
abbrev pub invariant-loop-text : goal.invariant-loop-text
invariant-loop-text g l = record {
  feeding : Feeding l.fn.session l.session l.fn.line l.line l.piece l.rest (g.S.Sink.taken l.fn.sink) (g.S.Sink.taken l.sink);
  later : g.S.Sink.faults l.fn.sink ≤ g.S.Sink.faults l.sink;
}

abbrev pub decreases-loop-text : goal.decreases-loop-text
decreases-loop-text g l = length l.rest
