use Rattle.std.proofs.Common.{◌≡◌, ◌+◌, length}
use Rattle.std.specs.Map.{keys_of}
use Rattle.elem.specs.Keyed.{value_at}
use Rattle.graph_base.specs.Edges.{incident, without_edges_at}
use Rattle.graph_base.specs.Counted.{AreCounted}
use Rattle.network_base.proofs.network_edits.drop_edges_at.Given as goal

abbrev pub invariant-loop-step : goal.invariant-loop-step
invariant-loop-step l = record {
  counted : AreCounted (value_at l.nodes) l.edges;
  keys : keys_of l.nodes ≡ keys_of l.fn.nodes;
  others : without_edges_at l.a l.edges ≡ without_edges_at l.a l.fn.edges;
  fewer : length (incident l.a l.edges) + l._step ≡ l.count;
}
