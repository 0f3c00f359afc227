use Rattle.std.proofs.Common.{◌≡◌, ◌+◌, length}
use Rattle.std.specs.Map.{keys_of}
use Rattle.elem.specs.Keyed.{value_at}
use Rattle.graph_base.specs.Edges.{incident, without_edges_at}
use Rattle.graph_base.specs.Counted.{AreCounted}
use Rattle.graph_base.proofs.graph_edits.drop_edges_at.Given as goal

abbrev pub invariant-loop-step : goal.invariant-loop-step
invariant-loop-step l = record {
  counted : AreCounted (value_at l.nodes) l.edges.edges;
  keys : keys_of l.nodes ≡ keys_of l.fn.nodes;
  directed : l.edges.directed ≡ l.fn.edges.directed;
  others : without_edges_at l.a l.edges.edges ≡ without_edges_at l.a l.fn.edges.edges;
  fewer : length (incident l.a l.edges.edges) + l._step ≡ l.count;
}
