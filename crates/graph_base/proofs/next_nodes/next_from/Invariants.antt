use Rattle.std.proofs.Common.{◌≡◌, ℕ, ◌+◌, slice_get}
use Rattle.graph_base.specs.Edges.{incident}
use Rattle.graph_base.specs.Nexts.{end_from}
use Rattle.graph_base.proofs.NextLemmas.{first_from}
use Rattle.graph_base.proofs.next_nodes.next_from.Given as goal

abbrev pub invariant-loop-step : goal.invariant-loop-step
invariant-loop-step l =
    let at_node = incident l.a l.edges.edges in
    let leads = end_from l.edges.directed l.turned l.a in
    (k : ℕ) → slice_get at_node k ≡ l.fn.at → (slice_get at_node (k + l._step) ≡ l.at) × (first_from leads at_node (k + l._step) ≡ first_from leads at_node k)
