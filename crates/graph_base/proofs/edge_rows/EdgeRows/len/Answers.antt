use Rattle.std.proofs.Common.{◌≤◌, length, subst}
use Rattle.std.specs.HashMap as hash
use Rattle.slab.specs.Slab.{get}
use Rattle.graph_base.specs.Ends.{same_ends}
use Rattle.graph_base.specs.Edges.{joining}
use Rattle.graph_base.specs.EdgeRows.{EdgeList}
use Rattle.graph_base.proofs.HeldEdges.{apart_held}
use Rattle.graph_base.proofs.edge_rows.EdgeRows.len.Goals as goal

pub returns-clause-apart : goal.returns-clause-apart
returns-clause-apart c a b =
    let m = c.self.inside in
    subst (λ (x : EdgeList). length (joining x.directed a b x.edges) ≤ 1) c.self.view_is (apart_held m.directed m.rows m.halves (hash.get same_ends m.index) (get m.numbers) c.self.invariant a b)
