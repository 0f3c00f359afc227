use Rattle.std.proofs.Common.{length, sym, ap, ◌∙◌, subst, arith}
use Rattle.std.specs.Map.{keys_of}
use Rattle.elem.specs.Keyed.{value_at}
use Rattle.graph_base.specs.Graphs.{size}
use Rattle.graph_base.specs.Counted.{AreCounted}
use Rattle.graph_base.proofs.GraphSteps.{new_keys, new_counted}
use Rattle.graph_base.proofs.GraphLemmas.{with_key_le}
use Rattle.graph_base.proofs.GraphAnswers.{small_graph}
use Rattle.network_base.proofs.network_rows.NetworkRows.add_node.Goals as goal

pub invariant_of-self-2 : goal.invariant_of-self-2
invariant_of-self-2 g c =
    let m = c.self.inside in
    let a = c.args.a in
    let put = c.in_ok-new.ensures in
    let counted = subst (λ rows. AreCounted (value_at rows) m.edges) (sym put.rows) (new_counted m.nodes a c.in_ok-new.new put.answer m.edges c.self.invariant.counts) in
    let keys = ap length (ap keys_of put.rows ∙ new_keys m.nodes a c.in_ok-new.new put.answer) in
    let more = with_key_le a (keys_of m.nodes) in
    let total = ap size c.self.view_is in
    let room = c.requires in
    small_graph m.nodes c.put_node.new.nodes m.edges m.edges m.loops counted c.self.invariant.no_loops 1 (omega (arith, keys, more)) (omega arith) (omega (arith, total, room))
