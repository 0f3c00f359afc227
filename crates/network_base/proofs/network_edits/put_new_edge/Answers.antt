use Rattle.std.proofs.Common.{sym, ◌∙◌, subst}
use Rattle.elem.specs.Keyed.{value_at}
use Rattle.mm_base.proofs.Results.{on_ok_of}
use Rattle.graph_base.specs.Counted.{AreCounted}
use Rattle.graph_base.proofs.BothNodes.{first_there, second_there, both_counted, both_fit, both_back}
use Rattle.network_base.proofs.network_edits.put_new_edge.Goals as goal

pub returns-then-is_err-clause-nodes_kept : goal.returns-then-is_err-clause-nodes_kept
returns-then-is_err-clause-nodes_kept c = both_back c.args.nodes.now c.put_nodes.new.nodes c.args.a.now c.args.b.now c.in_ok-first.first c.in_ok-first.second c.in_ok-first.ensures.first c.in_ok-first.ensures.second c.in_ok-first.ensures.rows c.take_back.new.nodes c.take_back-then-is_err.new.nodes c.take_back.ensures c.take_back-then-is_err.ensures

pub count_edge-requires-clause-from : goal.count_edge-requires-clause-from
count_edge-requires-clause-from c = first_there c.args.nodes.now c.put_nodes.new.nodes c.args.a.now c.args.b.now c.in_ok-first.first c.in_ok-first.second c.in_ok-first.ensures.first c.in_ok-first.ensures.second c.in_ok-first.ensures.rows

pub count_edge-requires-clause-to : goal.count_edge-requires-clause-to
count_edge-requires-clause-to c = second_there c.args.nodes.now c.put_nodes.new.nodes c.args.a.now c.args.b.now c.in_ok-first.first c.in_ok-first.second c.in_ok-first.ensures.first c.in_ok-first.ensures.second c.in_ok-first.ensures.rows

pub count_edge-requires-clause-room : goal.count_edge-requires-clause-room
count_edge-requires-clause-room c = both_fit c.args.nodes.now c.put_nodes.new.nodes c.args.a.now c.args.b.now c.in_ok-first.first c.in_ok-first.second c.in_ok-first.ensures.first c.in_ok-first.ensures.second c.in_ok-first.ensures.rows c.args.edges.now c.requires.counted c.requires.small

pub returns-clause-counted : goal.returns-clause-counted
returns-clause-counted c =
    let counted = both_counted c.args.nodes.now c.put_nodes.new.nodes c.args.a.now c.args.b.now c.in_ok-first.first c.in_ok-first.second c.in_ok-first.ensures.first c.in_ok-first.ensures.second c.in_ok-first.ensures.rows c.args.edges.now c.requires.counted in
    let after = c.count_edge.ensures.counted c.args.edges.now c.args.x.now counted in
    let added = on_ok_of c.add.result (sym c.is_err.ensures.value ∙ c.if-is_err.false) c.add.ensures.ok in
    subst (AreCounted (value_at c.count_edge.new.nodes)) (sym added) after
