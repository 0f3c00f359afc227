use Rattle.std.proofs.Common.{◌∙◌}
use Rattle.graph_base.proofs.NodesLemmas.{taken_new}
use Rattle.graph_base.proofs.degrees.put_nodes.Goals as goal

pub returns-in-Err-clause-err : goal.returns-in-Err-clause-err
returns-in-Err-clause-err c = c.take_back.ensures ∙ taken_new c.args.nodes.now c.put_node-2.new.nodes c.args.a.now c.in_ok-first.first c.in_ok-first.ensures.answer (c.in-Err.ensures.err ∙ c.in_ok-first.ensures.rows)
