use Rattle.cell_rows.proofs.PutLemmas.{linked_result}
use Rattle.cell_rows.proofs.cell_rows.placing.put_linked.Goals as goal

pub returns-clause-ok : goal.returns-clause-ok
returns-clause-ok g c =
    linked_result c.args.table.now.cells c.args.r c.args.c c.args.v c.args.table.now.grouped c.len-len.ensures.distinct c.put.result c.put.new.self.cells c.put.ensures.before c.put.ensures.ok
