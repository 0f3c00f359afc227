use Rattle.cell_rows.proofs.PutLemmas.{sorted_put}
use Rattle.cell_rows.proofs.cell_rows.placing.put_sorted.Goals as goal

pub returns-clause-ok : goal.returns-clause-ok
returns-clause-ok g c =
    sorted_put c.args.table.now c.put.new.self c.args.r c.args.c c.args.v c.len-len.ensures.order c.len-len_then.ensures.order c.in_ok-before.before c.in_ok-before.ensures.before c.in_ok-before.ensures.ok
