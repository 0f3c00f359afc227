use Rattle.vocabulary.specs.declared.items.Side.TheVariants.{First}
use Rattle.cell_rows.specs.CellRows.{cells_of}
use Rattle.cell_rows.specs.Threads.{along}
use Rattle.cell_rows.proofs.Apart.{line_distinct}
use Rattle.cell_rows.proofs.KeyLemmas.{follows_one, follows_none, follows_no_more}
use Rattle.cell_rows.proofs.cell_rows.CellRows.only_cell.Goals as goal

pub returns-in-Some-value_at-clause-next : goal.returns-in-Some-value_at-clause-next
returns-in-Some-value_at-clause-next g c = λ back.
    let cells = cells_of c.args.self.now in
    follows_one (along First c.args.r.now cells) c.args.c.now back c.args.from c.value_at.result c.in-Some-value_at.v (line_distinct First c.args.r.now cells c.len-len.ensures.spots) c.in-None.is c.value_at.ensures.value c.in-Some-value_at.is

pub returns-in-None-value_at-clause-next : goal.returns-in-None-value_at-clause-next
returns-in-None-value_at-clause-next g c = λ back.
    let cells = cells_of c.args.self.now in
    follows_none (along First c.args.r.now cells) c.args.c.now back c.args.from c.value_at.result (line_distinct First c.args.r.now cells c.len-len.ensures.spots) c.in-None.is c.value_at.ensures.value c.in-None-value_at.is

pub returns-in-Some-clause-next : goal.returns-in-Some-clause-next
returns-in-Some-clause-next g c = λ back.
    let cells = cells_of c.args.self.now in
    follows_no_more (along First c.args.r.now cells) c.args.c.now back c.args.from c.in-Some.field-0 (line_distinct First c.args.r.now cells c.len-len.ensures.spots) c.in-Some.is
